-- Why a shell always fits, and why the grey list has room: sums over the cells, and what each change does to them.
use Rattle.std.proofs.Common.{◌≡◌, ℕ, ◌+◌, ◌-◌, ◌<◌, ◌≤◌, Bool, true, false, List, [], ◌∷◌, length, refl, ap, arith}
use Rattle.std.specs.Prelude.{sum_by, Option, Some, None}
use Rattle.std.proofs.lemmas.List.{length-replicate}
use Rattle.std.proofs.lemmas.List.Sums.{sum_by-cons, sum_by-le-sum_by}
use Rattle.object_memory.specs.declared.addresses.Addr.{Addr}
use Rattle.object_memory.specs.declared.kinds.Kind.{Kind}
use Rattle.object_memory.specs.Cells.{Cell, Cells, size, used_words, free_words, next_address, cell_in, change_in, with_last, empty_cell}
use Rattle.object_memory.specs.Spaces.{Spaces, AreSpaces, change_at, with_old, with_new, with_shell, shell_of, set_mark, set_other, open_cycle, size_without_copy, words_without_copies, white, whites, HasShellRoom, HasGreyRoom}
use Rattle.object_memory.proofs.Blocks.{part_in, used_last, sum_last, sum_in, used_in, unchanged_in}
use Rattle.object_memory.proofs.TwoSpaces.TwoBlocks.{not_new, AreSpaces-with_new}

-- ---- the copy always fits

bare_none : (c : Cell) → c.other ≡ None → size_without_copy c ≡ size c
bare_none c e = rw e refl

bare_some : (c : Cell) (b : Addr) → c.other ≡ Some b → size_without_copy c ≡ 0
bare_some c b e = rw e refl

bare_le : (c : Cell) (o : Option Addr) → c.other ≡ o → size_without_copy c ≤ size c
bare_le c None e = omega (arith, bare_none c e)
bare_le c (Some b) e = omega (arith, bare_some c b e)

pub size-empty : (k : Kind) (n : ℕ) (b : Bool) (o : Option Addr) → size (empty_cell k n b o) ≡ 3 + n
size-empty k n b o = ap (λ l. 3 + l) (length-replicate {A = ℕ} n 0)

pub size-shell : (a : Addr) (c : Cell) → size (shell_of a c) ≡ size c
size-shell a c = size-empty c.kind (length c.slots) false (Some a)

-- a changed cell takes the others' part, its own before, and its own after
bare_more : (s : Cells) (f : Cell → Cell) (a : Addr) (c : Cell) → cell_in s a ≡ Some c → words_without_copies (change_in f s a).cells + size_without_copy c ≡ words_without_copies s.cells + size_without_copy (f c)
bare_more s f a c e = sum_in f size_without_copy s a c e

-- the cells that have no other copy take at most all words in use
pub size_without_copy-le-used : (s : Cells) → words_without_copies s.cells ≤ used_words s.cells
size_without_copy-le-used s = sum_by-le-sum_by size_without_copy size s.cells (λ c. bare_le c c.other refl)

module _ (m : Spaces) (h : AreSpaces m) (room : HasShellRoom m) where
  -- a copy of a cell that has none fits
  pub shell_fits : (a : Addr) (c : Cell) → cell_in m.old a ≡ Some c → c.other ≡ None → size (shell_of a c) ≤ free_words m.new
  shell_fits a c e other =
      let part = part_in size_without_copy m.old a c e in
      omega (arith, part, bare_none c other, size-shell a c, room.words, room.long, h.old.fits)

  -- and the next one does too
  pub HasShellRoom-shell : (a : Addr) (c : Cell) → cell_in m.old a ≡ Some c → c.other ≡ None → HasShellRoom (with_shell m a c)
  HasShellRoom-shell a c e other =
      let b = next_address m.new in
      let fits = shell_fits a c e other in
      let wide = AreSpaces-with_new m (shell_of a c) h fits in
      let alone = unchanged_in (set_other b) (with_last m.new (shell_of a c)) a (not_new (with_new m (shell_of a c)) wide a c e) in
      let new = ap (λ (s : Cells). used_words s.cells) alone in
      let more = used_last m.new (shell_of a c) in
      let moved = bare_more m.old (set_other b) a c e in
      let kept = used_in (set_other b) (λ x. refl) m.old a in
      record {
        words = omega (arith, new, more, moved, kept, bare_none c other, size-shell a c, room.words);
        long = room.long;
      }

  -- a birth in the old block alone, and one in both
  pub HasShellRoom-with_old : (c : Cell) → HasShellRoom (with_old m c)
  HasShellRoom-with_old c =
      record {
        words = omega (arith, used_last m.old c, sum_last size_without_copy m.old c, bare_le c c.other refl, room.words);
        long = room.long;
      }

  pub HasShellRoom-with_both : (c d : Cell) (b : Addr) → c.other ≡ Some b → size d ≡ size c → HasShellRoom (with_new (with_old m c) d)
  HasShellRoom-with_both c d b other same =
      record {
        words = omega (arith, used_last m.old c, used_last m.new d, sum_last size_without_copy m.old c, bare_some c b other, same, room.words);
        long = room.long;
      }

  -- a change that leaves the other copies
  pub HasShellRoom-change : (f : Cell → Cell) → ((c : Cell) → size (f c) ≡ size c) → ((c : Cell) → (f c).other ≡ c.other) → (a : Addr) → HasShellRoom (change_at f m a)
  HasShellRoom-change f keeps others a = record { words = omega (arith, used_in f keeps m.old a, used_in f keeps m.new a, bare_stays (cell_in m.old a) refl, room.words); long = room.long }
    where
      bare_stays : (o : Option Cell) → cell_in m.old a ≡ o → words_without_copies (change_in f m.old a).cells ≡ words_without_copies m.old.cells
      bare_stays None e = ap (λ (s : Cells). words_without_copies s.cells) (unchanged_in f m.old a e)
      bare_stays (Some c) e =
          let same : size_without_copy (f c) ≡ size_without_copy c = rw (others c, keeps c) refl in
          omega (arith, same, bare_more m.old f a c e)

-- it holds where a cycle opens, whose new block is at least as long
pub HasShellRoom-opened : (m : Spaces) (words : ℕ) → m.old.words ≤ words → HasShellRoom (open_cycle m words)
HasShellRoom-opened m words long = record { words = omega (arith, size_without_copy-le-used m.old); long = long }

-- ---- the grey list has room

white-le : (c : Cell) (b : Bool) → c.marked ≡ b → white c ≤ 1
white-le c true e = rw e (omega arith)
white-le c false e = rw e (omega arith)

-- each cell takes three words at least
pub whites-le : (s : Cells) → whites s.cells + whites s.cells + whites s.cells ≤ used_words s.cells
whites-le s = omega (arith, thrice s.cells, sum_by-le-sum_by thrice_white size s.cells few)
  where
    thrice_white : Cell → ℕ
    thrice_white c = white c + white c + white c

    few : (c : Cell) → thrice_white c ≤ size c
    few c = omega (arith, white-le c c.marked refl)

    thrice : (cs : List Cell) → sum_by thrice_white cs ≡ whites cs + whites cs + whites cs
    thrice [] = refl
    thrice (c ∷ cs) = omega (arith, thrice cs, sum_by-cons thrice_white c cs, sum_by-cons white c cs)

-- a list with room for a third of the block's words has room for every cell
pub HasGreyRoom-opened : (s : Cells) (spare : ℕ) → used_words s.cells ≤ s.words → s.words ≤ spare + spare + spare + 2 → HasGreyRoom s spare
HasGreyRoom-opened s spare fits long = omega (arith, whites-le s, fits, long)

module _ (s : Cells) (spare : ℕ) (room : HasGreyRoom s spare) where
  white_is : (c : Cell) → c.marked ≡ false → white c ≡ 1
  white_is c e = rw e refl

  black_is : (c : Cell) → c.marked ≡ true → white c ≡ 0
  black_is c e = rw e refl

  -- there is room for a cell that isn't marked
  pub grey_fits : (a : Addr) (c : Cell) → cell_in s a ≡ Some c → c.marked ≡ false → 0 < spare
  grey_fits a c e unmarked = omega (arith, part_in white s a c e, white_is c unmarked, room)

  -- and once it is marked and on the list, for the next one
  pub HasGreyRoom-mark : (a : Addr) (c : Cell) → cell_in s a ≡ Some c → c.marked ≡ false → HasGreyRoom (change_in set_mark s a) (spare - 1)
  HasGreyRoom-mark a c e unmarked =
      omega (arith, grey_fits a c e unmarked, sum_in set_mark white s a c e, white_is c unmarked, used_in set_mark (λ x. refl) s a, room)

  pub HasGreyRoom-listed : (c : Cell) → c.marked ≡ true → size c ≤ free_words s → HasGreyRoom (with_last s c) (spare - 1)
  HasGreyRoom-listed c marked fits = omega (arith, fits, sum_last white s c, black_is c marked, used_last s c, room)

  -- or which isn't
  pub HasGreyRoom-born : (c : Cell) → size c ≤ free_words s → HasGreyRoom (with_last s c) spare
  HasGreyRoom-born c fits = omega (arith, fits, sum_last white s c, white-le c c.marked refl, used_last s c, room)

  -- a change that leaves the marks
  pub HasGreyRoom-change : (f : Cell → Cell) → ((c : Cell) → size (f c) ≡ size c) → ((c : Cell) → (f c).marked ≡ c.marked) → (a : Addr) → HasGreyRoom (change_in f s a) spare
  HasGreyRoom-change f keeps marks a = omega (arith, used_in f keeps s a, whites_stay (cell_in s a) refl, room)
    where
      whites_stay : (o : Option Cell) → cell_in s a ≡ o → whites (change_in f s a).cells ≡ whites s.cells
      whites_stay None e = ap (λ (x : Cells). whites x.cells) (unchanged_in f s a e)
      whites_stay (Some c) e =
          let same : white (f c) ≡ white c = rw (marks c) refl in
          omega (arith, same, sum_in f white s a c e)
