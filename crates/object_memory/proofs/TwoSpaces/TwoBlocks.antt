-- Two blocks: which cell lies where after each change, for those above, who need nothing of sizes and offsets.
use Rattle.std.proofs.Common.{◌≡◌, ◌≢◌, ◌⊎◌, inl, inr, ℕ, ◌+◌, ◌<◌, ◌≤◌, Bool, true, false, refl, sym, ap, subst, ◌∙◌, arith}
use Rattle.std.specs.Prelude.{◌==◌, nat_lt, Option, Some, None, IsSome, unwrap_or}
use Rattle.std.proofs.Math.ListN.{length-set}
use Rattle.std.proofs.lemmas.Bool.Decides.{nat_tests}
use Rattle.cil_model.specs.declared.limits.TheConstants.{MOST_WORDS}
use Rattle.object_memory.specs.declared.addresses.Addr.{Addr}
use Rattle.object_memory.specs.declared.addresses.TheConstants.{FIRST_LITERAL}
use Rattle.object_memory.specs.Cells.{Cell, Cells, size, used_words, free_words, first, null, literal_number, store_slot, cell_in, change_in, with_last}
use Rattle.object_memory.specs.Spaces.{Spaces, second, other_start, first_of, cell_at, change_at, IsSpace, AreSpaces, with_old, with_new, other_of, forward, open_cycle, close_cycle}
use Rattle.object_memory.proofs.Blocks.{range_in, used_last, own_in, other_in, used_in, unchanged_in}

-- ---- where cells lie

some_none : {A : Type 0} (x : A) → Some x ≡ None → ⊥
some_none x e = absurd cc

module _ (m : Spaces) (h : AreSpaces m) where
  -- the addresses of two blocks are apart
  pub apart : (a b : Addr) (c d : Cell) → cell_in m.old a ≡ Some c → cell_in m.new b ≡ Some d → a.number ≢ b.number
  apart a b c d e e' same =
      let r = range_in m.old a c e in
      let r' = range_in m.new b d e' in
      elim h.old.start [
        | inl start ↦ absurd (omega (arith, start, same, r.0, r.1, r'.0, r'.1, h.apart, h.old.fits, h.old.few, h.new.fits, h.new.few))
        | inr start ↦ absurd (omega (arith, start, same, r.0, r.1, r'.0, r'.1, h.apart, h.old.fits, h.old.few, h.new.fits, h.new.few))
      ]

  not_old_by : (a : Addr) (d : Cell) (o : Option Cell) → cell_in m.new a ≡ Some d → cell_in m.old a ≡ o → cell_in m.old a ≡ None
  not_old_by a d None e is = is
  not_old_by a d (Some c) e is = elim (apart a a c d is e refl) [ ]

  -- no old cell lies where a new one does
  pub not_old : (a : Addr) (d : Cell) → cell_in m.new a ≡ Some d → cell_in m.old a ≡ None
  not_old a d e = not_old_by a d (cell_in m.old a) e refl

  not_new_by : (a : Addr) (c : Cell) (o : Option Cell) → cell_in m.old a ≡ Some c → cell_in m.new a ≡ o → cell_in m.new a ≡ None
  not_new_by a c None e is = is
  not_new_by a c (Some d) e is = elim (apart a a c d e is refl) [ ]

  pub not_new : (a : Addr) (c : Cell) → cell_in m.old a ≡ Some c → cell_in m.new a ≡ None
  not_new a c e = not_new_by a c (cell_in m.new a) e refl

  pub new_is_cell : (a : Addr) (c : Cell) → cell_in m.new a ≡ Some c → cell_at m a ≡ Some c
  new_is_cell a c e = let none = not_old a c e in rw (none, e) refl

  -- no cell has the address of null or of a literal
  in_space : (s : Cells) → IsSpace s → (a : Addr) (c : Cell) → cell_in s a ≡ Some c → (0 < a.number) × (a.number < FIRST_LITERAL)
  in_space s k a c e =
      let r = range_in s a c e in
      elim k.start [
        | inl start ↦ (omega (arith, start, r.0, r.1, k.fits, k.few), omega (arith, start, r.0, r.1, k.fits, k.few))
        | inr start ↦ (omega (arith, start, r.0, r.1, k.fits, k.few), omega (arith, start, r.0, r.1, k.fits, k.few))
      ]

some_cell : (o : Option Cell) → IsSome o → (c : Cell) × (o ≡ Some c)
some_cell None some = absurd cc
some_cell (Some c) some = (c, refl)

-- the cell of an address is an old or a new one
pub old_is_cell : (m : Spaces) (a : Addr) (c : Cell) → cell_in m.old a ≡ Some c → cell_at m a ≡ Some c
old_is_cell m a c e = rw e refl

either_by : (x y : Option Cell) (c : Cell) → first_of x y ≡ Some c → (x ≡ Some c) ⊎ (y ≡ Some c)
either_by None y c e = inr e
either_by (Some d) y c e = inl e

pub either : (m : Spaces) (a : Addr) (c : Cell) → cell_at m a ≡ Some c → (cell_in m.old a ≡ Some c) ⊎ (cell_in m.new a ≡ Some c)
either m a c e = either_by (cell_in m.old a) (cell_in m.new a) c e

pub are_distinct : (m : Spaces) → AreSpaces m → (a : Addr) (c : Cell) → cell_at m a ≡ Some c → (0 < a.number) × (a.number < FIRST_LITERAL)
are_distinct m h a c e = elim (either m a c e) [
  | inl old ↦ in_space m h m.old h.old a c old
  | inr new ↦ in_space m h m.new h.new a c new
]

pub null_no_cell : (m : Spaces) → AreSpaces m → cell_at m null ≡ None
null_no_cell m h = by_cell (cell_at m null) refl
  where
    by_cell : (o : Option Cell) → cell_at m null ≡ o → cell_at m null ≡ None
    by_cell None e = e
    by_cell (Some c) e = absurd (omega (arith, (are_distinct m h null c e).0))

pub no_literal : (m : Spaces) → AreSpaces m → (a : Addr) (c : Cell) → cell_at m a ≡ Some c → literal_number a ≡ None
no_literal m h a c e =
    let low = (are_distinct m h a c e).1 in
    let test : nat_lt a.number FIRST_LITERAL ≡ true = grind (arith, nat_tests) in
    rw test refl

-- for those who know that a cell is there
pub not_at_null : (m : Spaces) → AreSpaces m → (a : Addr) → IsSome (cell_at m a) → a ≢ null
not_at_null m h a some e =
    let c = some_cell (cell_at m a) some in
    let zero = ap (λ (x : Addr). x.number) e in
    absurd (omega (arith, zero, (are_distinct m h a c.0 c.1).0))

pub not_at_literals : (m : Spaces) → AreSpaces m → (a : Addr) → IsSome (cell_at m a) → literal_number a ≡ None
not_at_literals m h a some = let c = some_cell (cell_at m a) some in no_literal m h a c.0 c.1

-- ---- a changed cell

-- what was at b, where the cell at a was changed: another cell, or the same
pub data IsAfter (f : Cell → Cell) (a b : Addr) (c d : Cell) : Type 0 where
  own : b.number ≡ a.number → d ≡ f c → IsAfter f a b c d
  still : a.number ≢ b.number → d ≡ c → IsAfter f a b c d

module _ (f : Cell → Cell) (keeps : (c : Cell) → size (f c) ≡ size c) where
  -- one block
  after_by : (s : Cells) (a b : Addr) (d : Cell) (t : Bool) (o : Option Cell) → (b.number == a.number) ≡ t → cell_in s b ≡ o → cell_in (change_in f s a) b ≡ Some d
      → (c : Cell) × (cell_in s b ≡ Some c) × IsAfter f a b c d
  after_by s a b d true (Some c) test is e =
      let same : b.number ≡ a.number = grind (arith, nat_tests) in
      let there : cell_in s a ≡ Some c = subst (λ (n : ℕ). cell_in s (record { number = n }) ≡ Some c) same is in
      let now : cell_in (change_in f s a) b ≡ Some (f c) = subst (λ (n : ℕ). cell_in (change_in f s a) (record { number = n }) ≡ Some (f c)) (sym same) (own_in f s a c there) in
      let equal : d ≡ f c = cc in
      (c, is, own same equal)
  after_by s a b d true None test is e =
      let same : b.number ≡ a.number = grind (arith, nat_tests) in
      let there : cell_in s a ≡ None = subst (λ (n : ℕ). cell_in s (record { number = n }) ≡ None) same is in
      let whole = unchanged_in f s a there in
      let now : cell_in s b ≡ Some d = subst (λ x. cell_in x b ≡ Some d) whole e in
      absurd cc
  after_by s a b d false o test is e =
      let ne : a.number ≢ b.number = grind (arith, nat_tests) in
      let now : cell_in s b ≡ Some d = sym (other_in f keeps s a b ne) ∙ e in
      (d, now, still ne refl)

  pub after_in : (s : Cells) (a b : Addr) (d : Cell) → cell_in (change_in f s a) b ≡ Some d → (c : Cell) × (cell_in s b ≡ Some c) × IsAfter f a b c d
  after_in s a b d e = after_by s a b d (b.number == a.number) (cell_in s b) refl refl e

  -- the cell that was there lies there still, changed or not
  before_by : (s : Cells) (a b : Addr) (c : Cell) (t : Bool) → (b.number == a.number) ≡ t → cell_in s b ≡ Some c
      → (d : Cell) × (cell_in (change_in f s a) b ≡ Some d) × IsAfter f a b c d
  before_by s a b c true test is =
      let same : b.number ≡ a.number = grind (arith, nat_tests) in
      let there : cell_in s a ≡ Some c = subst (λ (n : ℕ). cell_in s (record { number = n }) ≡ Some c) same is in
      let now : cell_in (change_in f s a) b ≡ Some (f c) = subst (λ (n : ℕ). cell_in (change_in f s a) (record { number = n }) ≡ Some (f c)) (sym same) (own_in f s a c there) in
      (f c, now, own same refl)
  before_by s a b c false test is =
      let ne : a.number ≢ b.number = grind (arith, nat_tests) in
      (c, other_in f keeps s a b ne ∙ is, still ne refl)

  pub before_in : (s : Cells) (a b : Addr) (c : Cell) → cell_in s b ≡ Some c → (d : Cell) × (cell_in (change_in f s a) b ≡ Some d) × IsAfter f a b c d
  before_in s a b c e = before_by s a b c (b.number == a.number) refl e

  -- both blocks
  module _ (m : Spaces) (a : Addr) where
    pub change-is_space : (s : Cells) → IsSpace s → IsSpace (change_in f s a)
    change-is_space s k = record { start = k.start; fits = rw (used_in f keeps s a) k.fits; few = k.few }

    pub AreSpaces-change : AreSpaces m → AreSpaces (change_at f m a)
    AreSpaces-change h = record { old = change-is_space m.old h.old; new = change-is_space m.new h.new; apart = h.apart }

    pub change-other : (b : Addr) → a.number ≢ b.number → cell_at (change_at f m a) b ≡ cell_at m b
    change-other b ne = rw (other_in f keeps m.old a b ne, other_in f keeps m.new a b ne) refl

-- read after write
change-own_by : (f : Cell → Cell) (m : Spaces) (a : Addr) (c : Cell) (o : Option Cell) → cell_in m.old a ≡ o → first_of o (cell_in m.new a) ≡ Some c → cell_at (change_at f m a) a ≡ Some (f c)
change-own_by f m a c (Some d) is e =
    let same : d ≡ c = cc in
    old_is_cell (change_at f m a) a (f c) (own_in f m.old a c (is ∙ ap Some same))
change-own_by f m a c None is e =
    let stays : cell_in (change_in f m.old a) a ≡ None = subst (λ s. cell_in s a ≡ None) (sym (unchanged_in f m.old a is)) is in
    rw stays (own_in f m.new a c e)

pub change-own : (f : Cell → Cell) (m : Spaces) (a : Addr) (c : Cell) → cell_at m a ≡ Some c → cell_at (change_at f m a) a ≡ Some (f c)
change-own f m a c e = change-own_by f m a c (cell_in m.old a) refl e

-- a change at the address of a new cell leaves the old block
pub change-new_alone : (f : Cell → Cell) (m : Spaces) → AreSpaces m → (a : Addr) (c : Cell) → cell_in m.new a ≡ Some c → change_at f m a ≡ record m { new = change_in f m.new a }
change-new_alone f m h a c e = ap (λ s. record m { old = s; new = change_in f m.new a }) (unchanged_in f m.old a (not_old m h a c e))

-- the changes there are
pub slot_keeps : (i w : ℕ) (c : Cell) → size (store_slot i w c) ≡ size c
slot_keeps i w c = ap (λ n. 3 + n) (length-set c.slots i w)

-- ---- one cell more

fits_free : (s : Cells) (n : ℕ) → used_words s.cells ≤ s.words → n ≤ free_words s → used_words s.cells + n ≤ s.words
fits_free s n fits room = omega (arith, fits, room)

last-is_space : (s : Cells) (c : Cell) → IsSpace s → size c ≤ free_words s → IsSpace (with_last s c)
last-is_space s c k room = record { start = k.start; fits = rw (used_last s c) (fits_free s (size c) k.fits room); few = k.few }

module _ (m : Spaces) (c : Cell) where
  pub AreSpaces-with_old : AreSpaces m → size c ≤ free_words m.old → AreSpaces (with_old m c)
  AreSpaces-with_old h room = record { old = last-is_space m.old c h.old room; new = h.new; apart = h.apart }

  pub AreSpaces-with_new : AreSpaces m → size c ≤ free_words m.new → AreSpaces (with_new m c)
  AreSpaces-with_new h room = record { old = h.old; new = last-is_space m.new c h.new room; apart = h.apart }

-- ---- forwards

pub forward_copy : (m : Spaces) (a b : Addr) (c : Cell) → cell_in m.old a ≡ Some c → c.other ≡ Some b → forward m a ≡ b
forward_copy m a b c e other = rw (e, other) refl

pub forward_bare : (m : Spaces) (a : Addr) (c : Cell) → cell_in m.old a ≡ Some c → c.other ≡ None → forward m a ≡ a
forward_bare m a c e other = rw (e, other) refl

-- of what is no old cell: null, a literal, a new cell
pub forward_else : (m : Spaces) (a : Addr) → cell_in m.old a ≡ None → forward m a ≡ a
forward_else m a e = rw e refl

pub forward_new : (m : Spaces) → AreSpaces m → (a : Addr) (c : Cell) → cell_in m.new a ≡ Some c → forward m a ≡ a
forward_new m h a c e = forward_else m a (not_old m h a c e)

none_old_by : (m : Spaces) (a : Addr) (o : Option Cell) → cell_in m.old a ≡ o → first_of o (cell_in m.new a) ≡ None → cell_in m.old a ≡ None
none_old_by m a None is e = is
none_old_by m a (Some c) is e = elim (some_none c e) [ ]

pub forward_null : (m : Spaces) → AreSpaces m → forward m null ≡ null
forward_null m h = forward_else m null (none_old_by m null (cell_in m.old null) refl (null_no_cell m h))

-- a change that leaves the other copies leaves the forwards
module _ (f : Cell → Cell) (keeps : (c : Cell) → size (f c) ≡ size c) (others : (c : Cell) → (f c).other ≡ c.other) where
  others_by : (s : Cells) (a b : Addr) (o : Option Cell) → cell_in s b ≡ o → other_of (cell_in (change_in f s a) b) ≡ other_of (cell_in s b)
  others_by s a b (Some c) is =
      let r = before_in f keeps s a b c is in
      elim r.2 [
        | own same equal ↦ rw (r.1, is, equal) (others c)
        | still ne equal ↦ rw (r.1, is, equal) refl
      ]
  others_by s a b None is = none_stays (cell_in (change_in f s a) b) refl
    where
      none_stays : (o : Option Cell) → cell_in (change_in f s a) b ≡ o → other_of (cell_in (change_in f s a) b) ≡ other_of (cell_in s b)
      none_stays None now = rw (now, is) refl
      none_stays (Some d) now = let r = after_in f keeps s a b d now in elim (some_none r.0 (sym r.1 ∙ is)) [ ]

  pub forward-change : (m : Spaces) (a b : Addr) → forward (change_at f m a) b ≡ forward m b
  forward-change m a b = ap (λ o. unwrap_or o b) (others_by m.old a b (cell_in m.old b) refl)

-- ---- cycles

module _ (m : Spaces) (h : AreSpaces m) where
  pub AreSpaces-opened : (words : ℕ) → words ≤ MOST_WORDS → AreSpaces (open_cycle m words)
  AreSpaces-opened words few = record {
    old = h.old;
    new = record { start = start; fits = omega arith; few = few };
    apart = elim h.old.start [ inl s ↦ omega (arith, s) | inr s ↦ omega (arith, s) ];
  }
    where
      start : (other_start m.old.start ≡ first) ⊎ (other_start m.old.start ≡ second)
      start = elim h.old.start [ inl s ↦ inr (omega (arith, s)) | inr s ↦ inl (omega (arith, s)) ]

  pub AreSpaces-closed : AreSpaces (close_cycle m)
  AreSpaces-closed = record { old = h.new; new = record { start = h.old.start; fits = omega arith; few = omega arith }; apart = omega (arith, h.apart) }

  -- the old cells go, and the new ones lie where they lay
  pub closed-new : (a : Addr) (c : Cell) → cell_in m.new a ≡ Some c → cell_at (close_cycle m) a ≡ Some c
  closed-new a c e = old_is_cell (close_cycle m) a c e
