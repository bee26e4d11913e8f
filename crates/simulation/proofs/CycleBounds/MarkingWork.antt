-- How much marking is left in a heap: a mark takes of it what its scan costs, and a birth what its cell takes of the free words; so it never grows.
use Rattle.std.proofs.Common.{◌≡◌, ◌+◌, ◌-◌, ◌≤◌, ◌<◌, ℕ, Bool, true, false, if◌then◌else◌, List, [], ◌∷◌, ◌++◌, length, Option, Some, None, refl, sym, ap, ◌∙◌, arith}
use Rattle.std.specs.Prelude.{All, is_some, option_map, sum_by, unwrap_or}
use Rattle.std.proofs.lemmas.List.{length-replicate}
use Rattle.std.proofs.lemmas.List.Elements.{All-head, All-push, All-tail, All-weaker}
use Rattle.std.proofs.lemmas.List.Sums.{sum_by-append, sum_by-cons, sum_by-le-sum_by}
use Rattle.std.proofs.lemmas.Option.{none-some}
use Rattle.interpreter.specs.object_memory.declared.addresses.Addr.{Addr}
use Rattle.interpreter.specs.object_memory.declared.kinds.Kind.{Kind}
use Rattle.interpreter.specs.object_memory.Cells.{Cell, Cells, cell_in, change_in, empty_cell, free_words, next_address, size, slots_in, used_words, with_last}
use Rattle.interpreter.specs.object_memory.Spaces.{Spaces, give_birth, change_at, is_old, is_white, mark, marked_if, set_mark}
use Rattle.interpreter.specs.object_memory.declared.birth_spaces.BirthSpace.TheVariants.{InOld, Listed}
use Rattle.interpreter.proofs.object_memory.Blocks.{kept_in, last_in, own_in, sum_in, sum_last, unchanged_in, used_in, used_last}
use Rattle.interpreter.proofs.object_memory.Rooms.{size-empty}
use Rattle.interpreter.proofs.object_memory.TwoSpaces.TwoBlocks.{after_in, before_in, own, still}

-- ---- the measure

-- a cell that isn't marked: its mark, its scan and one for each slot
abbrev pub white_left_by : Bool → ℕ → ℕ
white_left_by true slots = 0
white_left_by false slots = 2 + slots

abbrev pub white_left : Cell → ℕ
white_left c = white_left_by c.marked (length c.slots)

-- one that is grey: its scan and one for each slot
abbrev pub grey_left : Cells → Addr → ℕ
grey_left s a = 1 + length (slots_in s a)

-- those of the grey list, with this number of slots of the oldest one scanned
abbrev pub scans_left : Cells → ℕ → List Addr → ℕ
scans_left s scanned [] = 0
scans_left s scanned (g ∷ rest) = 1 + (length (slots_in s g) - scanned) + sum_by (grey_left s) rest

-- a round, unless one was posted and nothing was marked since
abbrev pub round_left : (has_marked has_round : Bool) → ℕ
round_left true has_round = 1
round_left false true = 0
round_left false false = 1

-- a free word is left too, since it may become a part of a cell
abbrev pub heap_left : (has_round : Bool) → (scanned : ℕ) → Spaces → ℕ
heap_left has_round scanned m = round_left m.has_marked has_round + free_words m.old + sum_by white_left m.old.cells + scans_left m.old scanned m.grey

-- each grey cell is there
abbrev pub AreGreyThere : Spaces → Type 0
AreGreyThere m = All (λ a. is_old m a ≡ true) m.grey

-- where the grey cells are there, they are there still, and no more is left
pub record LeavesNoMore (m n : Spaces) : Type 0 where
  pub there : AreGreyThere m → AreGreyThere n
  pub less : AreGreyThere m → (has_round : Bool) (scanned : ℕ) → heap_left has_round scanned n ≤ heap_left has_round scanned m

pub leaves_itself : (m : Spaces) → LeavesNoMore m m
leaves_itself m = record { there = λ there. there; less = λ there has_round scanned. omega arith }

pub leaves_then : (m n l : Spaces) → LeavesNoMore m n → LeavesNoMore n l → LeavesNoMore m l
leaves_then m n l f g = record {
  there = λ there. g.there (f.there there);
  less = λ there has_round scanned. (let one = f.less there has_round scanned in let two = g.less (f.there there) has_round scanned in omega (arith, one, two));
}

-- ---- slots and the grey list

-- what some functions agree on has one sum
same_sum : (f g : Addr → ℕ) (list : List Addr) → ((a : Addr) → f a ≡ g a) → sum_by f list ≡ sum_by g list
same_sum f g [] same = refl
same_sum f g (a ∷ rest) same = omega (arith, same a, same_sum f g rest same, sum_by-cons f a rest, sum_by-cons g a rest)

-- the number of a cell's slots
abbrev count : Option Cell → ℕ
count o = length (unwrap_or (option_map (λ (c : Cell). c.slots) o) [])

-- it is the same in two blocks
abbrev HaveSameCounts : Cells → Cells → Type 0
HaveSameCounts s r = (a : Addr) → length (slots_in r a) ≡ length (slots_in s a)

same_scans : (s r : Cells) (scanned : ℕ) (list : List Addr) → HaveSameCounts s r → scans_left r scanned list ≡ scans_left s scanned list
same_scans s r scanned [] same = refl
same_scans s r scanned (g ∷ rest) same =
    let first = same g in
    let others = same_sum (grey_left r) (grey_left s) rest (λ a. ap (λ n. 1 + n) (same a)) in
    omega (arith, first, others)

-- one more at the end of the list takes its scan at most
scans_last : (s : Cells) (scanned : ℕ) (list : List Addr) (a : Addr) → scans_left s scanned (list ++ a ∷ []) ≤ scans_left s scanned list + grey_left s a
scans_last s scanned [] a = omega arith
scans_last s scanned (g ∷ rest) a = omega (arith, sum_by-append (grey_left s) rest (a ∷ []), sum_by-cons (grey_left s) a [])

-- ---- changes that keep slots and marks

module _ (f : Cell → Cell) (keeps : (c : Cell) → length (f c).slots ≡ length c.slots) where
  keeps_size : (c : Cell) → size (f c) ≡ size c
  keeps_size c = ap (λ n. 3 + n) (keeps c)

  -- the changed cell has the same number of slots
  changed_counts : (s : Cells) (a : Addr) → HaveSameCounts s (change_in f s a)
  changed_counts s a b = by_cell (cell_in s b) refl (cell_in (change_in f s a) b) refl
    where
      by_cell : (o : Option Cell) → cell_in s b ≡ o → (n : Option Cell) → cell_in (change_in f s a) b ≡ n → count n ≡ count o
      by_cell None is None is' = refl
      by_cell None is (Some d) is' = (let was = after_in f keeps_size s a b d is' in elim (none-some was.0 (sym is ∙ was.1)) [ ])
      by_cell (Some c) is n is' =
          let now = before_in f keeps_size s a b c is in
          ap count (sym is' ∙ now.1) ∙ elim now.2 [
            | own number equal ↦ ap (λ (x : Cell). length x.slots) equal ∙ keeps c
            | still ne equal ↦ ap (λ (x : Cell). length x.slots) equal
          ]

  -- and each cell is there still
  still_old : (s : Cells) (a b : Addr) → is_some (cell_in s b) ≡ true → is_some (cell_in (change_in f s a) b) ≡ true
  still_old s a b there = by_cell (cell_in s b) refl there
    where
      by_cell : (o : Option Cell) → cell_in s b ≡ o → is_some o ≡ true → is_some (cell_in (change_in f s a) b) ≡ true
      by_cell None is h = absurd cc
      by_cell (Some c) is h = ap is_some (before_in f keeps_size s a b c is).1

  changed_there : (m : Spaces) (a : Addr) → AreGreyThere m → All (λ b. is_some (cell_in (change_in f m.old a) b) ≡ true) m.grey
  changed_there m a there = All-weaker (λ b. is_old m b ≡ true) (λ b. is_some (cell_in (change_in f m.old a) b) ≡ true) (λ b old. still_old m.old a b old) m.grey there

  module _ (marks : (c : Cell) → (f c).marked ≡ c.marked) where
    same_whites : (s : Cells) (a : Addr) → sum_by white_left (change_in f s a).cells ≡ sum_by white_left s.cells
    same_whites s a = by_cell (cell_in s a) refl
      where
        by_cell : (o : Option Cell) → cell_in s a ≡ o → sum_by white_left (change_in f s a).cells ≡ sum_by white_left s.cells
        by_cell None is = ap (λ (x : Cells). sum_by white_left x.cells) (unchanged_in f s a is)
        by_cell (Some c) is =
            let same : white_left (f c) ≡ white_left c = ap (λ b. white_left_by b (length (f c).slots)) (marks c) ∙ ap (white_left_by c.marked) (keeps c) in
            omega (arith, same, sum_in f white_left s a c is)

    -- the same is left
    pub change_leaves : (m : Spaces) (a : Addr) → LeavesNoMore m (change_at f m a)
    change_leaves m a = record {
      there = changed_there m a;
      less = λ there has_round scanned.
          (let used = used_in f keeps_size m.old a in
          let whites = same_whites m.old a in
          let scans = same_scans m.old (change_in f m.old a) scanned m.grey (changed_counts m.old a) in
          omega (arith, used, whites, scans));
    }

-- ---- marks

-- an unmarked cell that is there
is_white_cell : (o : Option Cell) → is_white o ≡ true → (c : Cell) × (o ≡ Some c) × (c.marked ≡ false)
is_white_cell None h = absurd cc
is_white_cell (Some c) h = (c, refl, unmarked c.marked h)
  where
    unmarked : (b : Bool) → (if b then false else true) ≡ true → b ≡ false
    unmarked true h = absurd cc
    unmarked false h = refl

round_grows : (has_marked has_round : Bool) → 1 ≤ round_left has_marked has_round + 1
round_grows has_marked has_round = omega arith

module _ (m : Spaces) (a : Addr) (c : Cell) (lies : cell_in m.old a ≡ Some c) (white : c.marked ≡ false) where
  abbrev darker : Cells
  darker = change_in set_mark m.old a

  -- the cell is grey then
  own_count : length (slots_in darker a) ≡ length c.slots
  own_count = ap count (own_in set_mark m.old a c lies)

  marked_leaves : LeavesNoMore m (marked_if true m a)
  marked_leaves = record {
    there = λ there.
        All-push (λ b. is_some (cell_in darker b) ≡ true) m.grey a (changed_there set_mark (λ x. refl) m a there) (ap is_some (own_in set_mark m.old a c lies));
    less = λ there has_round scanned.
        (let used = used_in set_mark (λ x. refl) m.old a in
        let whites = sum_in set_mark white_left m.old a c lies in
        let own_white : white_left c ≡ 2 + length c.slots = ap (λ b. white_left_by b (length c.slots)) white in
        let scans = same_scans m.old darker scanned m.grey (changed_counts set_mark (λ x. refl) m.old a) in
        let more = scans_last darker scanned m.grey a in
        omega (arith, used, whites, own_white, scans, more, own_count, round_grows m.has_marked has_round));
  }

-- a mark leaves no more, whatever is there
pub mark_leaves : (m : Spaces) (a : Addr) → LeavesNoMore m (mark m a).0
mark_leaves m a = by_white (is_white (cell_in m.old a)) refl
  where
    by_white : (b : Bool) → is_white (cell_in m.old a) ≡ b → LeavesNoMore m (marked_if b m a)
    by_white true h = (let c = is_white_cell (cell_in m.old a) h in marked_leaves m a c.0 c.1 c.2)
    by_white false h = leaves_itself m

-- ---- births

module _ (m : Spaces) (c : Cell) where
  abbrev more : Cells
  more = with_last m.old c

  -- a cell after all others leaves the grey ones there, with the same number of slots
  grey_still : AreGreyThere m → All (λ b. is_some (cell_in more b) ≡ true) m.grey
  grey_still there = All-weaker (λ b. is_old m b ≡ true) (λ b. is_some (cell_in more b) ≡ true) (λ b old. by_cell b (cell_in m.old b) refl old) m.grey there
    where
      by_cell : (b : Addr) (o : Option Cell) → cell_in m.old b ≡ o → is_some o ≡ true → is_some (cell_in more b) ≡ true
      by_cell b None is h = absurd cc
      by_cell b (Some d) is h = ap is_some (kept_in m.old c b d is)

  kept_count : (b : Addr) → is_some (cell_in m.old b) ≡ true → length (slots_in more b) ≡ length (slots_in m.old b)
  kept_count b old = by_cell (cell_in m.old b) refl old
    where
      by_cell : (o : Option Cell) → cell_in m.old b ≡ o → is_some o ≡ true → count (cell_in more b) ≡ count o
      by_cell None is h = absurd cc
      by_cell (Some d) is h = ap count (kept_in m.old c b d is)

  kept_sum : (list : List Addr) → All (λ b. is_some (cell_in m.old b) ≡ true) list → sum_by (grey_left more) list ≡ sum_by (grey_left m.old) list
  kept_sum [] there = refl
  kept_sum (b ∷ rest) there =
      let first = kept_count b (All-head (λ x. is_some (cell_in m.old x) ≡ true) b rest there) in
      let others = kept_sum rest (All-tail (λ x. is_some (cell_in m.old x) ≡ true) b rest there) in
      omega (arith, first, others, sum_by-cons (grey_left more) b rest, sum_by-cons (grey_left m.old) b rest)

  kept_scans : (scanned : ℕ) (list : List Addr) → All (λ b. is_some (cell_in m.old b) ≡ true) list → scans_left more scanned list ≡ scans_left m.old scanned list
  kept_scans scanned [] there = refl
  kept_scans scanned (g ∷ rest) there =
      let first = kept_count g (All-head (λ x. is_some (cell_in m.old x) ≡ true) g rest there) in
      let others = kept_sum rest (All-tail (λ x. is_some (cell_in m.old x) ≡ true) g rest there) in
      omega (arith, first, others)

module _ (m : Spaces) (k : Kind) (n : ℕ) (fits : 3 + n ≤ free_words m.old) where
  abbrev fresh : Bool → Cell
  fresh marked = empty_cell k n marked None

  -- its words are no longer free
  taken : (marked : Bool) → free_words (with_last m.old (fresh marked)) + (3 + n) ≡ free_words m.old
  taken marked = (let used = used_last m.old (fresh marked) in let long = size-empty k n marked None in omega (arith, used, long, fits))

  pub old_birth_leaves : LeavesNoMore m (give_birth InOld m k n)
  old_birth_leaves = record {
    there = grey_still m (fresh false);
    less = λ there has_round scanned.
        (let free = taken false in
        let whites = sum_last white_left m.old (fresh false) in
        let slots = length-replicate {A = ℕ} n 0 in
        let scans = kept_scans m (fresh false) scanned m.grey there in
        omega (arith, free, whites, slots, scans));
  }

  pub listed_birth_leaves : LeavesNoMore m (give_birth Listed m k n)
  listed_birth_leaves = record {
    there = λ there. All-push (λ b. is_some (cell_in (with_last m.old (fresh true)) b) ≡ true) m.grey (next_address m.old) (grey_still m (fresh true) there) (ap is_some (last_in m.old (fresh true)));
    less = λ there has_round scanned.
        (let free = taken true in
        let whites = sum_last white_left m.old (fresh true) in
        let slots = ap count (last_in m.old (fresh true)) ∙ length-replicate {A = ℕ} n 0 in
        let scans = kept_scans m (fresh true) scanned m.grey there in
        let one_more = scans_last (with_last m.old (fresh true)) scanned m.grey (next_address m.old) in
        omega (arith, free, whites, slots, scans, one_more));
  }

-- ---- scans

module _ (m : Spaces) (g : Addr) (rest : List Addr) (grey : m.grey ≡ g ∷ rest) (has_round : Bool) (scanned : ℕ) where
  -- a slot of the oldest grey cell is scanned
  pub slot_lessens : (c : Cell) → cell_in m.old g ≡ Some c → scanned < length c.slots → heap_left has_round (scanned + 1) m + 1 ≤ heap_left has_round scanned m
  slot_lessens c lies near =
      let slots = ap count lies in
      let now = ap (scans_left m.old scanned) grey in
      let then_left = ap (scans_left m.old (scanned + 1)) grey in
      omega (arith, slots, now, then_left, near)

  -- the scans of the others are a part of all
  others_left : (list : List Addr) → scans_left m.old 0 list ≤ sum_by (grey_left m.old) list
  others_left [] = omega arith
  others_left (h ∷ list) = omega (arith, sum_by-cons (grey_left m.old) h list)

  -- it is off the list
  pub black_lessens : heap_left has_round 0 (record m { grey = rest }) + 1 ≤ heap_left has_round scanned m
  black_lessens = (let now = ap (scans_left m.old scanned) grey in let others = others_left rest in omega (arith, now, others))

-- ---- the beginning

white_le : (c : Cell) → white_left c ≤ size c
white_le c = by_mark c.marked
  where
    by_mark : (b : Bool) → white_left_by b (length c.slots) ≤ 3 + length c.slots
    by_mark true = omega arith
    by_mark false = omega arith

-- with nothing grey all that is left are the words of the block, and a round
pub most_left : (m : Spaces) → used_words m.old.cells ≤ m.old.words → m.grey ≡ [] → (has_round : Bool) (scanned : ℕ) → heap_left has_round scanned m ≤ m.old.words + 1
most_left m fits none has_round scanned =
    let whites = sum_by-le-sum_by white_left size m.old.cells white_le in
    let scans = ap (scans_left m.old scanned) none in
    omega (arith, fits, whites, scans, round_most m.has_marked has_round)
  where
    round_most : (has_marked has_round : Bool) → round_left has_marked has_round ≤ 1
    round_most true has_round = omega arith
    round_most false true = omega arith
    round_most false false = omega arith
