-- A mark keeps a heap sound while Mark is posted, and changes nothing of what is marked: what a store of a thread in Mark rests on.
use Rattle.std.proofs.Common.{◌≡◌, ◌⊎◌, inl, inr, ℕ, Bool, true, false, refl, sym, ap, ◌∙◌, subst, arith}
use Rattle.std.specs.Prelude.{◌==◌, Option, Some, None}
use Rattle.std.proofs.lemmas.Bool.Decides.{nat_tests}
use Rattle.cil_model.specs.declared.phases.Phase.{Phase}
use Rattle.cil_model.specs.declared.phases.Phase.TheVariants.{Mark}
use Rattle.cil_model.specs.declared.trees.Tree.{Tree}
use Rattle.object_memory.specs.declared.addresses.Addr.{Addr}
use Rattle.object_memory.specs.declared.values.Value.{Value}
use Rattle.object_memory.specs.declared.values.Value.TheVariants.{Ref}
use Rattle.object_memory.specs.Cells.{Cell, cell_in}
use Rattle.object_memory.specs.Spaces.{Spaces, AreSpaces, cell_at, change_at, is_old, is_white, mark, marked_if, set_mark}
use Rattle.object_memory.specs.Objects.{Objects, object_cell}
use Rattle.object_memory.proofs.TwoSpaces.TwoBlocks.{change-other, change-own}
use Rattle.object_memory.proofs.TwoSpaces.TwoCopies.{mark-black, mark-none}
use Rattle.barriers.specs.Barriers.{with_marked}
use Rattle.collector.specs.References.{ValuePasses, is_permanent}
use Rattle.collector.specs.Phases.{is_live, is_marked_address, is_marked_cell, is_marked_old, is_new}
use Rattle.collector.specs.Soundness.{IsSoundHeap}
use Rattle.collector.specs.Holds.{HasNotBegun, Hold, passes}
use Rattle.collector.specs.declared.progress.Progress.{Progress}
use Rattle.collector.proofs.Addresses.TagChanges.{AreAlike, same_address}
use Rattle.cil_model.proofs.SameLaws.{never}
use Rattle.collector.proofs.Marks.MarkedHeaps.{HasNotBegun-with_marked, IsSoundHeap-with_marked, mark_tests}
use Rattle.collector.proofs.Addresses.GrowingBlocks.{TestsStay, live_stays, passes_stays}
pub use Rattle.collector.proofs.Addresses.Tests.{value_weakens}
use Rattle.collector.proofs.Addresses.Tests.{permanent_not_old}
use Rattle.std.proofs.lemmas.Bool.{or_cases}

-- ---- what grows

-- what is old, marked and new is so afterwards, and whether anything was marked since the newest round began stays, or something was
pub record Grows (m n : Spaces) : Type 0 where
  pub old : (x : Addr) → is_old m x ≡ true → is_old n x ≡ true
  pub marked : (x : Addr) → is_marked_old m x ≡ true → is_marked_old n x ≡ true
  pub new : (x : Addr) → is_new m x ≡ true → is_new n x ≡ true
  pub has_marked : (n.has_marked ≡ m.has_marked) ⊎ (n.has_marked ≡ true)

pub alike_grows : (m n : Spaces) → AreAlike m n → Grows m n
alike_grows m n alike = record { old = λ x h. alike.old x ∙ h; marked = λ x h. alike.marked x ∙ h; new = λ x h. alike.new x ∙ h; has_marked = inl alike.has_marked }

pub grows_itself : (m : Spaces) → Grows m m
grows_itself m = record { old = λ x h. h; marked = λ x h. h; new = λ x h. h; has_marked = inl refl }

pub grows_then : (m n o : Spaces) → Grows m n → Grows n o → Grows m o
grows_then m n o first second = record {
  old = λ x h. second.old x (first.old x h);
  marked = λ x h. second.marked x (first.marked x h);
  new = λ x h. second.new x (first.new x h);
  has_marked = elim second.has_marked [
    | inl same ↦ elim first.has_marked [ inl same' ↦ inl (same ∙ same') | inr some ↦ inr (same ∙ some) ]
    | inr some ↦ inr some
  ];
}

module _ (m n : Spaces) (grows : Grows m n) where
  tests : TestsStay m n
  tests = record { old = grows.old; marked = grows.marked; new = grows.new }

  pub live_grows : (posted_phase : Phase) (x : Addr) → is_live posted_phase m x ≡ true → is_live posted_phase n x ≡ true
  live_grows posted_phase x = live_stays m n tests x posted_phase

  -- what may be held may be held afterwards
  pub passes_then : (hold : Hold) (posted_phase : Phase) (x : Addr) → passes hold posted_phase m x ≡ true → passes hold posted_phase n x ≡ true
  passes_then hold posted_phase x = passes_stays m n tests x hold posted_phase

-- ---- cells

-- the same cell but for its mark
abbrev pub IsButMarked : (before after : Cell) → Type 0
IsButMarked c d = (d ≡ c) ⊎ (d ≡ set_mark c)

pub marked_kind : (c d : Cell) → IsButMarked c d → d.kind ≡ c.kind
marked_kind c d (inl e) = ap (λ (x : Cell). x.kind) e
marked_kind c d (inr e) = ap (λ (x : Cell). x.kind) e

-- ---- an address is marked

module _ (m : Spaces) (q : Addr) where
  mark_grows : Grows m (mark m q).0
  mark_grows =
      let stay = mark_tests m q in
      record { old = stay.old; marked = stay.marked; new = stay.new; has_marked = by_white (is_white (cell_in m.old q)) }
    where
      by_white : (t : Bool) → ((marked_if t m q).has_marked ≡ m.has_marked) ⊎ ((marked_if t m q).has_marked ≡ true)
      by_white true = inr refl
      by_white false = inl refl

  -- what is marked, a literal or null changes nothing
  pub mark_same : AreSpaces m → is_marked_address m q ≡ true → (mark m q).0 ≡ m
  mark_same spaces marked = elim (or_cases (is_permanent q) (is_marked_old m q) marked) [
    | inl permanent ↦ ap (λ (x : Spaces × Bool). x.0) (mark-none m spaces q (permanent_not_old m spaces q permanent))
    | inr old ↦ by_cell (cell_in m.old q) refl old
  ]
    where
      by_cell : (o : Option Cell) → cell_in m.old q ≡ o → is_marked_cell o ≡ true → (mark m q).0 ≡ m
      by_cell None is black = never black
      by_cell (Some c) is black = ap (λ (x : Spaces × Bool). x.0) (mark-black m spaces q c is black)

  -- each object stays but for its mark
  pub mark_leaves : (x : Addr) (c : Cell) → cell_at m x ≡ Some c → (d : Cell) × (cell_at (mark m q).0 x ≡ Some d) × IsButMarked c d
  mark_leaves x c lies = by_white (is_white (cell_in m.old q))
    where
      by_number : (t : Bool) → (q.number == x.number) ≡ t → (d : Cell) × (cell_at (change_at set_mark m q) x ≡ Some d) × IsButMarked c d
      by_number true is =
          let same = same_address q x is in
          (set_mark c, subst (λ (y : Addr). cell_at (change_at set_mark m y) x ≡ Some (set_mark c)) (sym same) (change-own set_mark m x c lies), inr refl)
      by_number false is = (c, change-other set_mark (λ y. refl) m q x (λ e. absurd (grind (arith, nat_tests))) ∙ lies, inl refl)

      by_white : (t : Bool) → (d : Cell) × (cell_at (marked_if t m q) x ≡ Some d) × IsButMarked c d
      by_white true = by_number (q.number == x.number) refl
      by_white false = (c, lies, inl refl)

-- ---- the object of a value is marked

pub value_mark_grows : (o : Objects) (v : Value) → Grows o.spaces (with_marked o v).spaces
value_mark_grows o (Ref a) = mark_grows o.spaces a
value_mark_grows o _ = grows_itself o.spaces

pub value_mark_sound : (tree : Tree) (has_round : Bool) (words : ℕ) (p : Progress) (o : Objects) (v : Value) → IsSoundHeap tree Mark has_round words p o.spaces → IsSoundHeap tree Mark has_round words p (with_marked o v).spaces
value_mark_sound tree has_round words p o v sound = IsSoundHeap-with_marked tree has_round words p o sound v

pub value_mark_not_begun : (posted_phase : Phase) (has_round : Bool) (p : Progress) (o : Objects) (v : Value) → HasNotBegun posted_phase has_round p o.spaces → HasNotBegun posted_phase has_round p (with_marked o v).spaces
value_mark_not_begun posted_phase has_round p o v = HasNotBegun-with_marked o v posted_phase has_round p

pub value_mark_leaves : (o : Objects) (v : Value) (x : Addr) (c : Cell) → object_cell o x ≡ Some c → (d : Cell) × (object_cell (with_marked o v) x ≡ Some d) × IsButMarked c d
value_mark_leaves o (Ref a) x c lies = mark_leaves o.spaces a x c lies
value_mark_leaves o _ x c lies = (c, lies, inl refl)

-- a mark of what is marked changes nothing
pub value_mark_same : (o : Objects) (v : Value) → AreSpaces o.spaces → ValuePasses (is_marked_address o.spaces) v → with_marked o v ≡ o
value_mark_same o (Ref a) spaces marked = ap (λ (s : Spaces). record o { spaces = s }) (mark_same o.spaces a spaces marked)
value_mark_same o _ spaces marked = refl
