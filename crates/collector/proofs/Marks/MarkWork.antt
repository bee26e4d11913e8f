-- The work of Mark keeps what is true of the heap: a scan of the static fields, one of a slot, and an object that is black.
use Rattle.std.proofs.Common.{◌≡◌, ◌⊎◌, inl, inr, ℕ, zero, suc, ◌+◌, ◌<◌, ◌≤◌, Bool, true, false, List, [], ◌∷◌, ◌++◌, length, refl, sym, ap, subst, ◌∙◌, arith}
use Rattle.std.specs.Prelude.{not, if◌then◌else◌, nat_lt, unwrap_or, Option, Some, None, slice_get, All}
use Rattle.std.proofs.lemmas.Bool.{cases_lt, ltb-false}
use Rattle.std.proofs.lemmas.List.Elements.{All-cons, All-head, All-nil, All-tail}
use Rattle.std.proofs.lemmas.Option.{same_Some, slice_get_within}
use Rattle.cil_model.specs.declared.phases.Phase.TheVariants.{Mark}
use Rattle.cil_model.specs.declared.trees.Tree.{Tree}
use Rattle.object_memory.specs.declared.addresses.Addr.{Addr}
use Rattle.object_memory.specs.declared.values.Value.{Value}
use Rattle.object_memory.specs.declared.values.Value.TheVariants.{Ref}
use Rattle.object_memory.specs.Cells.{Cell, cell_in}
use Rattle.object_memory.specs.Spaces.{AreSpaces, Spaces, is_white, mark, marked_if}
use Rattle.object_memory.specs.Objects.{Objects}
use Rattle.barriers.specs.Barriers.{with_marked}
use Rattle.collector.specs.References.{SlotsPass, ValuePasses, holds_reference, reference_in}
use Rattle.collector.specs.Phases.{is_live, is_marked_cell, is_marked_address, is_marked_old}
use Rattle.collector.specs.Soundness.{AreMarked, IsListed, IsSoundHeap}
use Rattle.collector.specs.MarkSteps.{is_none_grey, mark_step, next_mark_step, oldest_cell, slot_scanned, statics_scanned, with_all_marked, without_oldest, word_of}
use Rattle.collector.specs.Holds.{static_may_hold}
use Rattle.collector.specs.declared.progress.Progress.{Progress}
use Rattle.collector.proofs.Addresses.Tests.{never, static_may_hold_live, value_weakens}
use Rattle.collector.proofs.Marks.MarkChanges.{AreDarker, AreDarker-same, IsSoundHeap-darker}
use Rattle.collector.proofs.Marks.MarkedHeaps.{AreDarker-with_marked, AreMarked-mark, IsSoundHeap-with_all_marked, mark-passes, with_all_marked-pass, with_marked-literals, with_marked-noted}

-- ---- static fields

-- of the progress only the slots that are scanned matter for the marks
pub AreMarked-progress : (tree : Tree) (has_round : Bool) (p q : Progress) (m : Spaces) → q.scanned_slots ≡ p.scanned_slots
    → AreMarked tree has_round p m → AreMarked tree has_round q m
AreMarked-progress tree has_round p q m same marks = record {
  listed = marks.listed;
  black = marks.black;
  fresh = λ none. same ∙ marks.fresh none;
  oldest = λ g rest c grey lies slot word near. marks.oldest g rest c grey lies slot word (subst (λ n. slot < n) same near);
  closed = marks.closed;
}

pub IsSoundHeap-progress : (tree : Tree) (has_round : Bool) (words : ℕ) (p q : Progress) (m : Spaces) → q.scanned_slots ≡ p.scanned_slots
    → IsSoundHeap tree Mark has_round words p m → IsSoundHeap tree Mark has_round words q m
IsSoundHeap-progress tree has_round words p q m same sound =
    IsSoundHeap-darker tree has_round words p m m sound (AreDarker-same m m refl refl refl) has_round q (AreMarked-progress tree has_round p q m same (sound.marks refl))

-- the scan of the static fields keeps what is true of the heap
pub IsSoundHeap-statics_scanned : (tree : Tree) (has_round : Bool) (words : ℕ) (p : Progress) (o : Objects) (statics : List Value)
    → IsSoundHeap tree Mark has_round words p o.spaces
    → IsSoundHeap tree Mark has_round words (statics_scanned p o statics).0 (statics_scanned p o statics).1.spaces
IsSoundHeap-statics_scanned tree has_round words p o statics sound =
    IsSoundHeap-progress tree has_round words p (statics_scanned p o statics).0 (with_all_marked o statics).spaces refl
    (IsSoundHeap-with_all_marked tree has_round words p statics o sound)

all_from : {X : Type 0} (P : X → Type 0) (xs : List X) → ((n : ℕ) (x : X) → slice_get xs n ≡ Some x → P x) → All P xs
all_from P [] h = All-nil P
all_from P (x ∷ xs) h = All-cons P x xs (h zero x refl) (all_from P xs (λ n y e. h (suc n) y e))

all_at : {X : Type 0} (P : X → Type 0) (xs : List X) → All P xs → (n : ℕ) (x : X) → slice_get xs n ≡ Some x → P x
all_at P [] h n x e = absurd cc
all_at P (y ∷ xs) h zero x e = subst P (same_Some y x e) (All-head P y xs h)
all_at P (y ∷ xs) h (suc n) x e = all_at P xs (All-tail P y xs h) n x e

-- then each static field holds what is marked
pub statics_scanned-pass : (p : Progress) (o : Objects) (statics : List Value) → AreSpaces o.spaces
    → ((n : ℕ) (v : Value) → slice_get statics n ≡ Some v → ValuePasses (static_may_hold Mark o.spaces p n) v)
    → (n : ℕ) (v : Value) → slice_get statics n ≡ Some v → ValuePasses (is_marked_address (statics_scanned p o statics).1.spaces) v
statics_scanned-pass p o statics spaces held =
    all_at (ValuePasses (is_marked_address (with_all_marked o statics).spaces)) statics
    (with_all_marked-pass statics o spaces (all_from (ValuePasses (is_live Mark o.spaces)) statics live))
  where
    live : (n : ℕ) (v : Value) → slice_get statics n ≡ Some v → ValuePasses (is_live Mark o.spaces) v
    live n v e = value_weakens (static_may_hold Mark o.spaces p n) (is_live Mark o.spaces) (static_may_hold_live Mark o.spaces p n) v (held n v e)

-- ---- the oldest grey object

-- the list's first address
pub record BeginsWith (g : Addr) (list : List Addr) : Type 0 where
  pub rest : List Addr
  pub is : list ≡ g ∷ rest

begins_more : (g q : Addr) (list : List Addr) → BeginsWith g list → BeginsWith g (list ++ q ∷ [])
begins_more g q [] h = absurd (lost h.is)
  where
    lost : [] ≡ g ∷ h.rest → ⊥
    lost e = cc
begins_more g q (b ∷ bs) h = record { rest = bs ++ q ∷ []; is = ap (λ x. x ∷ (bs ++ q ∷ [])) first }
  where
    head_of : (rest : List Addr) → b ∷ bs ≡ g ∷ rest → b ≡ g
    head_of rest e = cc

    first : b ≡ g
    first = head_of h.rest h.is

-- a scan of one of its slots, or the end of its scan
abbrev step_by : Tree → Progress → Objects → List Addr → Cell → Bool → Progress × Objects
step_by tree p o rest c b =
    if b then (record p { scanned_slots = p.scanned_slots + 1 }, slot_scanned tree o c p.scanned_slots) else (record p { scanned_slots = 0 }, without_oldest o rest)

-- a mark leaves the oldest grey object
pub mark-oldest : (m : Spaces) (g q : Addr) → BeginsWith g m.grey → BeginsWith g (mark m q).0.grey
mark-oldest m g q h = by_white (is_white (cell_in m.old q))
  where
    by_white : (b : Bool) → BeginsWith g (marked_if b m q).grey
    by_white false = h
    by_white true = begins_more g q m.grey h

-- what is true of the objects stays so in a step where a mark of a value and the end of a scan keep it
step_keeps : (tree : Tree) (p : Progress) (o : Objects) (P : Objects → Type 0) → P o → ((v : Value) → P (with_marked o v)) → ((rest : List Addr) → P (without_oldest o rest)) → P (next_mark_step tree p o).1
step_keeps tree p o P same marked ended = by_step o.spaces.grey (oldest_cell o o.spaces.grey)
  where
    by_kind : (v : Value) (b : Bool) → P (if b then with_marked o v else o)
    by_kind v true = marked v
    by_kind v false = same

    by_slots : (rest : List Addr) (c : Cell) (b : Bool) → P (step_by tree p o rest c b).1
    by_slots rest c true = by_kind (Ref (reference_in (word_of c p.scanned_slots))) (holds_reference tree c.kind p.scanned_slots)
    by_slots rest c false = ended rest

    by_step : (grey : List Addr) (cell : Option Cell) → P (mark_step tree p o grey cell).1
    by_step (g ∷ rest) (Some c) = by_slots rest c (nat_lt p.scanned_slots (length c.slots))
    by_step _ _ = same

module _ (tree : Tree) (has_round : Bool) (words : ℕ) (p : Progress) (o : Objects) (sound : IsSoundHeap tree Mark has_round words p o.spaces) where
  marks : AreMarked tree has_round p o.spaces
  marks = sound.marks refl

  module _ (g : Addr) (rest : List Addr) (c : Cell) (grey : o.spaces.grey ≡ g ∷ rest) (lies : cell_in o.spaces.old g ≡ Some c) where
    -- the reference of a slot of it
    abbrev marked_reference : ℕ → Objects
    marked_reference slot = with_marked o (Ref (reference_in (word_of c slot)))

    scan_darker : (slot : ℕ) → AreDarker o.spaces (slot_scanned tree o c slot).spaces
    scan_darker slot = by_kind (holds_reference tree c.kind slot)
      where
        by_kind : (b : Bool) → AreDarker o.spaces (if b then marked_reference slot else o).spaces
        by_kind true = AreDarker-with_marked o sound.blocks.spaces (Ref (reference_in (word_of c slot)))
        by_kind false = AreDarker-same o.spaces o.spaces refl refl refl

    scan_marks : (slot : ℕ) → AreMarked tree has_round p (slot_scanned tree o c slot).spaces
    scan_marks slot = by_kind (holds_reference tree c.kind slot)
      where
        by_kind : (b : Bool) → AreMarked tree has_round p (if b then marked_reference slot else o).spaces
        by_kind true = AreMarked-mark o.spaces sound.blocks.spaces (reference_in (word_of c slot)) tree has_round p marks
        by_kind false = marks

    scan_oldest : (slot : ℕ) → BeginsWith g (slot_scanned tree o c slot).spaces.grey
    scan_oldest slot = by_kind (holds_reference tree c.kind slot)
      where
        by_kind : (b : Bool) → BeginsWith g (if b then marked_reference slot else o).spaces.grey
        by_kind true = mark-oldest o.spaces g (reference_in (word_of c slot)) (record { rest = rest; is = grey })
        by_kind false = record { rest = rest; is = grey }

    -- once it is scanned, the slot refers to what is marked
    scan_passes : (slot word : ℕ) → slice_get c.slots slot ≡ Some word → holds_reference tree c.kind slot ≡ true
        → is_marked_address (slot_scanned tree o c slot).spaces (reference_in word) ≡ true
    scan_passes slot word there held = by_kind (holds_reference tree c.kind slot) held
      where
        same : word_of c slot ≡ word
        same = ap (λ x. unwrap_or x 0) there

        by_kind : (b : Bool) → b ≡ true → is_marked_address (if b then marked_reference slot else o).spaces (reference_in word) ≡ true
        by_kind true e = subst (λ w. is_marked_address (mark o.spaces (reference_in w)).0 (reference_in word) ≡ true) (sym same)
            (mark-passes o.spaces sound.blocks.spaces (reference_in word) (sound.copies.old_references g c lies refl slot word there held))
        by_kind false e = absurd cc

    -- with one slot more that is scanned
    abbrev one_more : Progress
    one_more = record p { scanned_slots = p.scanned_slots + 1 }

    abbrev scanned : Objects
    scanned = slot_scanned tree o c p.scanned_slots

    scan_oldest_then : (h : Addr) (others : List Addr) (d : Cell) → scanned.spaces.grey ≡ h ∷ others → cell_in scanned.spaces.old h ≡ Some d
        → (slot word : ℕ) → slot < p.scanned_slots + 1 → slice_get d.slots slot ≡ Some word → holds_reference tree d.kind slot ≡ true → is_marked_address scanned.spaces (reference_in word) ≡ true
    scan_oldest_then h others d list is slot word near there held = elim (cases_lt slot p.scanned_slots) [
      | inl before ↦ (scan_marks p.scanned_slots).oldest h others d list is slot word before there held
      | inr following ↦ at_last (omega (arith, near, following))
    ]
      where
        first : g ≡ h
        first = head_of (scan_oldest p.scanned_slots).rest (sym (scan_oldest p.scanned_slots).is ∙ list)
          where
            head_of : (more : List Addr) → g ∷ more ≡ h ∷ others → g ≡ h
            head_of more e = cc

        at_last : slot ≡ p.scanned_slots → is_marked_address scanned.spaces (reference_in word) ≡ true
        at_last last =
            let was = (scan_darker p.scanned_slots).was h d is in
            let same : was.0 ≡ c = same_Some was.0 c (sym was.1 ∙ subst (λ x. cell_in o.spaces.old x ≡ Some c) first lies) in
            let slots : d.slots ≡ c.slots = was.2.slots ∙ ap (λ x. x.slots) same in
            let kind : d.kind ≡ c.kind = was.2.kind ∙ ap (λ x. x.kind) same in
            scan_passes p.scanned_slots word
            (subst (λ n. slice_get c.slots n ≡ Some word) last (subst (λ l. slice_get l slot ≡ Some word) slots there))
            (subst (λ n. holds_reference tree c.kind n ≡ true) last (subst (λ k. holds_reference tree k slot ≡ true) kind held))

    AreMarked-scanned : AreMarked tree has_round one_more scanned.spaces
    AreMarked-scanned =
        let kept = scan_marks p.scanned_slots in
        record {
          listed = kept.listed;
          black = kept.black;
          fresh = λ none. absurd (not_empty (scan_oldest p.scanned_slots).rest (sym none ∙ (scan_oldest p.scanned_slots).is));
          oldest = scan_oldest_then;
          closed = kept.closed;
        }
      where
        not_empty : (more : List Addr) → [] ≡ g ∷ more → ⊥
        not_empty more e = cc

    -- where all its slots are scanned, all that it refers to is marked
    all_scanned : length c.slots ≤ p.scanned_slots → SlotsPass tree (is_marked_address o.spaces) c
    all_scanned done slot word there held = marks.oldest g rest c grey lies slot word (omega (arith, slice_get_within c.slots slot word there, done)) there held

    black_then : length c.slots ≤ p.scanned_slots → (a : Addr) (d : Cell) → cell_in o.spaces.old a ≡ Some d → d.marked ≡ true
        → IsListed rest a ⊎ SlotsPass tree (is_marked_address o.spaces) d
    black_then done a d is dark = elim (marks.black a d is dark) [
      | inl listed ↦ by_list (subst (λ l. IsListed l a) grey listed)
      | inr black ↦ inr black
    ]
      where
        by_list : (g ≡ a) ⊎ IsListed rest a → IsListed rest a ⊎ SlotsPass tree (is_marked_address o.spaces) d
        by_list (inl same) =
            let cell = same_Some c d (sym lies ∙ (ap (cell_in o.spaces.old) same ∙ is)) in
            inr (subst (SlotsPass tree (is_marked_address o.spaces)) cell (all_scanned done))
        by_list (inr later) = inl later

    AreMarked-without_oldest : length c.slots ≤ p.scanned_slots
        → AreMarked tree has_round (record p { scanned_slots = 0 }) (without_oldest o rest).spaces
    AreMarked-without_oldest done = record {
      listed = All-tail (λ a. is_marked_old o.spaces a ≡ true) g rest (subst (All (λ a. is_marked_old o.spaces a ≡ true)) grey marks.listed);
      black = black_then done;
      fresh = λ none. refl;
      oldest = λ h others d list is slot word near there held. absurd (omega (arith, near));
      closed = marks.closed;
    }

    step_marks : (b : Bool) → nat_lt p.scanned_slots (length c.slots) ≡ b
        → AreMarked tree has_round (step_by tree p o rest c b).0 (step_by tree p o rest c b).1.spaces
    step_marks true e = AreMarked-scanned
    step_marks false e = AreMarked-without_oldest (ltb-false p.scanned_slots (length c.slots) e)

  marked_marks : (grey : List Addr) → o.spaces.grey ≡ grey → (cell : Option Cell) → oldest_cell o grey ≡ cell
      → AreMarked tree has_round (mark_step tree p o grey cell).0 (mark_step tree p o grey cell).1.spaces
  marked_marks (g ∷ rest) e (Some c) is = step_marks g rest c e is (nat_lt p.scanned_slots (length c.slots)) refl
  marked_marks _ e _ is = marks

  -- a step of marking changes marks alone
  pub AreDarker-next_mark_step : AreDarker o.spaces (next_mark_step tree p o).1.spaces
  AreDarker-next_mark_step =
      step_keeps tree p o (λ n. AreDarker o.spaces n.spaces) (AreDarker-same o.spaces o.spaces refl refl refl)
      (λ v. AreDarker-with_marked o sound.blocks.spaces v) (λ rest. AreDarker-same o.spaces (without_oldest o rest).spaces refl refl refl)

  -- and keeps what is true of the heap
  pub IsSoundHeap-next_mark_step : IsSoundHeap tree Mark has_round words (next_mark_step tree p o).0 (next_mark_step tree p o).1.spaces
  IsSoundHeap-next_mark_step =
      IsSoundHeap-darker tree has_round words p o.spaces (next_mark_step tree p o).1.spaces sound AreDarker-next_mark_step has_round (next_mark_step tree p o).0
      (marked_marks o.spaces.grey refl (oldest_cell o o.spaces.grey) refl)

  -- there was one to do where something was grey
  pub next_mark_step-works : (next_mark_step tree p o).2 ≡ not (is_none_grey o.spaces.grey)
  next_mark_step-works = by_grey o.spaces.grey refl
    where
      by_cell : (g : Addr) (rest : List Addr) (cell : Option Cell) → is_marked_cell cell ≡ true → (mark_step tree p o (g ∷ rest) cell).2 ≡ true
      by_cell g rest None dark = never dark
      by_cell g rest (Some c) dark = refl

      by_grey : (grey : List Addr) → o.spaces.grey ≡ grey → (mark_step tree p o grey (oldest_cell o grey)).2 ≡ not (is_none_grey grey)
      by_grey [] e = refl
      by_grey (g ∷ rest) e =
          let dark = λ (a : Addr). is_marked_old o.spaces a ≡ true in
          by_cell g rest (cell_in o.spaces.old g) (All-head dark g rest (subst (All dark) e marks.listed))

-- ---- what a step of marking leaves

module _ (tree : Tree) (p : Progress) (o : Objects) where
  -- of the progress it changes the scanned slots alone
  pub next_mark_step-progress : (next_mark_step tree p o).0 ≡ record p { scanned_slots = (next_mark_step tree p o).0.scanned_slots }
  next_mark_step-progress = by_step o.spaces.grey (oldest_cell o o.spaces.grey)
    where
      by_slots : (rest : List Addr) (c : Cell) (b : Bool)
          → (step_by tree p o rest c b).0 ≡ record p { scanned_slots = (step_by tree p o rest c b).0.scanned_slots }
      by_slots rest c true = refl
      by_slots rest c false = refl

      by_step : (grey : List Addr) (cell : Option Cell)
          → (mark_step tree p o grey cell).0 ≡ record p { scanned_slots = (mark_step tree p o grey cell).0.scanned_slots }
      by_step (g ∷ rest) (Some c) = by_slots rest c (nat_lt p.scanned_slots (length c.slots))
      by_step _ _ = refl

  -- a mark of before is not forgotten
  pub next_mark_step-noted : o.spaces.has_marked ≡ true → (next_mark_step tree p o).1.spaces.has_marked ≡ true
  next_mark_step-noted h = step_keeps tree p o (λ n. n.spaces.has_marked ≡ true) h (λ v. with_marked-noted o v h) (λ rest. h)

  -- no monitor of a literal changes
  pub next_mark_step-literals : (next_mark_step tree p o).1.literals ≡ o.literals
  next_mark_step-literals = step_keeps tree p o (λ n. n.literals ≡ o.literals) refl (λ v. with_marked-literals o v) (λ rest. refl)
