-- The flip of static fields: once it has passed one, that holds nothing old, and after the last one none does.
use Rattle.std.proofs.Common.{◌≡◌, ◌≢◌, ◌⊎◌, inl, inr, ℕ, zero, suc, ◌+◌, ◌<◌, Bool, true, false, List, [], ◌∷◌, refl, sym, ap, subst, arith}
use Rattle.std.specs.Prelude.{nat_lt, if◌then◌else◌, Option, Some, None, slice_get, slice_set}
use Rattle.std.proofs.lemmas.Bool.Decides.{nat_tests}
use Rattle.std.proofs.lemmas.Option.{none-some, same_Some, slice_get_within}
use Rattle.cil_model.proofs.Lists.{none_is_outside}
use Rattle.cil_model.specs.declared.phases.Phase.{Phase}
use Rattle.cil_model.specs.declared.phases.Phase.TheVariants.{HeapFlip, Idle, PreFlip, Reclaim, ThreadFlip}
use Rattle.cil_model.specs.declared.trees.Tree.{Tree}
use Rattle.object_memory.specs.declared.values.Value.{Value}
use Rattle.object_memory.specs.Spaces.{Spaces, close_cycle}
use Rattle.object_memory.specs.Objects.{Objects}
use Rattle.barriers.specs.Barriers.{forward_value}
use Rattle.collector.specs.References.{ValuePasses}
use Rattle.collector.specs.Phases.{no_progress}
use Rattle.collector.specs.Soundness.{IsSoundHeap}
use Rattle.collector.specs.Flips.{flip_step, next_flip_step}
use Rattle.collector.specs.Holds.{AnyLive, NewOnly, passes, static_may_hold, static_hold_of}
use Rattle.collector.specs.declared.progress.Progress.{Progress}
use Rattle.collector.proofs.Addresses.GrowingBlocks.{TestsStay, passes_stays}
use Rattle.collector.proofs.PhaseChanges.FlipPhases.{in_heap_flip}
use Rattle.collector.proofs.Copies.VisibleCopies.{forwarded_is_new}
use Rattle.collector.proofs.Addresses.Tests.{value_weakens}

-- each static field holds what it may
abbrev pub StaticsPass : Phase → Spaces → Progress → List Value → Type 0
StaticsPass posted_phase m p statics = (number : ℕ) (v : Value) → slice_get statics number ≡ Some v → ValuePasses (static_may_hold posted_phase m p number) v

-- it does so still where what is old, marked or new stays so
pub statics_stay : (posted_phase : Phase) (m m' : Spaces) (p : Progress) (statics : List Value) → TestsStay m m' → StaticsPass posted_phase m p statics → StaticsPass posted_phase m' p statics
statics_stay posted_phase m m' p statics stay pass number v there =
    value_weakens (static_may_hold posted_phase m p number) (static_may_hold posted_phase m' p number) (λ a e. passes_stays m m' stay a (static_hold_of posted_phase p number) posted_phase e) v (pass number v there)

-- ---- lists

-- after a change at one index the item there is the new one, and each other one was there
pub set_here_or_there : {X : Type 0} (xs : List X) (n i : ℕ) (y x : X) → slice_get (slice_set xs n y) i ≡ Some x → ((i ≡ n) × (x ≡ y)) ⊎ ((i ≢ n) × (slice_get xs i ≡ Some x))
set_here_or_there [] n i y x e = elim (none-some x e) [ ]
set_here_or_there (z ∷ zs) zero zero y x e = inl (refl, sym (same_Some y x e))
set_here_or_there (z ∷ zs) (suc n) (suc i) y x e = elim (set_here_or_there zs n i y x e) [
  | inl here ↦ inl (ap suc here.0, here.1)
  | inr there ↦ inr ((λ same. there.0 (let less : i ≡ n = omega (arith, same) in less)), there.1)
]
set_here_or_there _ _ _ y x e = inr ((λ same. absurd (omega (arith, same))), e)

-- ---- one more is flipped

module _ (tree : Tree) (has_round : Bool) (words : ℕ) (p : Progress) (o : Objects) (sound : IsSoundHeap tree HeapFlip has_round words p o.spaces) (statics : List Value)
    (pass : StaticsPass HeapFlip o.spaces p statics) where
  abbrev m : Spaces
  m = o.spaces

  abbrev further : Progress
  further = record p { flipped_statics = p.flipped_statics + 1 }

  -- by whether a field was flipped before
  flipped_test : (number : ℕ) (v : Value) → nat_lt number p.flipped_statics ≡ true → slice_get statics number ≡ Some v → ValuePasses (passes NewOnly HeapFlip m) v
  flipped_test number v test there = subst (λ t. ValuePasses (passes (if t then NewOnly else AnyLive) HeapFlip m) v) test (pass number v there)

  -- or was not yet
  live_test : (number : ℕ) (v : Value) → nat_lt number p.flipped_statics ≡ false → slice_get statics number ≡ Some v → ValuePasses (passes AnyLive HeapFlip m) v
  live_test number v test there = subst (λ t. ValuePasses (passes (if t then NewOnly else AnyLive) HeapFlip m) v) test (pass number v there)

  -- the field that is flipped holds what is new, and each other one what it held
  step_passes : (v : Value) → slice_get statics p.flipped_statics ≡ Some v → StaticsPass HeapFlip m further (slice_set statics p.flipped_statics (forward_value o v))
  step_passes v is number w there = elim (set_here_or_there statics p.flipped_statics number (forward_value o v) w there) [
    | inl here ↦ own here.0 here.1
    | inr was ↦ by_test (nat_lt number p.flipped_statics) refl was.0 was.1
  ]
    where
      own : number ≡ p.flipped_statics → w ≡ forward_value o v → ValuePasses (static_may_hold HeapFlip m further number) w
      own at same =
          let now : nat_lt number (p.flipped_statics + 1) ≡ true = grind (arith, nat_tests) in
          let before : nat_lt p.flipped_statics p.flipped_statics ≡ false = grind (arith, nat_tests) in
          let new = forwarded_is_new tree HeapFlip p o sound.blocks.spaces sound.copies refl v (live_test p.flipped_statics v before is) in
          subst (λ t. ValuePasses (passes (if t then NewOnly else AnyLive) HeapFlip m) w) (sym now) (subst (ValuePasses (passes NewOnly HeapFlip m)) (sym same) new)

      by_test : (t : Bool) → nat_lt number p.flipped_statics ≡ t → number ≢ p.flipped_statics → slice_get statics number ≡ Some w → ValuePasses (static_may_hold HeapFlip m further number) w
      by_test true test ne was =
          let now : nat_lt number (p.flipped_statics + 1) ≡ true = grind (arith, nat_tests) in
          subst (λ t. ValuePasses (passes (if t then NewOnly else AnyLive) HeapFlip m) w) (sym now) (flipped_test number w test was)
      by_test false test ne was =
          let now : nat_lt number (p.flipped_statics + 1) ≡ false = grind (arith, nat_tests) in
          subst (λ t. ValuePasses (passes (if t then NewOnly else AnyLive) HeapFlip m) w) (sym now) (live_test number w test was)

  -- by whether one is left
  passes_by : (x : Option Value) → slice_get statics p.flipped_statics ≡ x → StaticsPass HeapFlip m (flip_step p o statics x).0 (flip_step p o statics x).1
  passes_by None is = pass
  passes_by (Some v) is = step_passes v is

  -- each static field holds what it may after a step
  pub flipped_statics_pass : StaticsPass HeapFlip m (next_flip_step p o statics).0 (next_flip_step p o statics).1
  flipped_statics_pass = passes_by (slice_get statics p.flipped_statics) refl

  -- and the heap is sound
  pub flipped_sound : IsSoundHeap tree HeapFlip has_round words (next_flip_step p o statics).0 m
  flipped_sound = in_heap_flip tree has_round words p m (next_flip_step p o statics).0 sound

  -- ---- the last one

  -- a step that does nothing has found none
  none_left_by : (x : Option Value) → slice_get statics p.flipped_statics ≡ x → (flip_step p o statics x).2 ≡ false → slice_get statics p.flipped_statics ≡ None
  none_left_by None is e = is
  none_left_by (Some v) is e = absurd cc

  -- where none is left to flip, each static field holds what is new, and may hold that while ThreadFlip is posted
  pub all_flipped : (next_flip_step p o statics).2 ≡ false → (q : Progress) → StaticsPass ThreadFlip m q statics
  all_flipped e q number v there =
      let none = none_left_by (slice_get statics p.flipped_statics) refl e in
      let inside = slice_get_within statics number v there in
      let outside = none_is_outside statics p.flipped_statics none in
      let less : number < p.flipped_statics = omega (arith, inside, outside) in
      let test : nat_lt number p.flipped_statics ≡ true = grind (arith, nat_tests) in
      flipped_test number v test there

-- ---- as phases are posted

-- none is flipped at first
none_flipped : (number : ℕ) → nat_lt number 0 ≡ false
none_flipped number = grind (arith, nat_tests)

-- HeapFlip
pub statics_to_heap_flip : (m : Spaces) (p : Progress) (statics : List Value) → StaticsPass PreFlip m p statics → StaticsPass HeapFlip m no_progress statics
statics_to_heap_flip m p statics pass number v there = subst (λ t. ValuePasses (passes (if t then NewOnly else AnyLive) HeapFlip m) v) (sym (none_flipped number)) (pass number v there)

-- Reclaim
pub statics_to_reclaim : (m : Spaces) (p q : Progress) (statics : List Value) → StaticsPass ThreadFlip m p statics → StaticsPass Reclaim m q statics
statics_to_reclaim m p q statics pass number v there = pass number v there

-- the end of the cycle
pub statics_to_idle : (m : Spaces) (p q : Progress) (statics : List Value) → StaticsPass Reclaim m p statics → StaticsPass Idle (close_cycle m) q statics
statics_to_idle m p q statics pass number v there = pass number v there
