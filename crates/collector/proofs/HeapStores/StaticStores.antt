-- Stores to static fields keep the heap sound, and a field gets a value that it may hold.
use Rattle.std.proofs.Common.{◌≡◌, inl, inr, ℕ, Bool, true, false, List, refl, sym, ap, subst}
use Rattle.std.specs.Prelude.{if◌then◌else◌, nat_lt}
use Rattle.cil_model.specs.declared.phases.Phase.{Phase}
use Rattle.cil_model.specs.declared.phases.Phase.TheVariants.{Idle, Mark, Allocate, Copy, PreFlip, HeapFlip, ThreadFlip, Reclaim}
use Rattle.cil_model.specs.declared.trees.Tree.{Tree}
use Rattle.reference_machine.specs.Cycles.{phase_after}
use Rattle.object_memory.specs.declared.values.Value.{Value}
use Rattle.object_memory.specs.Spaces.{Spaces}
use Rattle.object_memory.specs.Objects.{Objects}
use Rattle.barriers.specs.Barriers.{forward_value, stored_static, with_marked}
use Rattle.collector.specs.References.{ValuePasses}
use Rattle.collector.specs.Phases.{is_live, is_new_address}
use Rattle.collector.specs.Holds.{AnyLive, MarkedOnly, NewOnly, passes, static_may_hold}
use Rattle.collector.specs.declared.progress.Progress.{Progress}
use Rattle.collector.proofs.Addresses.LiveForwards.{has_copies}
use Rattle.collector.proofs.HeapStores.ReachedCopies.{IsBeside, not_after}
use Rattle.collector.proofs.Marks.MarksOfStores.{live_grows, value_mark_grows}
use Rattle.collector.proofs.ThreadReferences.LiveValues.{held_by}
use Rattle.collector.proofs.HeapStores.StoreSoundness.{IsBesideHeap}
use Rattle.collector.proofs.Copies.VisibleCopies.{forwarded_is_new}
use Rattle.collector.proofs.Marks.MarkedHeaps.{with_marked-passes}
use Rattle.collector.proofs.Addresses.Tests.{is_new_live, new_is_live, value_weakens}

-- what the field gets
abbrev pub value_for_static : Phase → Objects → Value → Value
value_for_static Idle o v = v
value_for_static Mark o v = v
value_for_static Allocate o v = v
value_for_static Copy o v = v
value_for_static PreFlip o v = forward_value o v
value_for_static HeapFlip o v = forward_value o v
value_for_static ThreadFlip o v = v
value_for_static Reclaim o v = v

module _ (tree : Tree) (has_round : Bool) (words : ℕ) (p : Progress) (o : Objects) (statics : List Value) (number : ℕ) (v : Value) where
  abbrev IsHeld : (own posted_phase : Phase) → Type 0
  IsHeld own posted_phase = ValuePasses (passes (held_by own posted_phase) posted_phase o.spaces) v

  -- ---- the field

  abbrev IsFit : (own posted_phase : Phase) → Type 0
  IsFit own posted_phase = IsBesideHeap tree own posted_phase has_round words p o → IsHeld own posted_phase → ValuePasses (static_may_hold posted_phase (stored_static own o statics number v).0.spaces p number) (value_for_static own o v)

  -- what is new may be in any field from PreFlip on
  new_fits : (posted_phase : Phase) (m : Spaces) (t : Bool) (u : Value) → is_new_live posted_phase ≡ true → ValuePasses (is_new_address m) u → ValuePasses (λ a. passes (if t then NewOnly else AnyLive) posted_phase m a) u
  new_fits posted_phase m true u late new = new
  new_fits posted_phase m false u late new = value_weakens (is_new_address m) (is_live posted_phase m) (λ a. new_is_live posted_phase m a late) u new

  -- the forward of what is live
  forward_fits : (own posted_phase : Phase) → has_copies posted_phase ≡ true → IsBesideHeap tree own posted_phase has_round words p o → ValuePasses (is_live posted_phase o.spaces) v → ValuePasses (is_new_address o.spaces) (forward_value o v)
  forward_fits own posted_phase copied thread live = forwarded_is_new tree posted_phase p o thread.sound.blocks.spaces thread.sound.copies copied v live

  -- the static fields aren't scanned while a thread is late
  idle_late : IsFit Idle Mark
  idle_late thread held =
      let begun = thread.on_time (not_after Idle) in
      let unscanned : p.scanned_statics ≡ false = ap (λ (q : Progress). q.scanned_statics) begun.nothing in
      subst (λ t. ValuePasses (λ a. passes (if t then MarkedOnly else AnyLive) Mark o.spaces a) v) (sym unscanned) held

  mark_now : IsFit Mark Mark
  mark_now thread held = by_scan p.scanned_statics
    where
      by_scan : (t : Bool) → ValuePasses (λ a. passes (if t then MarkedOnly else AnyLive) Mark (with_marked o v).spaces a) v
      by_scan true = with_marked-passes o thread.sound.blocks.spaces v held
      by_scan false = value_weakens (is_live Mark o.spaces) (is_live Mark (with_marked o v).spaces) (live_grows o.spaces (with_marked o v).spaces (value_mark_grows o v) Mark) v held

  mark_late : IsFit Mark Allocate
  mark_late thread held = value_weakens (is_live Allocate o.spaces) (is_live Allocate (with_marked o v).spaces) (live_grows o.spaces (with_marked o v).spaces (value_mark_grows o v) Allocate) v held

  pre_flip_now : IsFit PreFlip PreFlip
  pre_flip_now thread held = new_fits PreFlip o.spaces false (forward_value o v) refl (forward_fits PreFlip PreFlip refl thread held)

  pre_flip_late : IsFit PreFlip HeapFlip
  pre_flip_late thread held = new_fits HeapFlip o.spaces (nat_lt number p.flipped_statics) (forward_value o v) refl (forward_fits PreFlip HeapFlip refl thread held)

  heap_flip_now : IsFit HeapFlip HeapFlip
  heap_flip_now thread held = new_fits HeapFlip o.spaces (nat_lt number p.flipped_statics) (forward_value o v) refl (forward_fits HeapFlip HeapFlip refl thread held)

  heap_flip_late : IsFit HeapFlip ThreadFlip
  heap_flip_late thread held = forward_fits HeapFlip ThreadFlip refl thread held

  now_fits : (own : Phase) → IsFit own own
  now_fits Mark thread held = mark_now thread held
  now_fits PreFlip thread held = pre_flip_now thread held
  now_fits HeapFlip thread held = heap_flip_now thread held
  now_fits _ thread held = held

  late_fits : (own : Phase) → IsFit own (phase_after own)
  late_fits Idle thread held = idle_late thread held
  late_fits Mark thread held = mark_late thread held
  late_fits PreFlip thread held = pre_flip_late thread held
  late_fits HeapFlip thread held = heap_flip_late thread held
  late_fits _ thread held = held

  -- a static field may hold what it gets
  fits_beside : (own posted_phase : Phase) → IsBeside own posted_phase → IsFit own posted_phase
  fits_beside own posted_phase (inl now) = subst (λ q. IsFit own q) now (now_fits own)
  fits_beside own posted_phase (inr late) = subst (λ q. IsFit own q) late (late_fits own)

  -- and the field may hold what it got
  pub static_fits : (own posted_phase : Phase) → IsBesideHeap tree own posted_phase has_round words p o → ValuePasses (passes (held_by own posted_phase) posted_phase o.spaces) v
      → ValuePasses (static_may_hold posted_phase (stored_static own o statics number v).0.spaces p number) (value_for_static own o v)
  static_fits own posted_phase thread held = fits_beside own posted_phase thread.beside thread held
