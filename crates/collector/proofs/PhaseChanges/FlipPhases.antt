-- From PreFlip to Reclaim: a heap stays sound as each phase is posted.
use Rattle.std.proofs.Common.{◌≡◌, inl, ℕ, ◌+◌, Bool, true, refl, subst, arith}
use Rattle.cil_model.specs.declared.phases.Phase.{Phase}
use Rattle.cil_model.specs.declared.phases.Phase.TheVariants.{PreFlip, HeapFlip, ThreadFlip, Reclaim}
use Rattle.cil_model.specs.PhaseOrder.{is_between}
use Rattle.cil_model.specs.declared.trees.Tree.{Tree}
use Rattle.reference_machine.specs.Cycles.{phase_after}
use Rattle.object_memory.specs.Spaces.{IsOffset, Spaces}
use Rattle.object_memory.proofs.Blocks.{range_in}
use Rattle.collector.specs.Phases.{no_progress}
use Rattle.collector.specs.Soundness.{IsCleared, IsSoundHeap}
use Rattle.collector.specs.declared.progress.Progress.{Progress}
use Rattle.object_memory.proofs.Offsets.{IsOffset-start}
use Rattle.collector.proofs.BlockWalks.CollectorOffsets.{HasCursor-else, HasCursor-begun}
use Rattle.collector.proofs.PhaseChanges.LaterPhases.{IsSoundHeap-on}

-- whether the phase after one comes with the same heap, whose copies are made
abbrev pub is_flip : Phase → Bool
is_flip p = is_between PreFlip ThreadFlip p

-- nothing is before the first object
none_cleared : (m : Spaces) → IsCleared no_progress m
none_cleared m = record {
  offset = (let same : m.new.start ≡ m.new.start + 0 = omega arith in subst (IsOffset m.new) same (IsOffset-start m.new));
  objects = λ b d lies less. absurd (omega (arith, (range_in m.new b d lies).0, less));
}

module _ (tree : Tree) (has_round : Bool) (words : ℕ) (p : Progress) (m : Spaces) where
  -- HeapFlip is posted
  pub to_heap_flip : IsSoundHeap tree PreFlip has_round words p m → IsSoundHeap tree HeapFlip has_round words no_progress m
  to_heap_flip sound =
      IsSoundHeap-on tree PreFlip HeapFlip has_round has_round words p no_progress m sound refl refl refl (λ is. absurd cc) (λ a c word lies some short is. inl tt) sound.copies.shells
      sound.copies.old_references (λ is. absurd cc) (HasCursor-begun HeapFlip m) (λ is. absurd cc) (λ is. absurd cc)

  -- ThreadFlip is posted
  pub to_thread_flip : IsSoundHeap tree HeapFlip has_round words p m → IsSoundHeap tree ThreadFlip has_round words no_progress m
  to_thread_flip sound =
      IsSoundHeap-on tree HeapFlip ThreadFlip has_round has_round words p no_progress m sound refl refl refl (λ is. absurd cc) (λ a c word lies some short is. inl tt) sound.copies.shells
      sound.copies.old_references (λ is. absurd cc) (HasCursor-begun ThreadFlip m) (λ is. absurd cc) (λ is. absurd cc)

  -- Reclaim is posted: the old block is read no more
  pub to_reclaim : IsSoundHeap tree ThreadFlip has_round words p m → IsSoundHeap tree Reclaim has_round words no_progress m
  to_reclaim sound =
      IsSoundHeap-on tree ThreadFlip Reclaim has_round has_round words p no_progress m sound refl refl refl (λ is. absurd cc) (λ a c word lies some short is. inl tt) sound.copies.shells
      (λ a c lies read. absurd cc) (λ is. absurd cc) (HasCursor-begun Reclaim m) (λ is. absurd cc) (λ is. none_cleared m)

  -- each of the three
  pub flip_posted : (posted_phase : Phase) → is_flip posted_phase ≡ true → IsSoundHeap tree posted_phase has_round words p m → IsSoundHeap tree (phase_after posted_phase) has_round words no_progress m
  flip_posted PreFlip e sound = to_heap_flip sound
  flip_posted HeapFlip e sound = to_thread_flip sound
  flip_posted ThreadFlip e sound = to_reclaim sound
  flip_posted _ e sound = absurd cc

  -- how far the static fields are flipped matters to no object
  pub in_heap_flip : (p' : Progress) → IsSoundHeap tree HeapFlip has_round words p m → IsSoundHeap tree HeapFlip has_round words p' m
  in_heap_flip p' sound =
      IsSoundHeap-on tree HeapFlip HeapFlip has_round has_round words p p' m sound refl refl refl (λ is. absurd cc) (λ a c word lies some short is. inl tt) sound.copies.shells
      sound.copies.old_references (λ is. absurd cc) (HasCursor-else HeapFlip p' m (λ is. absurd cc) (λ is. absurd cc)) (λ is. absurd cc) (λ is. absurd cc)
