-- The linked instruction at a frame's pc does what the resolved one does.
use Rattle.std.proofs.Common.{◌≡◌, ℕ, List, sym, subst}
use Rattle.std.specs.Prelude.{IsSome}
use Rattle.cil_model.specs.declared.trees.Tree.{Tree}
use Rattle.resolved_code.specs.declared.operations.Operation.{Operation}
use Rattle.object_memory.specs.declared.values.Value.{Value}
use Rattle.object_memory.specs.Objects.{Objects}
use Rattle.loaded_program.specs.declared.instructions.LinkedInstruction.{LinkedInstruction}
use Rattle.loaded_program.specs.LoadedPrograms.{IsLinkedAt}
use Rattle.threads_monitors.specs.declared.mutators.Mutator.{Mutator}
use Rattle.threads_monitors.specs.Frames.{Frames}
use Rattle.interpreter.specs.Instructions.{HasSmallConstant, IsAt, linked_transition, operation_transition}
use Rattle.interpreter.proofs.LinkedTransitions.{link_does, link_is}

-- what is linked at a method and a pc, where the frame is there
pub linked_here : (tree : Tree) (m : Frames) (method pc : ℕ) (l : LinkedInstruction) → method ≡ m.running.method → pc ≡ m.running.pc → IsLinkedAt tree method pc l → IsLinkedAt tree m.running.method m.running.pc l
linked_here tree m method pc l same_method same_pc at = subst (λ k. IsLinkedAt tree m.running.method k l) same_pc (subst (λ k. IsLinkedAt tree k pc l) same_method at)

module _ (tree : Tree) (m : Frames) (l : LinkedInstruction) (at : IsLinkedAt tree m.running.method m.running.pc l) where
  abbrev pub resolved : Operation
  resolved = at.linked.operation

  pub is_at : IsAt tree m resolved
  is_at = record { found = at.found; line = at.line; found_is = at.found_is; line_is = at.line_is; refines = at.linked.refines }

  pub is_small : HasSmallConstant resolved
  is_small = at.linked.links.constant

  module _ (mutator : Mutator) (o : Objects) (ss : List Value) (c : List ℕ) (there : (op : Operation) → IsAt tree m op → HasSmallConstant op → IsSome (operation_transition tree mutator op m o ss c)) where
    pub does_the_same : linked_transition tree mutator l m o ss c ≡ operation_transition tree mutator resolved m o ss c
    does_the_same = sym (link_does tree mutator m o ss c resolved l (link_is tree mutator m o ss c at.found at.found_is resolved l at.linked.links.is (there resolved is_at is_small)))

    pub has_answer : IsSome (linked_transition tree mutator l m o ss c)
    has_answer = subst IsSome (sym does_the_same) (there resolved is_at is_small)
