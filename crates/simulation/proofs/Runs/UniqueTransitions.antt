-- In a legal tree an event has one transition: a list of events brings a machine to one state, with one list of reports.
use Rattle.std.proofs.Common.{◌≡◌, List, Some, None, Option, slice_get, ℕ, sym, ap, ◌∙◌, subst}
use Rattle.std.proofs.lemmas.Option.{same_Some}
use Rattle.interpreter.specs.cil_model.declared.events.Event.{Event}
use Rattle.interpreter.specs.cil_model.declared.events.Event.TheVariants.{Step}
use Rattle.interpreter.specs.cil_model.declared.instructions.Instruction.{Instruction}
use Rattle.interpreter.specs.cil_model.declared.reports.Report.{Report}
use Rattle.interpreter.specs.cil_model.declared.trees.Line.{Line}
use Rattle.interpreter.specs.cil_model.declared.trees.Method.{Method}
use Rattle.interpreter.specs.cil_model.declared.trees.Tree.{Tree}
use Rattle.interpreter.specs.cil_model.declared.types.ClassName.{ClassName}
use Rattle.interpreter.specs.cil_model.Bodies.{lines_of}
use Rattle.interpreter.specs.object_memory.Objects.{Objects}
use Rattle.interpreter.specs.object_memory.declared.values.Value.{Value}
use Rattle.interpreter.specs.resolved_code.ResolvedPrograms.{IsOperation}
use Rattle.interpreter.specs.resolved_code.declared.operations.Operation.{Operation}
use Rattle.interpreter.specs.threads_monitors.Frames.{Frames}
use Rattle.interpreter.specs.threads_monitors.declared.mutators.Mutator.{Mutator}
use Rattle.interpreter.specs.threads_monitors.declared.threads.ThreadStatus.{ThreadStatus}
use Rattle.interpreter.specs.threads_monitors.declared.threads.ThreadStatus.TheVariants.{Live, Ended}
use Rattle.interpreter.specs.threads_monitors.declared.threads.Thread.{Thread}
use Rattle.interpreter.specs.Instructions.{Answer, IsAt, IsDone, operation_transition}
use Rattle.simulation.specs.MachineStates.{MachineState, mutator_of}
use Rattle.simulation.specs.Transitions.{IsStatusTransition, IsThreadTransition, IsTransition, finish_step}

module _ (tree : Tree) (one : (lines : List Line) (i : Instruction) (o p : Operation) → IsOperation tree lines i o → IsOperation tree lines i p → o ≡ p) where
  at_once : (m : Frames) (o p : Operation) → IsAt tree m o → IsAt tree m p → o ≡ p
  at_once m o p h k =
      let methods : h.found ≡ k.found = same_Some h.found k.found (sym h.found_is ∙ k.found_is) in
      let lines : h.line ≡ k.line = same_Some h.line k.line (sym h.line_is ∙ (ap (λ (f : ClassName × Method). slice_get (lines_of f.1) m.running.pc) methods ∙ k.line_is)) in
      one (lines_of h.found.1) h.line.instruction o p h.refines
      (subst (λ (l : Line). IsOperation tree (lines_of h.found.1) l.instruction p) (sym lines) (subst (λ (f : ClassName × Method). IsOperation tree (lines_of f.1) k.line.instruction p) (sym methods) k.refines))

  pub done_once : (mutator : Mutator) (m : Frames) (o : Objects) (statics : List Value) (printed : List ℕ) (a b : Answer) → IsDone tree mutator m o statics printed a → IsDone tree mutator m o statics printed b → a ≡ b
  done_once mutator m o statics printed a b h k =
      same_Some a b (h.is ∙ (ap (λ (x : Operation). operation_transition tree mutator x m o statics printed) (at_once m h.operation k.operation h.at k.at) ∙ sym k.is))

module _ (c : MachineState) (one : (lines : List Line) (i : Instruction) (o p : Operation) → IsOperation c.tree lines i o → IsOperation c.tree lines i p → o ≡ p) where
  status_once : (t left : ℕ) (s : ThreadStatus) (x y : MachineState × Report) → IsStatusTransition c t left s x → IsStatusTransition c t left s y → x ≡ y
  status_once t left (Live m) x y h k =
      let answers = done_once c.tree one (mutator_of c t) m c.objects c.statics c.printed h.0 k.0 h.1 k.1 in
      same_Some x y (sym h.2 ∙ (ap (λ (a : Answer). finish_step c t left a a.outcome) answers ∙ k.2))
  status_once t left (Ended e) x y h k = h ∙ sym k

  thread_once : (t : ℕ) (thread : Option Thread) (x y : MachineState × Report) → IsThreadTransition c t thread x → IsThreadTransition c t thread y → x ≡ y
  thread_once t None x y h k = h ∙ sym k
  thread_once t (Some thread) x y h k = status_once t thread.steps_left thread.thread_status x y h k

  pub one_transition : (event : Event) (x y : MachineState × Report) → IsTransition c event x → IsTransition c event y → x ≡ y
  one_transition (Step t) x y h k = thread_once t (slice_get c.threads t) x y h k
  one_transition _ x y h k = h ∙ sym k
