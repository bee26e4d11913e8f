-- A linked instruction that was done to a frame alone is a local instruction of it, over any frames and in any memory.
use Rattle.std.proofs.Common.{◌≡◌, ◌⊎◌, inl, inr, ℕ, Bool, true, false, List, [], Some, None, refl, sym, ap, ◌∙◌, subst}
use Rattle.std.proofs.lemmas.Option.{same_Some}
use Rattle.cil_model.proofs.Lists.{none_is_some}
use Rattle.std.specs.Option.{option_map_or}
use Rattle.std.specs.Prelude.{IsSome, option_and_then, slice_get}
use Rattle.cil_model.specs.declared.types.ClassName.{ClassName}
use Rattle.cil_model.specs.declared.trees.Method.{Method}
use Rattle.cil_model.specs.declared.trees.Tree.{Tree}
use Rattle.resolved_code.specs.declared.operations.Operation.{Operation}
use Rattle.object_memory.specs.declared.values.Value.{Value}
use Rattle.object_memory.specs.Objects.{Objects}
use Rattle.loaded_program.specs.LoadedPrograms.{IsCode, IsLinkedAt, IsLinkedLine, line_in}
use Rattle.loaded_program.proofs.MethodLaws.{alike_from, some_of}
use Rattle.cil_model.specs.Bodies.{lines_of}
use Rattle.loaded_program.specs.declared.instructions.LinkedInstruction.{LinkedInstruction}
use Rattle.threads_monitors.specs.declared.mutators.Mutator.{Mutator}
use Rattle.threads_monitors.specs.declared.effects.Effect.{Effect}
use Rattle.threads_monitors.specs.declared.effects.Effect.TheVariants.{Continues, Raises}
use Rattle.threads_monitors.specs.Frames.{Frame, Frames}
use Rattle.instructions.specs.Frames.{Transition}
use Rattle.instructions.specs.LocalTransitions.{IsFaulty}
use Rattle.interpreter.specs.declared.outcomes.InstructionOutcome.TheVariants.{OwnEffect}
use Rattle.interpreter.specs.Instructions.{IsAt, IsDone, answer_of, link_of, linked_transition, of_frames, operation_transition}
use Rattle.interpreter.specs.Local.{EndsLocal, IsLocalStep, IsNextLocal, IsReadySomewhere, single_frame, frames_over, is_local, is_local_link, local_link_transition}
use Rattle.interpreter.proofs.LinkedExecution.{linked_here}
use Rattle.interpreter.proofs.LinkedTransitions.{link_does, link_is}
use Rattle.interpreter.proofs.LocalKeeps.{local_keeps}
use Rattle.interpreter.proofs.LocalRules.{local_is, local_moves, moved_transition}

-- where a transition is given by another, it has a result where that has one
framed_some : (o : Objects) (ss : List Value) (c : List ℕ) (t : Transition) → IsSome (of_frames o ss c t) → IsSome t
framed_some o ss c None h = absurd cc
framed_some o ss c (Some x) h = refl

moved_some : (below : List Frame) (depth : ℕ) (t : Transition) → IsSome (moved_transition below depth t) → IsSome t
moved_some below depth None h = absurd cc
moved_some below depth (Some x) h = refl

some_moved : (below : List Frame) (depth : ℕ) (t : Transition) → IsSome t → IsSome (moved_transition below depth t)
some_moved below depth None h = absurd cc
some_moved below depth (Some x) h = refl

-- a transition over other frames comes from that on the frame alone
moved_from : (below : List Frame) (depth : ℕ) (t : Transition) (m : Frames) (e : Effect) → moved_transition below depth t ≡ Some (m, e) → (k : Frames) × (t ≡ Some (k, e)) × (m ≡ record k { below = below; depth = depth })
moved_from below depth None m e is = none_is_some (m, e) is
moved_from below depth (Some x) m e is =
    let same : (record x.0 { below = below; depth = depth }, x.1) ≡ (m, e) = same_Some _ _ is in
    (x.0, ap (λ (y : Frames × Effect). Some (x.0, y.1)) same, sym (ap (λ (y : Frames × Effect). y.0) same))

module _ (tree : Tree) (room : ℕ) (f : Frame) (l : LinkedInstruction) (at : IsLinkedAt tree f.method f.pc l) (ready : IsReadySomewhere tree room f) where
  abbrev op : Operation
  op = at.linked.operation

  at_over : (below : List Frame) (depth : ℕ) → IsAt tree (frames_over f below depth room) op
  at_over below depth = record { found = at.found; line = at.line; found_is = at.found_is; line_is = at.line_is; refines = at.linked.refines }

  -- where it is ready
  abbrev somewhere : Frames
  somewhere = frames_over f ready.below ready.depth room

  has_answer : IsSome (operation_transition tree ready.mutator op somewhere ready.objects ready.statics ready.printed)
  has_answer = ready.there op (at_over ready.below ready.depth) at.linked.links.constant

  -- so it is linked to this, over any frames
  linked : link_of tree (single_frame room f) op ≡ Some l
  linked = link_is tree ready.mutator somewhere ready.objects ready.statics ready.printed at.found at.found_is op l at.linked.links.is has_answer

  pub is_alike : is_local_link l ≡ is_local tree (single_frame room f) op
  is_alike = sym (ap (λ x. option_map_or is_local_link x false) linked)

  -- a local one has a result on the frame alone
  has_local : is_local_link l ≡ true → IsSome (local_link_transition l (single_frame room f))
  has_local local =
      let there : IsSome (linked_transition tree ready.mutator l somewhere ready.objects ready.statics ready.printed) =
      subst IsSome (link_does tree ready.mutator somewhere ready.objects ready.statics ready.printed op l linked) has_answer in
      let on_frames : IsSome (local_link_transition l somewhere) =
      framed_some ready.objects ready.statics ready.printed (local_link_transition l somewhere) (subst IsSome (local_is tree ready.mutator somewhere ready.objects ready.statics ready.printed l local) there) in
      moved_some ready.below ready.depth (local_link_transition l (single_frame room f)) (subst IsSome (local_moves ready.below ready.depth l (single_frame room f)) on_frames)

  -- over any frames and in any memory
  module _ (local : is_local_link l ≡ true) (below : List Frame) (depth : ℕ) (mutator : Mutator) (o : Objects) (statics : List Value) (printed : List ℕ) where
    abbrev here : Frames
    here = frames_over f below depth room

    on_linked : linked_transition tree mutator l here o statics printed ≡ of_frames o statics printed (moved_transition below depth (local_link_transition l (single_frame room f)))
    on_linked = local_is tree mutator here o statics printed l local ∙ ap (of_frames o statics printed) (local_moves below depth l (single_frame room f))

    pub done_here : (m : Frames) (e : Effect) → local_link_transition l (single_frame room f) ≡ Some (m, e) →
        IsDone tree mutator here o statics printed (answer_of (record m { below = below; depth = depth }) o statics printed (OwnEffect e))
    done_here m e is = record {
      operation = op;
      at = at_over below depth;
      constant = at.linked.links.constant;
      is = sym (ap (λ (t : Transition). of_frames o statics printed (moved_transition below depth t)) is) ∙ sym on_linked ∙ sym (link_does tree mutator here o statics printed op l linked);
    }

  -- whether it is one
  pub next_is : (local : Bool) → local ≡ is_local_link l → IsNextLocal tree room f local
  next_is local is = (op, at_over [] 1, sym is_alike ∙ sym is)

  -- it is one of the frame
  local_step : is_local_link l ≡ true → (m : Frames) → local_link_transition l (single_frame room f) ≡ Some (m, Continues) → m ≡ single_frame room m.running → IsLocalStep tree room f m.running
  local_step local m is same = record {
    operation = op;
    at = at_over [] 1;
    local = sym is_alike ∙ local;
    done = λ below depth mutator o statics printed.
        subst (λ (k : Frames). IsDone tree mutator (frames_over f below depth room) o statics printed (answer_of k o statics printed (OwnEffect Continues)))
        (ap (λ (k : Frames). record k { below = below; depth = depth }) same) (done_here local below depth mutator o statics printed m Continues is);
  }

  -- or it is none, or raises a fault
  ends_here : (is_local_link l ≡ false) ⊎ ((is_local_link l ≡ true) × IsFaulty (local_link_transition l (single_frame room f))) → EndsLocal tree room f
  ends_here (inl other) = inl (op, at_over [] 1, sym is_alike ∙ other)
  ends_here (inr (local, (m, fault, raises))) =
      inr (record {
        operation = op;
        at = at_over [] 1;
        local = sym is_alike ∙ local;
        fault = fault;
        raises = λ below depth mutator o statics printed. (record m { below = below; depth = depth }, done_here local below depth mutator o statics printed m (Raises fault) raises);
      })

  -- the same over the frames below
  module _ (below : List Frame) (depth : ℕ) where
    alone_from : (m : Frames) (e : Effect) → local_link_transition l (frames_over f below depth room) ≡ Some (m, e) → (k : Frames) × (local_link_transition l (single_frame room f) ≡ Some (k, e)) × (m ≡ record k { below = below; depth = depth })
    alone_from m e is = moved_from below depth (local_link_transition l (single_frame room f)) m e (sym (local_moves below depth l (single_frame room f)) ∙ is)

    pub has_local_over : is_local_link l ≡ true → IsSome (local_link_transition l (frames_over f below depth room))
    has_local_over local = subst IsSome (sym (local_moves below depth l (single_frame room f))) (some_moved below depth (local_link_transition l (single_frame room f)) (has_local local))

    pub step_over : is_local_link l ≡ true → (m : Frames) → local_link_transition l (frames_over f below depth room) ≡ Some (m, Continues) → IsLocalStep tree room f m.running
    step_over local m is =
        let on_frame = alone_from m Continues is in
        let keeps = local_keeps l (single_frame room f) (on_frame.0, Continues) on_frame.1 in
        subst (IsLocalStep tree room f) (ap (λ (k : Frames). k.running) (sym on_frame.2)) (local_step local on_frame.0 on_frame.1 keeps.frames)

    pub ends_over : (is_local_link l ≡ false) ⊎ ((is_local_link l ≡ true) × IsFaulty (local_link_transition l (frames_over f below depth room))) → EndsLocal tree room f
    ends_over (inl other) = ends_here (inl other)
    ends_over (inr (local, (m, fault, raises))) =
        let on_frame = alone_from m (Raises fault) raises in
        ends_here (inr (local, (on_frame.0, fault, on_frame.1)))

-- ---- a method's code

pub linked_in : (tree : Tree) (code : List LinkedInstruction) (method pc : ℕ) → IsCode tree method code → IsSome (line_in tree method pc) → (l : LinkedInstruction) × (slice_get code pc ≡ Some l) × IsLinkedAt tree method pc l
linked_in tree code method pc is there =
    let line = some_of (line_in tree method pc) there in
    let line_is : slice_get (lines_of is.found.1) pc ≡ Some line.0 = sym (ap (option_and_then (λ (found : ClassName × Method). slice_get (lines_of found.1) pc)) is.found_is) ∙ line.1 in
    let l = alike_from (IsLinkedLine tree is.found) (lines_of is.found.1) code pc line.0 is.lines line_is in
    (l.0, l.1, record { found = is.found; line = line.0; found_is = is.found_is; line_is = line_is; linked = l.2 })

-- what is linked for a frame's next instruction, where it is ready
pub linked_at : (tree : Tree) (m : Frames) (room method pc : ℕ) (code : List LinkedInstruction) (l : LinkedInstruction) → IsReadySomewhere tree room m.running → method ≡ m.running.method → pc ≡ m.running.pc → IsCode tree method code
    → ((t : Tree) (k : ℕ) → IsCode t k code → IsSome (line_in t k pc) → IsLinkedAt t k pc l) → IsLinkedAt tree m.running.method m.running.pc l
linked_at tree m room method pc code l ready same_method same_pc is found =
    let there : IsSome (line_in tree method pc) =
    subst (λ k. IsSome (line_in tree k pc)) (sym same_method) (subst (λ k. IsSome (line_in tree m.running.method k)) (sym same_pc) ready.pc) in
    linked_here tree m method pc l same_method same_pc (found tree method is there)
