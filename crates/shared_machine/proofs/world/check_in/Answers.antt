use Rattle.std.proofs.Common.{◌≡◌, ◌++◌, ◌∙◌, ℕ, List, Some, length, replicate, refl, sym, ap, subst, arith, rules, vec_len}
use Rattle.cil_model.specs.declared.events.Event.TheVariants.{Step}
use Rattle.cil_model.specs.declared.reports.Report.TheVariants.{Ran}
use Rattle.interleaving_core.specs.Loans.{IsAtOrigin, Lent}
use Rattle.interleaving_core.specs.simulation.MachineStates.{MachineState}
use Rattle.interleaving_core.specs.simulation.Runs.{AreTransitions}
use Rattle.shared_machine.specs.Histories.{Log, entry}
use Rattle.shared_machine.specs.Worlds.{IsCheckedIn, WorldState, is_lent_in, lent_of}
use Rattle.shared_machine.specs.declared.history.Entry.{Entry}
use Rattle.shared_machine.proofs.Bounds.{same_within}
use Rattle.shared_machine.proofs.Lendings.{checked_in, lent_within, room_back, same_tree, shown_as, small_step, sound_times, world_at}
use Rattle.std.specs.Prelude.{slice_set}
use Rattle.shared_machine.proofs.world.check_in.Goals as goal
use Rattle.shared_machine.proofs.world.check_in.Goals.{else-times-gt0-via-then-times-gt0+else-is_err, else-times-gt0-via-else-times-gt0}

-- the transitions of a loan by the numbers that were read of it
transitions_as : (core next : MachineState) (l : Lent) (n thread : ℕ) → l.done ≡ n → l.thread ≡ thread → AreTransitions core (replicate l.done (Step l.thread)) next (replicate l.done Ran) → AreTransitions core (replicate n (Step thread)) next (replicate n Ran)
transitions_as core next l n thread d t transitions = subst (λ (x : ℕ × ℕ). AreTransitions core (replicate x.0 (Step x.1)) next (replicate x.0 Ran)) (λ i. (d i, t i)) transitions

pub take_back-requires-clause-tree : goal.take_back-requires-clause-tree
take_back-requires-clause-tree g c = c.into_loan.ensures.tree ∙ sym (same_tree _ _ _ _ _ c.world.invariant.sound)

pub index_mut-requires : goal.index_mut-requires
index_mut-requires g c =
    let counted : vec_len c.world.inside.rooms ≡ length c.world.inside.rooms.items = search rules in
    let lent = ap (λ rooms. is_lent_in (lent_of rooms) c.thread-thread.result) (sym c.deref.ensures.value) ∙ sym c.is_lent.ensures ∙ c.if-not-is_lent.false in
    let inside = lent_within c.world.inside.rooms.items c.thread-thread.result lent in
    omega (arith, counted, inside, c.from.ensures)

pub invariant_of-world-2 : goal.invariant_of-world-2
invariant_of-world-2 g c =
    let before : c.else-times-gt0.history.entries ≡ c.world.inside.history.entries = elim c.else-times-gt0.branch [
      | else-times-gt0-via-then-times-gt0+else-is_err w ↦ ap (λ (l : Log). l.entries) w.history-is ∙ w.make_room.ensures.entries
      | else-times-gt0-via-else-times-gt0 w ↦ ap (λ (l : Log). l.entries) w.history-is
    ] in
    let loan = c.into_loan.ensures.loan in
    let done = ap (λ (l : Lent). l.done) (loan ∙ sym c.lent.view_is) ∙ sym c.step_count-times.ensures in
    let thread = ap (λ (l : Lent). l.thread) (loan ∙ sym c.lent.view_is) ∙ sym c.thread-thread.ensures in
    let transitions = transitions_as c.world.inside.core c.take_back.new.self c.into_loan.result c.step_count-times.result c.thread-thread.result done thread c.take_back.ensures.transitions in
    let t = c.args.ticket.now in
    world_at _ _ _ _ _ _ _ _ _ _ _ _
    (sound_times _ _ t.worker (Step c.thread-thread.result) Ran (small_step c.thread-thread.result c.thread-thread.type_inv) c.take_back.new.self c.step_count-times.result c.world.inside.core c.world.inside.history.entries c.world.inside.book t.count c.world.invariant.sound c.record_steps.ensures.agreed transitions)
    refl
    (c.record_steps.ensures.history ∙ ap (λ (h : List Entry). h ++ replicate c.step_count-times.result (entry t.worker (Step c.thread-thread.result) Ran)) before)
    c.record_steps.ensures.book
    refl
    (room_back _ c.world.inside.rooms.items c.from.result c.take_back.result c.world.invariant.homes (c.take_back.ensures.room ∙ same_tree _ _ _ _ _ c.world.invariant.sound))
    c.world.invariant.bound
    (same_within _ g.M.Initial.initial_state c.world.inside.core c.take_back.new.self c.take_back.ensures.printed c.world.invariant.printed)

pub returns-clause-done : goal.returns-clause-done
returns-clause-done g c =
    let before : c.else-times-gt0.history.entries ≡ c.world.inside.history.entries = elim c.else-times-gt0.branch [
      | else-times-gt0-via-then-times-gt0+else-is_err w ↦ ap (λ (l : Log). l.entries) w.history-is ∙ w.make_room.ensures.entries
      | else-times-gt0-via-else-times-gt0 w ↦ ap (λ (l : Log). l.entries) w.history-is
    ] in
    let loan = c.into_loan.ensures.loan in
    let done = ap (λ (l : Lent). l.done) (loan ∙ sym c.lent.view_is) ∙ sym c.step_count-times.ensures in
    let thread = ap (λ (l : Lent). l.thread) (loan ∙ sym c.lent.view_is) ∙ sym c.thread-thread.ensures in
    let transitions = transitions_as c.world.inside.core c.take_back.new.self c.into_loan.result c.step_count-times.result c.thread-thread.result done thread c.take_back.ensures.transitions in
    let lent = ap (λ rooms. is_lent_in (lent_of rooms) c.thread-thread.result) (sym c.deref.ensures.value) ∙ sym c.is_lent.ensures ∙ c.if-not-is_lent.false in
    let at = subst (IsAtOrigin c.world.inside.core) c.lent.view_is (c.is_at_origin.ensures.0 c.if-not-is_at_origin.false) in
    let t = c.args.ticket.now in
    subst (λ (w : WorldState). IsCheckedIn w t c.args.lent c.step_count-times.result (shown_as c.take_back.new.self c.record_steps.new.history.entries c.record_steps.new.book (lent_of (slice_set c.world.inside.rooms.items c.from.result (Some c.take_back.result))) c.world.inside.stopped) c.record_steps.new.ticket) c.world.view_is
    (checked_in c.world.inside.core c.take_back.new.self c.world.inside.history.entries c.record_steps.new.history.entries c.world.inside.book c.record_steps.new.book c.world.inside.stopped c.world.inside.rooms.items c.from.result c.step_count-times.result
    c.thread-thread.result c.take_back.result t c.record_steps.new.ticket c.args.lent c.from.ensures (c.step_count-times.ensures ∙ ap (λ (l : Lent). l.done) c.lent.view_is) (c.thread-thread.ensures ∙ ap (λ (l : Lent). l.thread) c.lent.view_is)
    lent at transitions (c.record_steps.ensures.history ∙ ap (λ (h : List Entry). h ++ replicate c.step_count-times.result (entry t.worker (Step c.thread-thread.result) Ran)) before) c.record_steps.ensures.book c.record_steps.ensures.ticket)
