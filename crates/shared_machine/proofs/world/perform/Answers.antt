use Rattle.std.proofs.Common.{ap, ◌∙◌, [], ◌∷◌, subst, sym}
use Rattle.interleaving_core.specs.Histories.{DoesMore}
use Rattle.interleaving_core.specs.simulation.Runs.{FollowsReference}
use Rattle.shared_machine.specs.Worlds.{IsPrintedWithin}
use Rattle.shared_machine.proofs.Bounds.{same_within}
use Rattle.shared_machine.proofs.KnownAnswers.{did_is, nothing_did, related_at}
use Rattle.shared_machine.proofs.Histories.{sound_more, history_is}
use Rattle.shared_machine.proofs.Lendings.{world_at}
use Rattle.shared_machine.proofs.world.perform.Goals as goal
use Rattle.shared_machine.proofs.world.perform.Goals.{in-Ok, in-Err}

pub invariant_of-world-2 : goal.invariant_of-world-2
invariant_of-world-2 g c =
    let bound = c.world.invariant.bound in
    elim c.match-step.branch [
      | in-Ok w ↦ let is = w.world-inside-is in
          world_at _ _ _ _ _ _ _ _ _ _ _ _
          (sound_more _ _ _ _ _ _ _ _ _ _ c.world.invariant.sound w.in-Ok.ensures.transitions c.thread_is_a_byte.ensures w.note.ensures.agreed)
          (ap (λ x. x.core) is)
          (ap (λ x. x.history.entries) is ∙ history_is _ _ _ _ _ _ _ w.add.ensures c.make_room.ensures.entries w.worker.ensures)
          (ap (λ x. x.book) is ∙ w.note.ensures.book)
          (ap (λ x. x.rooms.items) is)
          c.world.invariant.homes
          (ap (λ x. x.most_printed) is ∙ bound)
          (same_within _ g.M.Initial.initial_state c.step.new.self c.match-step.world-inside.core (ap (λ x. x.core.printed) is)
          (subst (λ most. IsPrintedWithin most g.M.Initial.initial_state c.step.new.self) bound (c.is_print_within.ensures c.if-not-is_print_within.false g.M.Initial.initial_state (c.step.new.self, w.in-Ok.report) w.in-Ok.ensures.transitions
          (subst (λ most. IsPrintedWithin most g.M.Initial.initial_state c.world.inside.core) (sym bound) c.world.invariant.printed))))
      | in-Err w ↦ let is = w.world-inside-is in
          world_at _ _ _ _ _ _ _ _ _ _ _ _
          c.world.invariant.sound
          (ap (λ x. x.core) is ∙ w.in-Err.ensures.refused)
          (ap (λ x. x.history.entries) is ∙ c.make_room.ensures.entries)
          (ap (λ x. x.book) is)
          (ap (λ x. x.rooms.items) is)
          c.world.invariant.homes
          (ap (λ x. x.most_printed) is ∙ bound)
          (same_within _ g.M.Initial.initial_state c.world.inside.core c.match-step.world-inside.core (ap (λ x. x.core.printed) is ∙ ap (λ x. x.printed) w.in-Err.ensures.refused) c.world.invariant.printed)
    ]

pub returns-clause-follows : goal.returns-clause-follows
returns-clause-follows g c =
    elim c.match-step.branch [
      | in-Ok w ↦ did_is c.match-step.result w.in-Ok.report w.result-is (λ report. FollowsReference c.args.world.now.core c.match-step.world-inside.core ((c.args.event, report) ∷ []))
          (related_at (λ x y. FollowsReference x y ((c.args.event, w.in-Ok.report) ∷ [])) c.world.inside.core c.args.world.now.core c.step.new.self c.match-step.world-inside.core (ap (λ x. x.core) c.world.view_is) (ap (λ x. x.core) w.world-inside-is) w.in-Ok.ensures.follows)
      | in-Err w ↦ nothing_did c.match-step.result w.result-is (λ report. FollowsReference c.args.world.now.core c.match-step.world-inside.core ((c.args.event, report) ∷ []))
    ]

pub returns-clause-does : goal.returns-clause-does
returns-clause-does g c =
    elim c.match-step.branch [
      | in-Ok w ↦ did_is c.match-step.result w.in-Ok.report w.result-is (λ report. DoesMore c.args.world.now.core (c.args.event ∷ []) (report ∷ []) c.match-step.world-inside.core)
          (related_at (λ x y. DoesMore x (c.args.event ∷ []) (w.in-Ok.report ∷ []) y) c.world.inside.core c.args.world.now.core c.step.new.self c.match-step.world-inside.core (ap (λ x. x.core) c.world.view_is) (ap (λ x. x.core) w.world-inside-is) w.in-Ok.ensures.does)
      | in-Err w ↦ nothing_did c.match-step.result w.result-is (λ report. DoesMore c.args.world.now.core (c.args.event ∷ []) (report ∷ []) c.match-step.world-inside.core)
    ]
