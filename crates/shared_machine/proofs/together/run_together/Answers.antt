use Rattle.std.proofs.Common.{◌≡◌, ◌<◌, ℕ, length, ap, ◌∙◌, sym, subst, arith}
use Rattle.shared_machine.specs.Histories.{AreOf}
use Rattle.shared_machine.specs.Work.{HaveWorked}
use Rattle.shared_machine.specs.Worlds.{IsPrintedWithin}
use Rattle.shared_machine.proofs.InitialStates.{seats_are}
use Rattle.shared_machine.proofs.OwnEvents.{all_own, complete, length_fresh}
use Rattle.shared_machine.proofs.together.run_together.Goals as goal

pub run_workers-tickets-requires-clause-tickets : goal.run_workers-tickets-requires-clause-tickets
run_workers-tickets-requires-clause-tickets g c κs within =
    let long : length c.in_ok-shared.tickets.items ≡ c.args.workers = ap length c.in_ok-shared.ensures.1 ∙ length_fresh c.args.workers in
    (omega (arith, long, c.requires.workers.0), omega (arith, long, c.requires.workers.1))

pub run_workers-tickets-requires-clause-seats : goal.run_workers-tickets-requires-clause-seats
run_workers-tickets-requires-clause-seats g c κs within =
    let long : length c.in_ok-shared.tickets.items ≡ c.args.workers = ap length c.in_ok-shared.ensures.1 ∙ length_fresh c.args.workers in
    let seats = seats_are c.in_ok-epochs.epochs c.from.result c.in_ok-epochs.seats.items c.in_ok-epochs.ensures.seats in
    (omega (arith, long, c.from.ensures, seats.0), seats.1)

pub unreachable-requires : goal.unreachable-requires
unreachable-requires g c =
    let before = c.in_ok-shared.tickets.items in
    let after = c.run_workers-tickets.result.items in
    let long : length before ≡ c.args.workers = ap length c.in_ok-shared.ensures.1 ∙ length_fresh c.args.workers in
    let worked = subst (λ (n : ℕ). HaveWorked n before after) long c.run_workers-tickets.ensures in
    let missing = c.in-Err.ensures.exact in
    missing.2 (complete c.args.workers before after c.in_ok-shared.ensures.1 worked missing.0 (subst (λ (n : ℕ). missing.0 < n) c.in_ok-shared.ensures.0 missing.1))

pub returns-clause-printed : goal.returns-clause-printed
returns-clause-printed g c = subst (λ most. IsPrintedWithin most g.M.Initial.initial_state c.in-Ok.outcome.machine) (sym c.requires.printed) c.in-Ok.ensures.printed

pub returns-clause-own : goal.returns-clause-own
returns-clause-own g c =
    let before = c.in_ok-shared.tickets.items in
    let after = c.run_workers-tickets.result.items in
    let h = c.in-Ok.outcome.history.entries in
    let long : length before ≡ c.args.workers = ap length c.in_ok-shared.ensures.1 ∙ length_fresh c.args.workers in
    let worked = subst (λ (n : ℕ). HaveWorked n before after) long c.run_workers-tickets.ensures in
    all_own c.args.workers before after h c.in_ok-shared.ensures.1 worked (subst (λ (n : ℕ). AreOf n h) (sym c.requires.workers.2) c.in-Ok.ensures.theirs) c.in-Ok.ensures.counts
