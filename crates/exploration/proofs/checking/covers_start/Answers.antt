use Rattle.std.proofs.Common.{Some, length, refl, sym, ap, ◌∙◌, subst}
use Rattle.exploration.proofs.Names.{slice_get_read, MachineState, IsLagging}
use Rattle.exploration.proofs.LagTransitivity.{alike_lagging, lagging_more}
use Rattle.exploration.proofs.Paths.{events_there}
use Rattle.exploration.proofs.checking.covers_start.Goals as goal

pub returns : goal.returns
returns g c = λ known. record {
  machine_state = c.replay-2.new.self;
  among = record {
    path_index = 0;
    path = c.as_slice.result.now;
    there = events_there c.args.paths.now 0 c.in-Some.path.now (slice_get_read c.args.paths.now (length c.args.paths.now) 0 c.in-Some.path.now refl c.in-Some.ensures.lookup.3.0 c.in-Some.ensures.lookup.1) ∙ ap Some (sym c.as_slice.ensures.value);
    reports = c.in_ok-replay-2.ensures.reports;
    transitions = c.in_ok-replay-2.ensures.transitions;
  };
  lagging = subst (λ (x : MachineState). IsLagging x c.replay-2.new.self) c.in_ok-replay.ensures.transitions.0
      (lagging_more c.replay.new.self c.run_local.new.self c.replay-2.new.self c.in_ok-run_local.ensures (alike_lagging c.run_local.new.self c.replay-2.new.self (c.is_like-is_covered.ensures known)));
}
