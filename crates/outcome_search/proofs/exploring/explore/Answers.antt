use Rattle.std.proofs.Common.{◌≡◌, sym, ◌∙◌, subst}
use Rattle.cil_model.specs.Legality.{IsLegal}
use Rattle.cil_model.specs.Sources.{HasTree}
use Rattle.cil_model.specs.declared.trees.Tree.{Tree}
use Rattle.acceptance.specs.Sources.{IsNotRun}
use Rattle.acceptance.proofs.SourceLemmas.{handed_on}
use Rattle.exploration.proofs.interleaving_core.Runs.LongerRuns.{has_done}
use Rattle.exploration.specs.TerminalOutcomes.{IsOver}
use Rattle.exploration.specs.simulation.Runs.{IsRunOf}
use Rattle.outcome_search.proofs.SearchLemmas.{initial_state_of, same_tree}
use Rattle.outcome_search.proofs.exploring.explore.Goals as goal

pub returns-in_err-machine-clause-refused : goal.returns-in_err-machine-clause-refused
returns-in_err-machine-clause-refused c =
    handed_on c.from_residual.result c.from_residual.ensures.1 (λ failure same. subst (IsNotRun c.args.source.now c.args.limits) (sym same) c.in_err-machine.ensures.refused)

pub returns-in_err-other-clause-refused : goal.returns-in_err-other-clause-refused
returns-in_err-other-clause-refused c =
    handed_on c.from_residual-in_err-other.result c.from_residual-in_err-other.ensures.1 (λ failure same. subst (IsNotRun c.args.source.now c.args.limits) (sym same) c.in_err-other.ensures.refused)

pub explore_machines-requires-clause-initial : goal.explore_machines-requires-clause-initial
explore_machines-requires-clause-initial c =
    let made = c.in_ok-machine.ensures.made in
    initial_state_of made.tree c.args.limits c.in_ok-machine.machine c.in_ok-machine.machine made.opened.same_program made.opened.same_limits made.opened.initial

pub explore_machines-requires-clause-other_initial : goal.explore_machines-requires-clause-other_initial
explore_machines-requires-clause-other_initial c =
    let made = c.in_ok-machine.ensures.made in
    let again = c.in_ok-other.ensures.made in
    let same : again.tree ≡ made.tree = same_tree again.tree made.tree (c.answers_are_unique.ensures c.args.source.now (HasTree again.tree) (HasTree made.tree) again.is_accepted.read made.is_accepted.read) in
    initial_state_of made.tree c.args.limits c.in_ok-other.other c.in_ok-machine.machine (again.opened.same_program ∙ same) again.opened.same_limits made.opened.initial

pub explore_machines-requires-clause-legal : goal.explore_machines-requires-clause-legal
explore_machines-requires-clause-legal c =
    let made = c.in_ok-machine.ensures.made in
    subst IsLegal (sym made.opened.same_program) made.done.accepted.legal

pub returns-clause-accepted : goal.returns-clause-accepted
returns-clause-accepted c = let made = c.in_ok-machine.ensures.made in (made.tree, made.is_accepted)

pub returns-clause-complete : goal.returns-clause-complete
returns-clause-complete c = λ known tree accepted events reports s run keep over.
    let made = c.in_ok-machine.ensures.made in
    let same : tree ≡ made.tree = same_tree tree made.tree (c.answers_are_unique.ensures c.args.source.now (HasTree tree) (HasTree made.tree) accepted.read made.is_accepted.read) in
    let all = c.in_ok-explore_machines.ensures.complete known in
    let represents = made.opened.represents in
    c.no_outcome_is_missing.ensures made.tree c.args.limits c.in_ok-machine.machine all.0 all.1.closed represents.0 made.opened.initial represents.1 represents.2 all.1.initial
    _ all.1.only events reports s (subst (λ (t : Tree). IsRunOf t c.args.limits events reports s) same run) keep (subst (λ (t : Tree). IsOver t c.args.limits s) same over)

pub returns-clause-real : goal.returns-clause-real
returns-clause-real c = λ n f at.
    let made = c.in_ok-machine.ensures.made in
    let real = c.in_ok-explore_machines.ensures.real n f at in (
      real.leads.reports,
      real.machine_state,
      (made.tree, made.is_accepted, has_done made.tree c.args.limits c.in_ok-machine.machine real.machine_state f.events.items real.leads.reports made.done.accepted made.done.in_range made.opened.initial real.leads.transitions),
      record { terminal = real.terminal; outcome = real.outcome },
    )
