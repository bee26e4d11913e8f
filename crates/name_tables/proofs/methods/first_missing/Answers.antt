use Rattle.std.proofs.Common.{ℕ, ◌==◌, Some, is_some, refl, sym, ap, ◌∙◌, arith}
use Rattle.std.specs.List.{list_all}
use Rattle.std.proofs.lemmas.List.{drop_all}
use Rattle.inheritance.specs.ScopedTables.{nearest_from}
use Rattle.name_tables.specs.KeyIds.{number_in}
use Rattle.name_tables.proofs.Lists.{all_fail, all_after}
use Rattle.name_tables.proofs.methods.first_missing.Goals as goal

pub loop-index-init : goal.loop-index-init
loop-index-init c = record { rest = refl; ended = λ below. absurd (omega (arith, below)) }

pub loop-index-preserved : goal.loop-index-preserved
loop-index-preserved c =
    let forest = c.args.overridable.now.inheritance.forest in
    let found = λ (n : ℕ). is_some (nearest_from forest (number_in (λ (a b : ℕ). a == b) c.args.overridable.now.keys n) forest.most (Some c.args.class)) in
    record {
      rest = all_after found c.args.numbers.now c.loop-index.index 0 c.loop-index-test.true (sym c.in_ok-finds.ensures.found ∙ c.if-not-branch.false) ∙ c.loop-index.invariant.rest;
      ended = λ begun. c.in_ok-finds.ensures.ended;
    }

pub returns-then-not-branch-clause-found : goal.returns-then-not-branch-clause-found
returns-then-not-branch-clause-found c =
    let forest = c.args.overridable.now.inheritance.forest in
    let found = λ (n : ℕ). is_some (nearest_from forest (number_in (λ (a b : ℕ). a == b) c.args.overridable.now.keys n) forest.most (Some c.args.class)) in
    sym (all_fail found c.args.numbers.now c.loop-index.index 0 c.loop-index-test.true (sym c.in_ok-finds.ensures.found ∙ c.if-not-branch.true)) ∙ c.loop-index.invariant.rest

pub returns-then-not-branch-clause-ended : goal.returns-then-not-branch-clause-ended
returns-then-not-branch-clause-ended c = λ some. c.in_ok-finds.ensures.ended

pub returns-clause-found : goal.returns-clause-found
returns-clause-found c =
    let forest = c.args.overridable.now.inheritance.forest in
    let found = λ (n : ℕ). is_some (nearest_from forest (number_in (λ (a b : ℕ). a == b) c.args.overridable.now.keys n) forest.most (Some c.args.class)) in
    ap (list_all found) (sym (drop_all c.loop-index.index c.args.numbers.now c.loop-index-test.false)) ∙ c.loop-index.invariant.rest

pub returns-clause-ended : goal.returns-clause-ended
returns-clause-ended c = λ some. c.loop-index.invariant.ended (omega (arith, some, c.loop-index-test.false))
