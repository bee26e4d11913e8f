use Rattle.std.proofs.Common.{rules, ◌≡◌, Some, None, List, sym, ap, subst, ◌∙◌}
use Rattle.cil_model.specs.declared.trees.Line.{Line}
use Rattle.resolved_code.specs.ResolvedPrograms.{AllAlike, IsOperation}
use Rattle.resolved_code.specs.declared.operations.Operation.{Operation}
use Rattle.verifier.specs.Rises.{as_natural}
use Rattle.verifier.proofs.VisitLaws.{natural_is, none_is_low, has_no_typing}
use Rattle.verifier.proofs.search.typing_of_body.Goals as goal

pub returns-in_default : goal.returns-in_default
returns-in_default c =
    let negative : as_natural c.args.body.now.max_stack ≡ None = sym (ap as_natural (search rules)) ∙ (sym c.most_values.ensures ∙ c.in_default.is) in
    λ code is locals. has_no_typing c.args.method.now.types.now _ _ code c.without_stacks.result (none_is_low c.args.method.now.types.now _ _ code c.args.body.now.max_stack is.max_stack negative)

pub returns : goal.returns
returns c =
    let most : as_natural c.args.body.now.max_stack ≡ Some c.in-Some.most = sym (ap as_natural (search rules)) ∙ (sym c.most_values.ensures ∙ c.in-Some.is) in
    λ code is locals. c.least_typing.ensures code (record {
      same_max = natural_is c.args.body.now.max_stack c.in-Some.most most ∙ is.max_stack;
      locals = locals;
      resolved = subst (λ (ops : List Operation). AllAlike (λ (line : Line) operation. IsOperation c.args.method.now.types.now code.lines line.instruction operation) code.lines ops) (sym c.as_slice.ensures) is.operations;
    })
