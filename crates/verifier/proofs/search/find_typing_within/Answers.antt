use Rattle.std.proofs.Common.{List, ap, refl, subst, sym, ◌∙◌}
use Rattle.cil_model.specs.declared.trees.Line.{Line}
use Rattle.flow_rules.specs.StackTypes.{types_named}
use Rattle.flow_rules.proofs.MemberLaws.{types_are_named}
use Rattle.resolved_code.specs.ResolvedPrograms.{AllAlike, IsOperation}
use Rattle.resolved_code.specs.declared.operations.Operation.{Operation}
use Rattle.verifier.specs.Answers.{with_max_stack}
use Rattle.verifier.proofs.search.find_typing_within.Goals as goal

pub returns : goal.returns
returns c = λ code is. c.least_typing-typing.ensures (with_max_stack c.args.most code) (record {
  same_max = refl;
  locals = ap (types_named c.args.types.now) c.as_slice-locals.ensures ∙ types_are_named c.args.types.now c.args.body.now.locals code.locals is.locals;
  resolved = subst (λ (ops : List Operation). AllAlike (λ (line : Line) operation. IsOperation c.args.types.now code.lines line.instruction operation) code.lines ops) (sym c.as_slice-operations.ensures) is.operations;
})
