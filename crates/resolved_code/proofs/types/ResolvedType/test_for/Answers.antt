use Rattle.std.proofs.Common.{sym, subst}
use Rattle.cil_model.specs.Assignable.{is_assignable}
use Rattle.resolved_code.specs.declared.type_tests.TypeTest.{TypeTest}
use Rattle.resolved_code.specs.TypeTests.{IsResultOf}
use Rattle.resolved_code.proofs.InstructionOperations.TypeTests.{type_results_in}
use Rattle.resolved_code.proofs.types.ResolvedType.test_for.Goals as goal

pub returns : goal.returns
returns c = λ tree a b h k.
    let P : TypeTest → Type 0 = λ t. IsResultOf tree t (is_assignable tree a b) in
    subst P (sym c.type_test.ensures) (type_results_in tree c.args.self c.args.required a b h k)
