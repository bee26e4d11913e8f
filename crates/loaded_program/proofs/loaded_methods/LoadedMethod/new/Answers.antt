use Rattle.std.proofs.Common.{◌≡◌, List, subst, ◌∙◌}
use Rattle.resolved_code.specs.ResolvedPrograms.{AllAlike}
use Rattle.resolved_code.specs.declared.operations.Operation.{Operation}
use Rattle.loaded_program.specs.LoadedPrograms.{IsLinkedOperation, has_value}
use Rattle.loaded_program.proofs.MethodLaws.{linked_lines}
use Rattle.loaded_program.proofs.ResolvedLaws.{arguments_alike, locals_alike, value_alike}
use Rattle.loaded_program.proofs.loaded_methods.LoadedMethod.new.Goals as goal

pub returns : goal.returns
returns c found at is =
    let tree = c.args.linker.now.program.now in
    let value : c.is_some-has_value.result ≡ has_value found = c.is_some-has_value.ensures ∙ value_alike tree found.1 c.args.method.now is in
    let code = subst (λ value. AllAlike (IsLinkedOperation tree value) c.operations_of-operations.result.now c.in_ok-linked_code.field-0.items) value c.in_ok-linked_code.ensures in
    let lines = subst (λ (ops : List Operation). AllAlike (IsLinkedOperation tree (has_value found)) ops c.in_ok-linked_code.field-0.items) c.operations_of-operations.ensures code in
    record {
      member = at;
      arguments = c.argument_count.ensures ∙ arguments_alike tree found.1 c.args.method.now is found.0;
      locals = c.in_ok-local_kinds.ensures tree ∙ locals_alike tree found.1 c.args.method.now is;
      has_value = value;
      action = c.action_at.ensures tree found.0 found.1 at;
      code = linked_lines tree found c.args.method.now.kind c.in_ok-linked_code.field-0.items is.kind lines;
    }
