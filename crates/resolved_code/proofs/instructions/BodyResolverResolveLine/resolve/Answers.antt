use Rattle.std.proofs.Common.{◌≡◌, Some, map, option_map, rules, sym, ap, subst, ◌∙◌}
use Rattle.cil_model.specs.Bodies.{pc_of}
use Rattle.cil_model.specs.declared.instructions.Instruction.{Instruction}
use Rattle.resolved_code.specs.declared.operations.Operation.TheVariants.{Switch}
use Rattle.resolved_code.specs.Outcomes.{Fails}
use Rattle.resolved_code.specs.Rules.{all_some, operation_rule}
use Rattle.resolved_code.proofs.Resolution.Outcomes.{passed_on, fails_last, found}
use Rattle.resolved_code.proofs.InstructionOperations.InstructionsWithoutNames.{named_nothing}
use Rattle.resolved_code.proofs.instructions.BodyResolverResolveLine.resolve.Goals.{in-LoadString, in-Switch+in_ok-indices-in-Switch, in_default, in-Call, in-LoadField, in-NewArray, in-Branch}
use Rattle.resolved_code.proofs.instructions.BodyResolverResolveLine.resolve.Goals as goal

pub returns-in_err-indices-in-Switch : goal.returns-in_err-indices-in-Switch
returns-in_err-indices-in-Switch c =
    let t = c.args.self.now.resolver.now.names.now.classes.tree.now in
    let lines = c.args.self.now.labels.now.lines.now in
    let e = c.in_err-indices-in-Switch.field-0.0 in
    let P : Instruction → Type 0 = λ i. Fails e (operation_rule t lines i) in
    let indices : Fails e (all_some (map (λ label. pc_of label lines) c.in-Switch.targets)) = subst (λ ls. Fails e (all_some (map (λ label. pc_of label lines) ls))) c.as_slice.ensures c.in_err-indices-in-Switch.ensures in
    passed_on c.from_residual.result e _ c.from_residual.ensures.1 (subst P (sym c.in-Switch.is) (fails_last Switch _ e indices))

pub returns : goal.returns
returns c =
    let t = c.args.self.now.resolver.now.names.now.classes.tree.now in
    let lines = c.args.self.now.labels.now.lines.now in
    let i = c.args.line.now.instruction in
    let same : c.match-instruction.operation ≡ operation_rule t lines i =
    elim c.match-instruction.branch [
      | in-LoadString w ↦ w.operation-is ∙ w.load_string-operation.ensures ∙ ap (operation_rule t lines) (sym w.in-LoadString.is)
      | in-Switch+in_ok-indices-in-Switch w ↦
          let indices : all_some (map (λ label. pc_of label lines) w.in-Switch.targets) ≡ Some w.in_ok-indices-in-Switch.indices = sym (ap (λ ls. all_some (map (λ label. pc_of label lines) ls)) w.as_slice.ensures) ∙ w.in_ok-indices-in-Switch.ensures in
          w.operation-is ∙ sym (ap (option_map Switch) indices) ∙ ap (operation_rule t lines) (sym w.in-Switch.is)
      | in_default w ↦
          let none = w.in_default in
          w.operation-is ∙ w.plain_operation-operation.ensures ∙
          named_nothing t lines i none.not-LoadString none.not-Branch none.not-Switch none.not-LoadField none.not-StoreField none.not-LoadStaticField none.not-StoreStaticField none.not-NewArray none.not-CastClass none.not-IsInstance none.not-Call none.not-CallVirtual none.not-NewObject
      | in-Call w ↦ w.operation-is ∙ w.call_operation-operation.ensures ∙ search (rules, w.in-Call.is)
      | in-LoadField w ↦ w.operation-is ∙ w.field_operation-operation.ensures ∙ search (rules, w.in-LoadField.is)
      | in-NewArray w ↦ w.operation-is ∙ w.type_operation-operation.ensures ∙ search (rules, w.in-NewArray.is)
      | in-Branch w ↦ w.operation-is ∙ w.branch-operation.ensures ∙ ap (operation_rule t lines) (sym w.in-Branch.is)
    ] in
    found c.ok_or.result c.match-instruction.operation _ c.ok_or.ensures.value same
