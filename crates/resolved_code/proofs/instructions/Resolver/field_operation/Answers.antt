use Rattle.std.proofs.Common.{ℕ, Some, false, sym, ap, ◌∙◌, option_map}
use Rattle.name_tables.specs.Numbers.{class_number}
use Rattle.name_tables.specs.declared.ids.FieldId.{FieldId}
use Rattle.resolved_code.specs.declared.operations.Operation.TheVariants.{LoadField, StoreField, LoadStaticField, StoreStaticField}
use Rattle.resolved_code.specs.Rules.{field_id, field_rule, field_operand_rule}
use Rattle.resolved_code.proofs.Resolution.ClassesAndMethods.{made_of_both}
use Rattle.resolved_code.proofs.instructions.Resolver.field_operation.Goals.{in-LoadField+in_ok-owner-in-LoadField, in-StoreField+in_ok-owner-in-StoreField, in-LoadStaticField+in_ok-find_field-in-LoadStaticField, in-StoreStaticField+in_ok-find_field-in-StoreStaticField}
use Rattle.resolved_code.proofs.instructions.Resolver.field_operation.Goals as goal

pub returns : goal.returns
returns c =
    let t = c.args.self.now.names.now.classes.tree.now in
    elim c.match-instruction.branch [
      | in-LoadField+in_ok-owner-in-LoadField w ↦
          let r = w.in-LoadField.reference in
          ap Some w.operation-is ∙ ap (option_map (λ (p : ℕ × FieldId). LoadField p.0 p.1)) w.in_ok-owner-in-LoadField.ensures ∙ made_of_both LoadField (class_number t r.owner) (field_rule t false r) ∙ ap (field_operand_rule t) (sym w.in-LoadField.is)
      | in-StoreField+in_ok-owner-in-StoreField w ↦
          let r = w.in-StoreField.reference in
          ap Some w.operation-is ∙ ap (option_map (λ (p : ℕ × FieldId). StoreField p.0 p.1)) w.in_ok-owner-in-StoreField.ensures ∙ made_of_both StoreField (class_number t r.owner) (field_rule t false r) ∙ ap (field_operand_rule t) (sym w.in-StoreField.is)
      | in-LoadStaticField+in_ok-find_field-in-LoadStaticField w ↦ ap Some w.operation-is ∙ ap (λ n. option_map LoadStaticField (option_map field_id n)) w.in_ok-find_field-in-LoadStaticField.ensures.number ∙ ap (field_operand_rule t) (sym w.in-LoadStaticField.is)
      | in-StoreStaticField+in_ok-find_field-in-StoreStaticField w ↦ ap Some w.operation-is ∙ ap (λ n. option_map StoreStaticField (option_map field_id n)) w.in_ok-find_field-in-StoreStaticField.ensures.number ∙ ap (field_operand_rule t) (sym w.in-StoreStaticField.is)
    ]
