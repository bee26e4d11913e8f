use Rattle.std.proofs.Common.{◌≡◌, ap, ◌∙◌, option_map, Some, true}
use Rattle.cil_model.specs.declared.types.ClassName.{ClassName}
use Rattle.cil_model.specs.declared.instructions.MethodReference.{MethodReference}
use Rattle.cil_model.specs.Chains.{find_method}
use Rattle.name_tables.specs.Sameness.{MethodIdentity}
use Rattle.name_tables.specs.Keys.{method_of_key, reference_of_keys}
use Rattle.name_tables.specs.Numbers.{method_number}
use Rattle.name_tables.proofs.lookups.NameTables.find_virtual.Goals as goal

pub returns : goal.returns
returns c =
    let t = c.args.self.now.classes.tree.now in
    let with_owner : ClassName → MethodReference = λ o. record { owner = o; name = (method_of_key c.by_name.result).name; signature = (method_of_key c.by_name.result).signature } in
    let with_key : MethodIdentity → MethodReference = λ k. record { owner = c.args.owner.now; name = k.name; signature = k.signature } in
    let same : reference_of_keys c.of.result c.by_name.result ≡ with_key (method_of_key c.by_name.result) = ap with_owner c.of.ensures in
    let whole = same ∙ ap with_key c.by_name.ensures in
    record {
      number = c.find_call.ensures.number ∙ ap (method_number t true) whole;
      member = c.find_call.ensures.member ∙ ap (λ r. option_map Some (find_method t true r)) whole;
    }
