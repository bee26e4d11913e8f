use Rattle.std.proofs.Common.{◌≡◌, ◌&&◌, nat_le, length, map, sym, ap, ◌∙◌}
use Rattle.std.specs.List.{list_all, sum_by}
use Rattle.cil_model.specs.declared.limits.TheConstants.{MOST_INSTANCE_FIELDS}
use Rattle.cil_model.specs.Declarations.{source_name, method_members}
use Rattle.cil_model.specs.Fields.{instance_fields}
use Rattle.cil_model.specs.Legality.{is_small_method}
use Rattle.name_tables.specs.Numbers.{chain_numbers}
use Rattle.metadata.specs.Counts.{instance_count}
use Rattle.metadata.proofs.CountLaws.{instance_total}
use Rattle.metadata.proofs.limits.exceeded_by_class.Goals as goal

pub returns-then-not-has_few_instance_fields : goal.returns-then-not-has_few_instance_fields
returns-then-not-has_few_instance_fields c =
    let t = c.args.names.now.classes.tree.now in
    let o = source_name c.args.class.now in
    let few : c.has_few_instance_fields.result ≡ nat_le (length (instance_fields t o)) MOST_INSTANCE_FIELDS =
    c.has_few_instance_fields.ensures ∙ ap (λ ns. nat_le (sum_by (instance_count t) ns) MOST_INSTANCE_FIELDS) (c.as_slice.ensures.value ∙ c.in_ok-chain.ensures ∙ ap (chain_numbers t) c.of_source.ensures) ∙ ap (λ n. nat_le n MOST_INSTANCE_FIELDS) (sym (instance_total t o)) in
    sym (ap (λ b. b && list_all (is_small_method o) (method_members c.args.class.now)) (sym few ∙ c.if-not-has_few_instance_fields.true))

pub returns : goal.returns
returns c =
    let t = c.args.names.now.classes.tree.now in
    let o = source_name c.args.class.now in
    let few : c.has_few_instance_fields.result ≡ nat_le (length (instance_fields t o)) MOST_INSTANCE_FIELDS =
    c.has_few_instance_fields.ensures ∙ ap (λ ns. nat_le (sum_by (instance_count t) ns) MOST_INSTANCE_FIELDS) (c.as_slice.ensures.value ∙ c.in_ok-chain.ensures ∙ ap (chain_numbers t) c.of_source.ensures) ∙ ap (λ n. nat_le n MOST_INSTANCE_FIELDS) (sym (instance_total t o)) in
    c.exceeded_by_methods.ensures o ∙ ap (list_all (is_small_method o)) (ap (map (λ m. m.now)) c.as_slice-2.ensures.value ∙ c.in_ok-methods.ensures) ∙
    sym (ap (λ b. b && list_all (is_small_method o) (method_members c.args.class.now)) (sym few ∙ c.if-not-has_few_instance_fields.false))
