use Rattle.std.proofs.Common.{◌≡◌, ◌∷◌, [], List, Some, map, slice_get, ap, ◌∙◌, arith}
use Rattle.std.specs.Option.{option_map_or}
use Rattle.std.proofs.lemmas.List.{map-append}
use Rattle.cil_model.specs.declared.types.ClassName.{ClassName}
use Rattle.cil_model.specs.Declarations.{Declaration}
use Rattle.name_tables.specs.Numbers.{chain_numbers, declarations}
use Rattle.class_layout.specs.declared.kinds.SlotKind.{SlotKind}
use Rattle.class_layout.specs.ByClass.{by_class}
use Rattle.class_layout.specs.Kinds.{own_kinds, slot_kinds, chain_kinds}
use Rattle.class_layout.proofs.KindLaws.{kinds_along}
use Rattle.class_layout.proofs.ResolvedLaws.{class_pushed, classes_pushed}
use Rattle.class_layout.proofs.fields.all_kinds.Goals as goal

pub loop-class-preserved : goal.loop-class-preserved
loop-class-preserved c =
    let t = c.args.classes.now.program.now in
    let each : (e : ClassName × Declaration) → slice_get (declarations t) c.loop-class.class ≡ Some e → c.in_ok-chain_kinds.field-0.items ≡ slot_kinds t e.0 =
    λ e there. c.in_ok-chain_kinds.ensures ∙ ap (λ (table : List (List SlotKind)). chain_kinds table c.chain.result.now) c.requires ∙
    ap (chain_kinds (by_class t (own_kinds t))) (c.chain.ensures ∙ ap (λ o. option_map_or (λ (x : ClassName × Declaration). chain_numbers t x.0) o []) (ap (slice_get (declarations t)) c.new.ensures ∙ there)) ∙ kinds_along t e.0 in
    class_pushed t (slot_kinds t) c.loop-class.class (map (λ row. row.items) c.loop-class.rows.items) (map (λ row. row.items) c.push.new.self.items) c.in_ok-chain_kinds.field-0.items (omega arith) c.loop-class.invariant each
    (ap (map (λ row. row.items)) c.in_ok-push.ensures.items ∙ map-append (λ row. row.items) c.loop-class.rows.items (c.in_ok-chain_kinds.field-0 ∷ []))

pub returns : goal.returns
returns c =
    let t = c.args.classes.now.program.now in
    classes_pushed t (slot_kinds t) c.loop-class.class (map (λ row. row.items) c.loop-class.rows.items) (omega arith) c.loop-class.invariant
