use Rattle.std.proofs.Common.{◌≡◌, ◌++◌, List, [], map, take, length, ap, ◌∙◌, arith}
use Rattle.std.specs.Prelude.{flat_map}
use Rattle.std.proofs.Math.Seq.{take-length}
use Rattle.cil_model.specs.declared.trees.Class.{Class}
use Rattle.cil_model.specs.declared.trees.Field.{Field}
use Rattle.cil_model.specs.declared.types.DeclaredType.{DeclaredType}
use Rattle.cil_model.specs.Declarations.{field_members, method_members}
use Rattle.cil_model.specs.Mentions.{types_of_method}
use Rattle.metadata.proofs.MentionLaws.{more_named, types_by_class}
use Rattle.metadata.proofs.mentions.types_of_tree.Goals as goal

pub loop-class-preserved : goal.loop-class-preserved
loop-class-preserved c =
    more_named (λ (k : Class). map (λ (f : Field). f.field_type) (field_members k)) c.as_slice-declared-items.result.now c.loop-class.class c.declared-item.result [] _ _ (omega arith) c.declared-item.is
    c.loop-class.invariant c.in_ok-add_types_of_fields.ensures

pub loop-class-2-preserved : goal.loop-class-2-preserved
loop-class-2-preserved c =
    more_named (λ (k : Class). flat_map types_of_method (method_members k)) c.as_slice-declared-items-2.result.now c.loop-class-2.class c.declared-item-in-loop-class-2.result _ _ _ (omega arith) c.declared-item-in-loop-class-2.is
    c.loop-class-2.invariant c.in_ok-add_types_of_methods.ensures

pub returns : goal.returns
returns c =
    let t = c.args.tree.now in
    let of_fields : List Class → List DeclaredType = λ cs. flat_map (λ (k : Class). map (λ (f : Field). f.field_type) (field_members k)) cs in
    let of_methods : List Class → List DeclaredType = λ cs. flat_map (λ (k : Class). flat_map types_of_method (method_members k)) cs in
    let first = c.as_slice-declared-items.result.now in
    let second = c.as_slice-declared-items-2.result.now in
    let y : c.loop-class.class ≡ length first = omega arith in
    let z : c.loop-class-2.class ≡ length second = omega arith in
    let whole : take c.loop-class.class first ≡ t.classes = ap (λ n. take n first) y ∙ take-length first ∙ c.as_slice-declared-items.ensures in
    let again : take c.loop-class-2.class second ≡ t.classes = ap (λ n. take n second) z ∙ take-length second ∙ c.as_slice-declared-items-2.ensures in
    c.loop-class-2.invariant ∙ ap (λ (ts : List DeclaredType). ts ++ of_methods (take c.loop-class-2.class second)) (c.loop-class.invariant ∙ ap of_fields whole) ∙
    ap (λ (cs : List Class). of_fields t.classes ++ of_methods cs) again ∙ ap (λ (ts : List DeclaredType). of_fields t.classes ++ ts) (types_by_class t.classes)
