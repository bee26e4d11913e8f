use Rattle.std.proofs.Common.{◌∙◌}
use Rattle.cil_model.specs.Assignable.{is_assignable}
use Rattle.flow_rules.specs.StackTypes.{type_named}
use Rattle.flow_rules.proofs.KnownTypes.{type_refines, classes_tested, first_known, second_known}
use Rattle.flow_rules.proofs.type_tree.TypeTree.is_assignable.Goals as goal

pub is_class_assignable-requires : goal.is_class_assignable-requires
is_class_assignable-requires c =
    let tree = c.args.self.now in
    let one = type_named tree c.args.from in
    let other = type_named tree c.args.to in
    let tested = c.in-OfClasses.ensures tree one other (type_refines tree c.without_null-one.result c.args.from c.without_null-one.ensures.known c.without_null-one.ensures.same) (type_refines tree c.without_null-other.result c.args.to c.without_null-other.ensures.known c.without_null-other.ensures.same) in
    record {
      from = first_known tree c.in-OfClasses.from c.in-OfClasses.to (is_assignable tree one other) tested;
      to = second_known tree c.in-OfClasses.from c.in-OfClasses.to (is_assignable tree one other) tested;
    }

pub returns-in-Answered : goal.returns-in-Answered
returns-in-Answered c =
    let tree = c.args.self.now in
    c.in-Answered.ensures tree (type_named tree c.args.from) (type_named tree c.args.to) (type_refines tree c.without_null-one.result c.args.from c.without_null-one.ensures.known c.without_null-one.ensures.same) (type_refines tree c.without_null-other.result c.args.to c.without_null-other.ensures.known c.without_null-other.ensures.same)

pub returns-in-OfClasses : goal.returns-in-OfClasses
returns-in-OfClasses c =
    let tree = c.args.self.now in
    let one = type_named tree c.args.from in
    let other = type_named tree c.args.to in
    let tested = c.in-OfClasses.ensures tree one other (type_refines tree c.without_null-one.result c.args.from c.without_null-one.ensures.known c.without_null-one.ensures.same) (type_refines tree c.without_null-other.result c.args.to c.without_null-other.ensures.known c.without_null-other.ensures.same) in
    c.is_class_assignable.ensures ∙ classes_tested tree c.in-OfClasses.from c.in-OfClasses.to (is_assignable tree one other) tested
