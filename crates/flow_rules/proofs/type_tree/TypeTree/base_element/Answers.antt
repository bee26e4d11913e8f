use Rattle.std.proofs.Common.{◌≡◌, Option, Some, option_map, ◌∙◌}
use Rattle.cil_model.specs.declared.trees.Tree.{Tree}
use Rattle.cil_model.specs.declared.types.ClassName.{ClassName}
use Rattle.cil_model.specs.Chains.{base_of}
use Rattle.resolved_code.specs.ById.{class_name}
use Rattle.flow_rules.specs.StackTypes.{class_named}
use Rattle.flow_rules.proofs.Classes.{base_at, base_missing, base_known, base_named}
use Rattle.flow_rules.proofs.type_tree.TypeTree.base_element.Goals as goal

pub returns-in-None-base-clause-named : goal.returns-in-None-base-clause-named
returns-in-None-base-clause-named c =
    let tree : Tree = c.args.self.now in
    let base : option_map (class_name tree) c.in-Some.class.now.base ≡ option_map Some (base_of tree (class_named tree c.args.number)) = base_at tree c.class.ensures.legal c.args.number c.in-Some.class.now c.in-Some.ensures.found in
    base_missing tree c.in-Some.class.now.base (base_of tree (class_named tree c.args.number)) base c.in-None-base.is

pub returns-in-Some-base-clause-named : goal.returns-in-Some-base-clause-named
returns-in-Some-base-clause-named c =
    let tree : Tree = c.args.self.now in
    let o : Option ClassName = base_of tree (class_named tree c.args.number) in
    let base : option_map (class_name tree) c.in-Some.class.now.base ≡ option_map Some o = base_at tree c.class.ensures.legal c.args.number c.in-Some.class.now c.in-Some.ensures.found in
    c.element_of_class.ensures.named tree (base_known tree c.in-Some.class.now.base c.in-Some-base.base o base c.in-Some-base.is) ∙ base_named tree c.in-Some.class.now.base c.in-Some-base.base o base c.in-Some-base.is
