use Rattle.std.proofs.Common.{Bool, refl, sym, ◌∙◌, arith}
use Rattle.std.specs.List.{list_any}
use Rattle.std.proofs.lemmas.List.{at_drop_all}
use Rattle.cil_model.specs.declared.trees.Class.{Class}
use Rattle.cil_model.specs.Declarations.{source_name}
use Rattle.cil_model.specs.Legality.{is_own_base}
use Rattle.metadata.proofs.WalkLaws.{any_found, any_after}
use Rattle.metadata.proofs.cycles.first_cyclic_base.Goals as goal

pub loop-class-init : goal.loop-class-init
loop-class-init c = refl

pub loop-class-preserved : goal.loop-class-preserved
loop-class-preserved c =
    let p : Class → Bool = λ k. is_own_base c.args.names.now.classes.tree.now (source_name k) in
    any_after p c.args.classes.now c.loop-class.class c.index-classes-class.result (omega arith) c.index-classes-class.is (sym c.is_own_base.ensures ∙ c.if-is_own_base.false) ∙ c.loop-class.invariant

pub returns-then-is_own_base : goal.returns-then-is_own_base
returns-then-is_own_base c =
    let p : Class → Bool = λ k. is_own_base c.args.names.now.classes.tree.now (source_name k) in
    sym (any_found p c.args.classes.now c.loop-class.class c.index-classes-class.result (omega arith) c.index-classes-class.is (sym c.is_own_base.ensures ∙ c.if-is_own_base.true)) ∙ c.loop-class.invariant

pub returns : goal.returns
returns c =
    let p : Class → Bool = λ k. is_own_base c.args.names.now.classes.tree.now (source_name k) in
    sym (at_drop_all (list_any p) c.args.classes.now c.loop-class.class (omega arith)) ∙ c.loop-class.invariant
