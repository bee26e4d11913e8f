use Rattle.std.proofs.Common.{sym, ap, ◌∙◌, map, refl}
use Rattle.cil_model.specs.declared.types.ClassName.{ClassName}
use Rattle.cil_model.specs.Declarations.{Declaration}
use Rattle.name_tables.specs.declared.class_tables.ClassTable.{ClassTable}
use Rattle.name_tables.specs.Entries.{entry_of}
use Rattle.name_tables.specs.Keys.{class_of_key}
use Rattle.name_tables.proofs.Lists.{map_of_map, at_end, one_more_row}
use Rattle.name_tables.proofs.tables.class_keys.Goals as goal

pub returns : goal.returns
returns c =
    at_end (map (λ (t : ClassTable). class_of_key t.class.name)) c.args.classes.now c.loop-class.class-index c.loop-class-test.false c.loop-class.invariant ∙
    sym (map_of_map (λ (t : ClassTable). entry_of t.class) (λ (e : ClassName × Declaration). e.0) c.args.classes.now)

pub loop-class-init : goal.loop-class-init
loop-class-init c = ap (map class_of_key) c.new-keys.ensures.items

pub loop-class-preserved : goal.loop-class-preserved
loop-class-preserved c =
    one_more_row class_of_key (λ (t : ClassTable). class_of_key t.class.name) c.loop-class.keys.items c.push.new.self.items c.args.classes.now c.loop-class.class-index c.class-item.result.class.name c.class-item.result c.loop-class-test.true c.class-item.is
    c.loop-class.invariant c.in_ok-push.ensures.items refl
