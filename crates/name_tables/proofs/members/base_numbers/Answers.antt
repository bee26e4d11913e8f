use Rattle.std.proofs.Common.{◌++◌, ◌∷◌, [], length, map, option_and_then, sym, ap, ◌∙◌, arith}
use Rattle.std.proofs.lemmas.List.{length-map}
use Rattle.cil_model.specs.declared.types.ClassName.{ClassName}
use Rattle.cil_model.specs.Declarations.{Declaration}
use Rattle.name_tables.specs.Entries.{entry_of}
use Rattle.name_tables.specs.Numbers.{declarations, class_number}
use Rattle.name_tables.proofs.Lists.{at_end}
use Rattle.name_tables.proofs.MemberLaws.{more_bases}
use Rattle.name_tables.specs.declared.class_tables.ClassTable.{ClassTable}
use Rattle.name_tables.proofs.members.base_numbers.Goals as goal

pub loop-class-preserved : goal.loop-class-preserved
loop-class-preserved c =
    c.in_ok-push.ensures.items ∙ ap (λ xs. xs ++ c.base_number.result ∷ []) c.loop-class.invariant ∙
    sym (more_bases c.args.classes.now.tree.now c.loop-class.class c.base_number.result (omega (arith, c.loop-class-test.true, length-map c.all-class-end.result.now (λ (t : ClassTable). entry_of t.class), ap length c.all-class-end.ensures)) c.base_number.ensures)

pub loop-class-init : goal.loop-class-init
loop-class-init c = c.new-bases.ensures.items

pub returns : goal.returns
returns c =
    let t = c.args.classes.now.tree.now in
    at_end (map (λ (e : ClassName × Declaration). option_and_then (class_number t) e.1.base)) (declarations t) c.loop-class.class (omega (arith, c.loop-class-test.false, length-map c.all-class-end.result.now (λ (t : ClassTable). entry_of t.class), ap length c.all-class-end.ensures)) c.loop-class.invariant
