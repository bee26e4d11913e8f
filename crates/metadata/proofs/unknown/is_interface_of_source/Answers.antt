use Rattle.std.proofs.Common.{sym, ap, ◌∙◌, option_map}
use Rattle.cil_model.specs.declared.trees.Class.{Class}
use Rattle.cil_model.specs.Declarations.{Declaration, declaration_of, is_interface_kind}
use Rattle.name_tables.specs.Entries.{declaration_in}
use Rattle.metadata.proofs.UnknownLaws.{bracketed, kind_of_plain}
use Rattle.metadata.proofs.unknown.is_interface_of_source.Goals as goal

pub returns-then-is_some : goal.returns-then-is_some
returns-then-is_some c = let n = c.args.name.now in
    sym (ap (option_map (λ (k : Class). is_interface_kind k.kind)) (bracketed c.args.names.now.classes.tree.now n.assembly n.name (sym c.is_some.ensures ∙ c.if-is_some.true)))

pub returns-in-None : goal.returns-in-None
returns-in-None c =
    let t = c.args.names.now.classes.tree.now in
    let n = c.args.name.now in
    ap (λ o. option_map (λ (d : Declaration). d.is_interface) (option_map (λ d. declaration_in d.now) o)) (sym c.in-None.is) ∙
    ap (option_map (λ (d : Declaration). d.is_interface)) (c.declared_class.ensures ∙ ap (declaration_of t) c.of.ensures) ∙ kind_of_plain t n.assembly n.name (sym c.is_some.ensures ∙ c.if-is_some.false)

pub returns-in-Some : goal.returns-in-Some
returns-in-Some c =
    let t = c.args.names.now.classes.tree.now in
    let n = c.args.name.now in
    ap (λ o. option_map (λ (d : Declaration). d.is_interface) (option_map (λ d. declaration_in d.now) o)) (sym c.in-Some.is) ∙
    ap (option_map (λ (d : Declaration). d.is_interface)) (c.declared_class.ensures ∙ ap (declaration_of t) c.of.ensures) ∙ kind_of_plain t n.assembly n.name (sym c.is_some.ensures ∙ c.if-is_some.false)
