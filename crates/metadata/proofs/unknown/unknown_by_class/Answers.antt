use Rattle.std.proofs.Common.{◌&&◌, ◌++◌, sym, ap, ◌∙◌}
use Rattle.std.specs.List.{list_all}
use Rattle.cil_model.specs.declared.trees.ClassKind.{ClassKind}
use Rattle.cil_model.specs.Declarations.{interfaces_named}
use Rattle.cil_model.specs.Mentions.{bases_named}
use Rattle.cil_model.specs.Legality.{is_resolved, is_possible_base, is_source_interface}
use Rattle.metadata.proofs.UnknownLaws.{is_heading, heading}
use Rattle.metadata.proofs.unknown.unknown_by_class.Goals as goal

pub returns-in-Class : goal.returns-in-Class
returns-in-Class c =
    let t = c.args.names.now.classes.tree.now in
    c.unknown_in_heading.ensures ∙ ap (is_heading t c.in-Class.base) c.as_slice.ensures ∙ sym (heading t c.in-Class.base c.in-Class.interfaces) ∙
    sym (ap (λ (k : ClassKind). list_all (is_resolved t) (bases_named k ++ interfaces_named k) && (list_all (is_possible_base t) (bases_named k) && list_all (is_source_interface t) (interfaces_named k))) c.in-Class.is)
