use Rattle.std.proofs.Common.{◌≡◌, Bool, List, Option, Some, None, sym, ap, ◌∙◌}
use Rattle.std.specs.List.{list_any, list_all}
use Rattle.cil_model.specs.declared.trees.Method.{Method}
use Rattle.cil_model.specs.Declarations.{Declaration}
use Rattle.cil_model.specs.Chains.{listed_by}
use Rattle.name_tables.specs.Methods.{line_of}
use Rattle.name_tables.specs.Numbers.{class_number}
use Rattle.name_tables.specs.Sameness.{identity_of}
use Rattle.resolved_code.proofs.Numbers.Classes.{not_declared}
use Rattle.resolved_code.specs.VirtualSlots.{is_virtual_found}
use Rattle.metadata.proofs.MethodLaws.{methods_of_number}
use Rattle.metadata.proofs.implemented.absent_in.Goals as goal

pub returns-in-None : goal.returns-in-None
returns-in-None c =
    let t = c.args.methods.now.names.now.classes.tree.now in
    let all : List Method → Bool = list_all (λ (m : Method). list_any (is_virtual_found t (identity_of m)) (line_of t c.args.class.now)) in
    let none : class_number t c.args.interface.now ≡ None = sym (c.id.ensures ∙ ap (class_number t) c.of.ensures) ∙ c.in-None.is in
    sym (ap (λ (o : Option Declaration). all (listed_by (λ d. d.methods) o)) (not_declared t c.args.interface.now none))

pub returns-in-Some : goal.returns-in-Some
returns-in-Some c =
    let t = c.args.methods.now.names.now.classes.tree.now in
    let all : List Method → Bool = list_all (λ (m : Method). list_any (is_virtual_found t (identity_of m)) (line_of t c.args.class.now)) in
    let known : class_number t c.args.interface.now ≡ Some c.in-Some.interface = sym (c.id.ensures ∙ ap (class_number t) c.of.ensures) ∙ c.in-Some.is in
    c.absent_from.ensures ∙ sym (ap all (methods_of_number t c.args.interface.now c.in-Some.interface known))
