use Rattle.std.proofs.Common.{◌≡◌, Bool, List, ℕ, length, map, take, sym, ap, ◌∙◌, arith}
use Rattle.std.proofs.Math.Seq.{take-length}
use Rattle.cil_model.specs.declared.types.ClassName.{ClassName}
use Rattle.cil_model.specs.declared.trees.Method.{Method}
use Rattle.cil_model.specs.Chains.{is_abstract_method}
use Rattle.cil_model.specs.Declarations.{Declaration}
use Rattle.name_tables.specs.declared.class_tables.ClassTable.{ClassTable}
use Rattle.name_tables.specs.Entries.{declaration_in, entry_of}
use Rattle.name_tables.proofs.Lists.{map_of_map}
use Rattle.metadata.proofs.open_slots.abstract_marks.Goals as goal

pub returns : goal.returns
returns c =
    let tables = c.all-table-items.result.now in
    let marks : ClassTable → List Bool = λ t. map (λ (m : Method). is_abstract_method m.kind) (declaration_in t.class).methods in
    let z : c.loop-table.table-index ≡ length tables = omega arith in
    c.loop-table.invariant ∙ ap (λ (n : ℕ). map marks (take n tables)) z ∙ ap (map marks) (take-length tables) ∙
    sym (map_of_map (λ (t : ClassTable). entry_of t.class) (λ (e : ClassName × Declaration). map (λ (m : Method). is_abstract_method m.kind) e.1.methods) tables) ∙
    ap (map (λ (e : ClassName × Declaration). map (λ (m : Method). is_abstract_method m.kind) e.1.methods)) c.all-table-items.ensures
