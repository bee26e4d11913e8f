use Rattle.std.proofs.Common.{Global, Vec, ◌≡◌, ℕ, map, sym, ap, ◌∙◌}
use Rattle.cil_model.specs.declared.types.ClassName.{ClassName}
use Rattle.cil_model.specs.declared.trees.Method.{Method}
use Rattle.cil_model.specs.Declarations.{Declaration}
use Rattle.name_tables.specs.declared.class_tables.ClassTable.{ClassTable}
use Rattle.name_tables.specs.declared.keys.CallNumber.{CallNumber}
use Rattle.name_tables.specs.Entries.{declaration_in}
use Rattle.name_tables.specs.Methods.{identity_number, call_of}
use Rattle.name_tables.specs.Numbers.{declarations}
use Rattle.name_tables.specs.Sameness.{identity_of, call_identity_of}
use Rattle.name_tables.proofs.MethodNumbers.{of_tables, same_count, calls_by_numbers}
use Rattle.inheritance.proofs.Results.{if_three}
use Rattle.name_tables.proofs.members.all_calls.Goals as goal

pub call_rows-requires : goal.call_rows-requires
call_rows-requires c =
    let number = identity_number c.args.methods.now.keys in
    same_count c.all.result.now c.as_slice-numbers.result.now number
    (ap (map (λ (r : Vec ℕ Global). r.items)) c.as_slice-numbers.ensures.value ∙ c.requires.methods.numbers ∙ of_tables c.all.result.now c.args.classes.now.tree.now (λ (e : ClassName × Declaration). map (λ (m : Method). number (identity_of m)) e.1.methods) c.all.ensures)

pub returns : goal.returns
returns c =
    let tree = c.args.classes.now.tree.now in
    let methods = c.args.methods.now in
    let number = identity_number methods.keys in
    let tables = c.all.result.now in
    let numbers : map (λ (r : Vec ℕ Global). r.items) c.as_slice-numbers.result.now ≡ map (λ (t : ClassTable). map (λ (m : Method). number (identity_of m)) (declaration_in t.class).methods) tables =
    ap (map (λ (r : Vec ℕ Global). r.items)) c.as_slice-numbers.ensures.value ∙ c.requires.methods.numbers ∙ of_tables tables tree (λ (e : ClassName × Declaration). map (λ (m : Method). number (identity_of m)) e.1.methods) c.all.ensures in
    let rows = map (λ (r : Vec CallNumber Global). r.items) c.as_slice.result.now in
    let are : rows ≡ map (λ (e : ClassName × Declaration). map (λ (m : Method). call_of number (call_identity_of m)) e.1.methods) (declarations tree) =
    ap (map (λ (r : Vec CallNumber Global). r.items)) c.as_slice.ensures.value ∙ c.in_ok-rows.ensures number numbers ∙
    sym (of_tables tables tree (λ (e : ClassName × Declaration). map (λ (m : Method). call_of number (call_identity_of m)) e.1.methods) c.all.ensures) in
    let made = c.new.ensures in
    if_three c.new.result made.bases made.most made.indices (λ t bases most indices. record {
      bases = bases ∙ c.requires.bases;
      most = most ∙ c.longest_chain.ensures;
      indices = λ k class. indices (call_of number k) class ∙ calls_by_numbers tree methods.keys c.requires.methods.known rows are k class;
    })
