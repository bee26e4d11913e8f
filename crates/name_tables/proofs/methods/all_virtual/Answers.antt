use Rattle.std.proofs.Common.{Global, Vec, ◌≡◌, ℕ, map, sym, ap, ◌∙◌}
use Rattle.cil_model.specs.declared.types.ClassName.{ClassName}
use Rattle.cil_model.specs.declared.trees.Method.{Method}
use Rattle.cil_model.specs.Declarations.{Declaration}
use Rattle.name_tables.specs.declared.class_tables.ClassTable.{ClassTable}
use Rattle.name_tables.specs.Entries.{declaration_in}
use Rattle.name_tables.specs.Methods.{identity_number, virtuals_of}
use Rattle.name_tables.specs.Numbers.{declarations}
use Rattle.name_tables.specs.Sameness.{identity_of}
use Rattle.name_tables.proofs.MethodNumbers.{of_tables, same_count, virtuals_by_numbers}
use Rattle.inheritance.proofs.Results.{if_three}
use Rattle.name_tables.proofs.methods.all_virtual.Goals as goal

pub virtual_rows-requires : goal.virtual_rows-requires
virtual_rows-requires c =
    let names = c.args.names.now in
    same_count c.all.result.now c.as_slice-numbers.result.now (identity_number names.methods.keys)
    (ap (map (λ (r : Vec ℕ Global). r.items)) c.as_slice-numbers.ensures.value ∙ names.methods_are.numbers ∙ of_tables c.all.result.now names.classes.tree.now (λ (e : ClassName × Declaration). map (λ (m : Method). identity_number names.methods.keys (identity_of m)) e.1.methods) c.all.ensures)

pub returns : goal.returns
returns c =
    let names = c.args.names.now in
    let t = names.classes.tree.now in
    let number = identity_number names.methods.keys in
    let tables = c.all.result.now in
    let numbers : map (λ (r : Vec ℕ Global). r.items) c.as_slice-numbers.result.now ≡ map (λ (t : ClassTable). map (λ (m : Method). number (identity_of m)) (declaration_in t.class).methods) tables =
    ap (map (λ (r : Vec ℕ Global). r.items)) c.as_slice-numbers.ensures.value ∙ names.methods_are.numbers ∙ of_tables tables t (λ (e : ClassName × Declaration). map (λ (m : Method). number (identity_of m)) e.1.methods) c.all.ensures in
    let rows = map (λ (r : Vec ℕ Global). r.items) c.as_slice.result.now in
    let are : rows ≡ map (λ (e : ClassName × Declaration). map number (virtuals_of e.1)) (declarations t) =
    ap (map (λ (r : Vec ℕ Global). r.items)) c.as_slice.ensures.value ∙ c.in_ok-rows.ensures number numbers ∙
    sym (of_tables tables t (λ (e : ClassName × Declaration). map number (virtuals_of e.1)) c.all.ensures) in
    let made = c.new.ensures in
    if_three c.new.result made.bases made.most made.indices (λ table bases most indices. record {
      bases = bases ∙ c.bases.ensures;
      most = most ∙ c.longest_chain-most.ensures;
      indices = λ k class. indices (number k) class ∙ virtuals_by_numbers t names.methods.keys names.methods_are.known rows are k class;
    })
