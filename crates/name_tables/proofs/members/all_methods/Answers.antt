use Rattle.std.proofs.Common.{◌≡◌, List, map, flat_map, sym, ap, ◌∙◌}
use Rattle.std.proofs.lemmas.List.Folds.{flat_map-map}
use Rattle.name_tables.specs.declared.class_tables.ClassTable.{ClassTable}
use Rattle.name_tables.specs.declared.keys.MethodKey.{MethodKey}
use Rattle.name_tables.specs.Entries.{entry_of}
use Rattle.name_tables.specs.KeyIds.{number_in}
use Rattle.name_tables.specs.Keys.{method_of_key}
use Rattle.name_tables.specs.Methods.{identity_number, AreNumbers}
use Rattle.name_tables.specs.Numbers.{declarations}
use Rattle.name_tables.specs.Sameness.{same_identity}
use Rattle.name_tables.proofs.Lists.{map_of_map}
use Rattle.name_tables.proofs.MethodNumbers.{identities, flat_parts, declared_numbers, methods_by_numbers}
use Rattle.inheritance.proofs.Results.{if_four}
use Rattle.name_tables.proofs.members.all_methods.Goals as goal

pub returns : goal.returns
returns c =
    let t = c.args.classes.now.tree.now in
    let rows = map (λ row. row.items) c.as_slice.result.now in
    let parts : map (map method_of_key) rows ≡ map identities (declarations t) =
    map_of_map (λ row. row.items) (map method_of_key) c.as_slice.result.now ∙ ap (map (λ row. map method_of_key row.items)) c.as_slice.ensures.value ∙ c.in_ok-rows.ensures ∙
    sym (map_of_map (λ (t : ClassTable). entry_of t.class) identities c.all.result.now) ∙ ap (map identities) c.all.ensures in
    let made = c.new.ensures in
    if_four c.new.result made.bases made.most made.keys made.declared (λ table bases most keys declared.
    let known : map method_of_key table.keys ≡ flat_map identities (declarations t) =
    ap (map method_of_key) (keys ∙ sym (flat_map-map (λ (row : List MethodKey). row) (λ row. row.items) c.as_slice.result.now)) ∙ flat_parts method_of_key rows identities (declarations t) parts in
    let numbers : AreNumbers t (identity_number table.keys) (map (λ r. r.items) table.inheritance.forest.declared.items) =
    declared ∙ sym (map_of_map (λ row. row.items) (map (number_in (λ (a b : MethodKey). same_identity (method_of_key a) (method_of_key b)) table.keys)) c.as_slice.result.now) ∙ declared_numbers t table.keys rows parts in
    record {
      table = record {
        bases = bases ∙ c.requires;
        most = most ∙ c.longest_chain.ensures;
        indices = methods_by_numbers t table.keys known (map (λ r. r.items) table.inheritance.forest.declared.items) numbers;
      };
      known = known;
      numbers = numbers;
    })
