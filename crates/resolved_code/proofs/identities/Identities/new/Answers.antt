use Rattle.std.proofs.Common.{◌≡◌, List, [], ◌∷◌, ◌++◌, map, refl, ap, ◌∙◌}
use Rattle.std.specs.List.{flat_map}
use Rattle.cil_model.specs.declared.types.ClassName.{ClassName}
use Rattle.cil_model.specs.Declarations.{Declaration}
use Rattle.name_tables.specs.declared.class_tables.ClassTable.{ClassTable}
use Rattle.name_tables.specs.Entries.{entry_of}
use Rattle.name_tables.specs.Keys.{method_of_key}
use Rattle.name_tables.specs.Sameness.{MethodIdentity, identity_of}
use Rattle.resolved_code.proofs.identities.Identities.new.Goals as goal

flat_map_of_map : {X Y Z : Type 0} (f : X → Y) (g : Y → List Z) (xs : List X) → flat_map (λ x. g (f x)) xs ≡ flat_map g (map f xs)
flat_map_of_map f g [] = refl
flat_map_of_map f g (x ∷ xs) = ap (λ zs. g (f x) ++ zs) (flat_map_of_map f g xs)

pub invariant_of-result : goal.invariant_of-result
invariant_of-result c =
    let own : ClassName × Declaration → List MethodIdentity = λ e. map identity_of e.1.methods in
    record { keys_are = ap (map method_of_key) c.in_ok-new.ensures ∙ c.in_ok-keys.ensures ∙ flat_map_of_map (λ (t : ClassTable). entry_of t.class) own c.all.result.now ∙ ap (flat_map own) c.all.ensures }
