-- The first entry point by number is the only one of a legal tree.
use Rattle.std.proofs.Common.{◌≡◌, ℕ, suc, Bool, true, false, cond, is_some, List, [], ◌∷◌, map, Option, Some, None, option_map, option_and_then, slice_get, refl, sym, ap, ◌∙◌}
use Rattle.std.specs.Prelude.{find, filter, flat_map, option_to_list, IsSome, IfSome}
use Rattle.std.specs.List.{position_from}
use Rattle.std.specs.Option.{option_map_or}
use Rattle.std.proofs.lemmas.Grind.{flat_map-append}
use Rattle.std.proofs.lemmas.List.Elements.{filter-append}
use Rattle.std.proofs.lemmas.List.Folds.{flat_map-map}
use Rattle.cil_model.specs.declared.types.ClassName.{ClassName}
use Rattle.cil_model.specs.declared.trees.Tree.{Tree}
use Rattle.cil_model.specs.declared.trees.Class.{Class}
use Rattle.cil_model.specs.declared.trees.Method.{Method}
use Rattle.cil_model.specs.Declarations.{Declaration, built_ins, source_name, method_members}
use Rattle.cil_model.specs.Bodies.{is_entry_point, entry_points}
use Rattle.cil_model.specs.Legality.{IsLegal, is_entry_method}
use Rattle.cil_model.proofs.Legal.{entry_alone}
use Rattle.name_tables.specs.declared.ids.MethodId.{MethodId}
use Rattle.name_tables.specs.Numbers.{declarations, source_entry, method_at}
use Rattle.name_tables.proofs.NumberLaws.{none_is_some, found_at_index, find-append, find-map}
use Rattle.resolved_code.specs.Contents.{entry_from, IsEntryPoint}

abbrev with_class : ClassName × Declaration → List (ClassName × Method)
with_class e = map (λ (m : Method). (e.0, m)) e.1.methods

abbrev is_entry : ClassName × Method → Bool
is_entry found = is_entry_point found.1

abbrev at : List (ClassName × Declaration) → ℕ × ℕ → Option (ClassName × Method)
at es number = option_and_then (λ (e : ClassName × Declaration). option_map (λ (m : Method). (e.0, m)) (slice_get e.1.methods number.1)) (slice_get es number.0)

abbrev further : ℕ × ℕ → ℕ × ℕ
further number = (suc number.0, number.1)

pub never_none : {X : Type 0} (o : Option X) → IsSome o → o ≡ None → ⊥
never_none None h e = cc
never_none (Some x) h e = cc

-- numbers after one more class
shifted : (n : ℕ) (es : List (ClassName × Declaration)) → entry_from (suc n) es ≡ option_map further (entry_from n es)
shifted n [] = refl
shifted n (e ∷ es) = by_index (position_from is_entry_point 0 e.1.methods) (shifted (suc n) es)
  where
    by_index : (o : Option ℕ) → entry_from (suc (suc n)) es ≡ option_map further (entry_from (suc n) es) →
        option_map_or (λ index. Some (suc n, index)) o (entry_from (suc (suc n)) es) ≡ option_map further (option_map_or (λ index. Some (n, index)) o (entry_from (suc n) es))
    by_index None rest = rest
    by_index (Some index) rest = refl

abbrev naming : ClassName × Declaration → Method → ClassName × Method
naming e m = (e.0, m)

abbrev either : Option (ClassName × Method) → Option (ClassName × Method) → Option (ClassName × Method)
either o p = cond (is_some o) o p

-- the first number refers to the first entry point
first_at : (es : List (ClassName × Declaration)) → option_map (at es) (entry_from 0 es) ≡ option_map Some (find is_entry (flat_map with_class es))
first_at [] = refl
first_at (e ∷ es) =
    by_index (position_from is_entry_point 0 e.1.methods) (find is_entry_point e.1.methods) (found_at_index is_entry_point e.1.methods) (first_at es) ∙
    sym (ap (option_map Some) (find-append is_entry (with_class e) (flat_map with_class es) ∙ ap (λ o. either o (find is_entry (flat_map with_class es))) (find-map (naming e) is_entry e.1.methods)))
  where
    moved : (o : Option (ℕ × ℕ)) → option_map (at (e ∷ es)) (option_map further o) ≡ option_map (at es) o
    moved None = refl
    moved (Some number) = refl

    by_index : (o : Option ℕ) (f : Option Method) → option_map (slice_get e.1.methods) o ≡ option_map Some f → option_map (at es) (entry_from 0 es) ≡ option_map Some (find is_entry (flat_map with_class es)) →
        option_map (at (e ∷ es)) (option_map_or (λ index. Some (0, index)) o (entry_from (suc 0) es)) ≡ option_map Some (either (option_map (naming e) f) (find is_entry (flat_map with_class es)))
    by_index None None h rest = ap (option_map (at (e ∷ es))) (shifted 0 es) ∙ moved (entry_from 0 es) ∙ rest
    by_index (Some index) (Some m) h rest = ap (option_map (option_map (naming e))) h
    by_index None (Some m) h rest = absurd (none_is_some _ h)
    by_index (Some index) None h rest = absurd (none_is_some _ (sym h))

-- the first of a list with one item that passes
only_found : {X : Type 0} (test : X → Bool) (x : X) (xs : List X) → filter test xs ≡ x ∷ [] → find test xs ≡ Some x
only_found test x [] h = cc
only_found {X} test x (y ∷ ys) h = by_test (test y) (only_found test x ys) h
  where
    by_test : (b : Bool) → (filter test ys ≡ x ∷ [] → find test ys ≡ Some x) → cond b (y ∷ filter test ys) (filter test ys) ≡ x ∷ [] → cond b (Some y) (find test ys) ≡ Some x
    by_test true rest k = let s : y ≡ x = cc in ap Some s
    by_test false rest k = rest k

module _ (tree : Tree) where
  of_source : (cs : List Class) → flat_map with_class (map source_entry cs) ≡ flat_map (λ (c : Class). map (λ (m : Method). (source_name c, m)) (method_members c)) cs
  of_source cs = flat_map-map with_class source_entry cs

  -- no built-in class has an entry point
  pub all_entries : filter is_entry (flat_map with_class (declarations tree)) ≡ entry_points tree
  all_entries =
      ap (filter is_entry) (flat_map-append with_class built_ins (map source_entry tree.classes)) ∙
      filter-append is_entry (flat_map with_class built_ins) (flat_map with_class (map source_entry tree.classes)) ∙
      ap (filter is_entry) (of_source tree.classes)

  pub entry_found : IsLegal tree → (o : Option MethodId) → option_map (λ (m : MethodId). (m.class, m.index)) o ≡ entry_from 0 (declarations tree) → IsSome o × IfSome o (IsEntryPoint tree)
  entry_found legal o h =
      let one : (e : ClassName × Method) × (entry_points tree ≡ e ∷ []) × (is_entry_method e.1 ≡ true) = entry_alone tree legal in
      by_number one.0 one.1 o (ap (option_map (method_at tree)) h ∙ first_at (declarations tree) ∙ ap (option_map Some) (only_found is_entry one.0 (flat_map with_class (declarations tree)) (all_entries ∙ one.1)))
    where
      by_number : (e : ClassName × Method) → entry_points tree ≡ e ∷ [] → (n : Option MethodId) → option_map (method_at tree) (option_map (λ (m : MethodId). (m.class, m.index)) n) ≡ Some (Some e) → IsSome n × IfSome n (IsEntryPoint tree)
      by_number e is None k = absurd (none_is_some _ k)
      by_number e is (Some number) k = let s : method_at tree (number.class, number.index) ≡ Some e = cc in (refl, is ∙ sym (ap option_to_list s))
