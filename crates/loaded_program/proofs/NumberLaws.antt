-- No two methods of a legal tree are of one class, name and signature; so each has one number.
use Rattle.std.proofs.Common.{◌≡◌, ◌+◌, ℕ, zero, suc, Bool, true, false, ◌&&◌, cond, if◌then◌else◌, IsTrue, List, [], ◌∷◌, ◌++◌, map, Option, Some, None, is_some, option_map, slice_get, refl, sym, ap, ◌∙◌}
use Rattle.std.specs.List.{flat_map, list_any, list_all, position_from}
use Rattle.std.proofs.lemmas.Bool.{or_parts, or_from, and_from}
use Rattle.std.proofs.lemmas.Grind.{flat_map-append}
use Rattle.std.proofs.lemmas.List.Folds.{list_any-append}
use Rattle.cil_model.specs.declared.types.ClassName.{ClassName}
use Rattle.cil_model.specs.declared.trees.Tree.{Tree}
use Rattle.cil_model.specs.declared.trees.Class.{Class}
use Rattle.cil_model.specs.declared.trees.Method.{Method}
use Rattle.cil_model.specs.Same.{same_options, same_text, same_class}
use Rattle.cil_model.specs.Declarations.{Declaration, built_ins, source_name, method_members}
use Rattle.cil_model.specs.Chains.{listed_by, methods_declared}
use Rattle.cil_model.specs.Legality.{IsLegal, has_repeat, same_method, class_doubles, doubles_name}
use Rattle.cil_model.proofs.Lists.{passes_not}
use Rattle.cil_model.proofs.SameLaws.{never, both_first, both_second, same_class_itself, same_method_name_itself, same_signature_itself}
use Rattle.name_tables.specs.declared.ids.MethodId.{MethodId}
use Rattle.name_tables.specs.Numbers.{declarations, class_number, source_entry, method_at}
use Rattle.name_tables.proofs.NumberLaws.{HasId, has_id, none_is_some, position_from-suc}
use Rattle.resolved_code.proofs.ListLaws.Repeats.{has_repeat-map}
use Rattle.loaded_program.specs.AllMethods.{owned_methods, all_methods, first_numbers, flat_number, method_id}
use Rattle.loaded_program.specs.MethodNumbers.{number_of}
use Rattle.loaded_program.proofs.FlatLaws.{id_at, id_of_flat_number, method_of_number, first_is_there, number_after}

-- ---- lists in which no item stands twice

-- each is found first at its own index
found_first : {X : Type 0} (same : X → X → Bool) → ((x : X) → IsTrue (same x x)) → (xs : List X) (n : ℕ) (x : X) → has_repeat same xs ≡ false → slice_get xs n ≡ Some x → position_from (λ y. same y x) 0 xs ≡ Some n
found_first same itself [] n x h e = absurd (none_is_some x e)
found_first {X} same itself (y ∷ ys) zero x h e =
    let s : y ≡ x = cc in
    ap (λ b. cond b (Some 0) (position_from (λ z. same z x) 1 ys)) (ap (λ (z : X). same z x) s ∙ itself x)
found_first same itself (y ∷ ys) (suc n) x h e =
    let further : position_from (λ z. same z x) 0 ys ≡ Some n = found_first same itself ys n x (or_parts _ _ h).1 e in
    ap (λ b. cond b (Some 0) (position_from (λ z. same z x) 1 ys)) (passes_not (same y) ys n x (or_parts _ _ h).0 e) ∙ position_from-suc (λ z. same z x) 0 ys ∙ ap (option_map suc) further

-- two lists, one after the other, where no item of the first is one of the second
once_in_both : {X : Type 0} (same : X → X → Bool) (xs ys : List X) → has_repeat same xs ≡ false → list_any (λ x. list_any (same x) ys) xs ≡ false → has_repeat same ys ≡ false → has_repeat same (xs ++ ys) ≡ false
once_in_both same [] ys own apart others = others
once_in_both same (x ∷ xs) ys own apart others =
    let first : (list_any (same x) xs ≡ false) × (has_repeat same xs ≡ false) = or_parts _ _ own in
    let second : (list_any (same x) ys ≡ false) × (list_any (λ z. list_any (same z) ys) xs ≡ false) = or_parts _ _ apart in
    let none : list_any (same x) (xs ++ ys) ≡ false = list_any-append (same x) xs ys ∙ or_from _ _ first.0 second.0 in
    or_from _ _ none (once_in_both same xs ys first.1 second.1 others)

-- ---- methods by class, name and signature

abbrev same_found : ClassName × Method → ClassName × Method → Bool
same_found a b = same_class a.0 b.0 && same_method a.1 b.1

same_found_itself : (found : ClassName × Method) → IsTrue (same_found found found)
same_found_itself found = and_from _ _ (same_class_itself found.0) (and_from _ _ (same_method_name_itself found.1.name) (same_signature_itself found.1.signature))

abbrev of_name : ClassName → List Method → List (ClassName × Method)
of_name c ms = map (λ m. (c, m)) ms

-- the methods of one class
once_in_class : (c : ClassName) (ms : List Method) → has_repeat same_method ms ≡ false → has_repeat same_found (of_name c ms) ≡ false
once_in_class c ms h = has_repeat-map (λ m. (c, m)) same_found ms ∙ ap (λ v. has_repeat (λ a b. v && same_method a b) ms) (same_class_itself c) ∙ h

-- a method of a class is none of a class of another name
other_class : (c d : ClassName) (m : Method) → same_class c d ≡ false → (ms : List Method) → list_any (same_found (c, m)) (of_name d ms) ≡ false
other_class c d m h [] = refl
other_class c d m h (x ∷ xs) = or_from _ _ (ap (λ v. v && same_method m x) h) (other_class c d m h xs)

-- ---- classes of the source

abbrev source_methods : List Class → List (ClassName × Method)
source_methods cs = flat_map owned_methods (map source_entry cs)

other_than_source : (c : ClassName) (m : Method) (ks : List Class) → list_any (λ (k : Class). same_class c (source_name k)) ks ≡ false → list_any (same_found (c, m)) (source_methods ks) ≡ false
other_than_source c m [] h = refl
other_than_source c m (k ∷ ks) h =
    list_any-append (same_found (c, m)) (owned_methods (source_entry k)) (source_methods ks) ∙
    or_from _ _ (other_class c (source_name k) m (or_parts _ _ h).0 (method_members k)) (other_than_source c m ks (or_parts _ _ h).1)

each_other : (c : ClassName) (ms : List Method) (ks : List Class) → list_any (λ (k : Class). same_class c (source_name k)) ks ≡ false → list_any (λ x. list_any (same_found x) (source_methods ks)) (of_name c ms) ≡ false
each_other c [] ks h = refl
each_other c (m ∷ ms) ks h = or_from _ _ (other_than_source c m ks h) (each_other c ms ks h)

once_in_source : (ks : List Class) → has_repeat (λ (a b : Class). same_text a.name b.name) ks ≡ false → list_any class_doubles ks ≡ false → has_repeat same_found (source_methods ks) ≡ false
once_in_source [] h s = refl
once_in_source (k ∷ ks) h s =
    let own : has_repeat same_method (method_members k) ≡ false = (or_parts _ _ (or_parts _ _ (or_parts _ _ (or_parts _ _ s).0).0).0).1 in
    once_in_both same_found (of_name (source_name k) (method_members k)) (source_methods ks) (once_in_class (source_name k) (method_members k) own) (each_other (source_name k) (method_members k) ks (or_parts _ _ h).0) (once_in_source ks (or_parts _ _ h).1 (or_parts _ _ s).1)

-- ---- built-in classes

-- a class of an assembly is none of the source
of_assembly : (c : ClassName) → IsTrue (is_some c.assembly) → (ks : List Class) → list_any (λ (k : Class). same_class c (source_name k)) ks ≡ false
of_assembly c h [] = refl
of_assembly c h (k ∷ ks) = or_from _ _ (by_assembly c.assembly h (same_text c.name k.name)) (of_assembly c h ks)
  where
    by_assembly : (o : Option (List ℕ)) → IsTrue (is_some o) → (b : Bool) → (same_options same_text o None && b) ≡ false
    by_assembly (Some a) t b = refl
    by_assembly None t b = never t

each_of_assembly : (xs : List (ClassName × Method)) → IsTrue (list_all (λ (x : ClassName × Method). is_some x.0.assembly) xs) → (ks : List Class) → list_any (λ x. list_any (same_found x) (source_methods ks)) xs ≡ false
each_of_assembly [] h ks = refl
each_of_assembly (x ∷ xs) h ks = or_from _ _ (other_than_source x.0 x.1 ks (of_assembly x.0 (both_first _ _ h) ks)) (each_of_assembly xs (both_second _ _ h) ks)

-- ---- all classes

not_duplicate : (b : Bool) (rest : Option ℕ) → (if b then Some 201 else rest) ≡ None → b ≡ false
not_duplicate false rest h = refl
not_duplicate true rest h = absurd (none_is_some 201 (sym h))

module _ (tree : Tree) where
  once_in_all : IsLegal tree → has_repeat same_found (all_methods tree) ≡ false
  once_in_all legal =
      let single : doubles_name tree ≡ false = not_duplicate _ _ legal in
      ap (has_repeat same_found) (flat_map-append owned_methods built_ins (map source_entry tree.classes)) ∙
      once_in_both same_found (flat_map owned_methods built_ins) (source_methods tree.classes) refl (each_of_assembly (flat_map owned_methods built_ins) refl tree.classes)
      (once_in_source tree.classes (or_parts _ _ (or_parts _ _ single).0).1 (or_parts _ _ single).1)

  -- a method's index is its number
  pub number_of_index : IsLegal tree → (n : ℕ) (found : ClassName × Method) → slice_get (all_methods tree) n ≡ Some found → number_of tree found ≡ Some n
  number_of_index legal n found h = found_first same_found same_found_itself (all_methods tree) n found (once_in_all legal) h

  -- the id of the method with a number is the one whose method stands there
  pub id_of_number : IsLegal tree → (number : ℕ) (found : ClassName × Method) → slice_get (all_methods tree) number ≡ Some found → (id : MethodId) → method_at tree (id.class, id.index) ≡ Some found → id ≡ method_id tree number
  id_of_number legal number found at id named =
      let first = number_of_index legal number found at in
      let flat = number_of_index legal (flat_number tree id.class id.index) found (method_of_number tree id.class id.index found named) in
      let both : Some (flat_number tree id.class id.index) ≡ Some number = sym flat ∙ first in
      let same : flat_number tree id.class id.index ≡ number = cc in
      sym (id_of_flat_number tree id.class id.index found named) ∙ ap (method_id tree) same

  -- each method that a class declares has an index
  pub index_of_declared : (k : ℕ) (found : ClassName × Method) → slice_get (methods_declared tree found.0) k ≡ Some found.1 → (n : ℕ) × (slice_get (all_methods tree) n ≡ Some found)
  index_of_declared k found h = by_number (class_number tree found.0) (has_id tree found.0)
    where
      by_first : (n : ℕ) → method_at tree (n, k) ≡ Some found → (o : Option ℕ) → slice_get (first_numbers 0 (declarations tree)) n ≡ o → (m : ℕ) × (slice_get (all_methods tree) m ≡ Some found)
      by_first n at None e = absurd (first_is_there tree n k found at (first_numbers 0 (declarations tree)) refl e)
      by_first n at (Some first) e = (first + k, (number_after tree n k found at (first_numbers 0 (declarations tree)) first refl e).1)

      by_number : (o : Option ℕ) → HasId tree found.0 o → (m : ℕ) × (slice_get (all_methods tree) m ≡ Some found)
      by_number None e = absurd (none_is_some found.1 (sym (ap (λ z. slice_get (listed_by (λ (d : Declaration). d.methods) z) k) e) ∙ h))
      by_number (Some n) (d, e, at) =
          let own : slice_get d.methods k ≡ Some found.1 = sym (ap (λ z. slice_get (listed_by (λ (y : Declaration). y.methods) z) k) e) ∙ h in
          by_first n (id_at tree n k (found.0, d) found.1 at own) (slice_get (first_numbers 0 (declarations tree)) n) refl

  -- it has a number, and stands there
  pub declared_has_id : IsLegal tree → (k : ℕ) (found : ClassName × Method) → slice_get (methods_declared tree found.0) k ≡ Some found.1 → (n : ℕ) × (number_of tree found ≡ Some n) × (slice_get (all_methods tree) n ≡ Some found)
  declared_has_id legal k found h =
      let index : (n : ℕ) × (slice_get (all_methods tree) n ≡ Some found) = index_of_declared k found h in
      (index.0, number_of_index legal index.0 found index.1, index.1)

  -- the number of a method that is declared is its index
  pub index_of_number : IsLegal tree → (k : ℕ) (found : ClassName × Method) → slice_get (methods_declared tree found.0) k ≡ Some found.1 → (n : ℕ) → number_of tree found ≡ Some n → slice_get (all_methods tree) n ≡ Some found
  index_of_number legal k found h n e =
      let known : (m : ℕ) × (number_of tree found ≡ Some m) × (slice_get (all_methods tree) m ≡ Some found) = declared_has_id legal k found h in
      let both : Some known.0 ≡ Some n = sym known.1 ∙ e in
      let same : known.0 ≡ n = cc in
      ap (slice_get (all_methods tree)) (sym same) ∙ known.2
