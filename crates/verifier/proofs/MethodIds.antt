-- The numbers of the methods of a source.
use Rattle.std.proofs.Common.{◌≡◌, ◌<◌, ◌+◌, ℕ, List, [], ◌∷◌, ◌++◌, map, length, drop, drop-cons, add-one, get_or, Option, Some, option_map, option_and_then, slice_get, refl, sym, ap, ◌∙◌}
use Rattle.std.specs.List.{flat_map}
use native.Mathlib.Numerals.{unary_clauses}
use Rattle.std.proofs.lemmas.List.{map-append, append_assoc}
use Rattle.std.proofs.lemmas.Option.{slice_get-map, slice_get_read}
use Rattle.cil_model.specs.declared.types.ClassName.{ClassName}
use Rattle.cil_model.specs.declared.trees.Tree.{Tree}
use Rattle.cil_model.specs.declared.trees.Class.{Class}
use Rattle.cil_model.specs.declared.trees.Method.{Method}
use Rattle.cil_model.specs.Declarations.{Declaration, source_name, method_members}
use Rattle.name_tables.specs.declared.ids.MethodId.{MethodId}
use Rattle.name_tables.specs.Numbers.{declarations, source_entry, method_at}
use Rattle.verifier.specs.Members.{methods_at, own_methods}

-- the method at an index of a class of the source
next_of_class : (tree : Tree) (c : Class) (class index : ℕ) (m : Method) → slice_get (declarations tree) class ≡ Some (source_entry c) → slice_get (method_members c) index ≡ Some m → method_at tree (class, index) ≡ Some (source_name c, m)
next_of_class tree c class index m here there =
    ap (option_and_then {U = ClassName × Method} (λ (e : ClassName × Declaration). option_map {U = ClassName × Method} (λ x. (e.0, x)) (slice_get e.1.methods index))) here
    ∙ ap (option_map {U = ClassName × Method} (λ x. (source_name c, x))) there

-- classes of the source come after the five built-in ones
pub source_class : (tree : Tree) (index : ℕ) (c : Class) → slice_get tree.classes index ≡ Some c → slice_get (declarations tree) (index + 5) ≡ Some (source_entry c)
source_class tree index c there = simp unary_clauses (slice_get-map source_entry tree.classes index ∙ ap (option_map source_entry) there)

-- one number more, and the methods that are left
pub number_added : (tree : Tree) (c : Class) (class index : ℕ) (so_far : List MethodId) {X : Type 0} (shown : X → Method) (xs : List X) (x : X) (whole : List (Option (ClassName × Method))) →
    slice_get (declarations tree) class ≡ Some (source_entry c) → map shown xs ≡ method_members c → index < length xs → x ≡ get_or xs index x →
    methods_at tree so_far ++ map Some (map (λ (m : Method). (source_name c, m)) (map shown (drop index xs))) ≡ whole →
    methods_at tree (so_far ++ record { class = class; index = index } ∷ []) ++ map Some (map (λ (m : Method). (source_name c, m)) (map shown (drop (index + 1) xs))) ≡ whole
number_added tree c class index so_far {X} shown xs x whole here all below at invariant =
    ap (λ ns. ns ++ left (drop (index + 1) xs)) (map-append (λ (n : MethodId). method_at tree (n.class, n.index)) so_far (number ∷ []))
    ∙ (append_assoc (methods_at tree so_far) (method_at tree (class, index) ∷ []) (left (drop (index + 1) xs))
    ∙ (ap (λ o. methods_at tree so_far ++ o ∷ left (drop (index + 1) xs)) found
    ∙ (ap (λ ys. methods_at tree so_far ++ left ys) (sym opened) ∙ invariant)))
  where
    number : MethodId
    number = record { class = class; index = index }

    left : List X → List (Option (ClassName × Method))
    left ys = map Some (map (λ (m : Method). (source_name c, m)) (map shown ys))

    opened : drop index xs ≡ x ∷ drop (index + 1) xs
    opened = rw (add-one, at) (drop-cons xs index x below)

    there : slice_get xs index ≡ Some x
    there = slice_get_read xs (length xs) index x refl below at

    found : method_at tree (class, index) ≡ Some (source_name c, shown x)
    found = next_of_class tree c class index (shown x) here (ap (λ ms. slice_get ms index) (sym all) ∙ slice_get-map shown xs index ∙ ap (option_map shown) there)

-- the methods of one class more, and those of the classes that are left
pub class_added : (tree : Tree) (index : ℕ) (c : Class) (so_far more : List MethodId) (whole : List (Option (ClassName × Method))) → index < length tree.classes → c ≡ get_or tree.classes index c →
    methods_at tree more ≡ methods_at tree so_far ++ map Some (own_methods c) →
    methods_at tree so_far ++ map Some (flat_map own_methods (drop index tree.classes)) ≡ whole →
    methods_at tree more ++ map Some (flat_map own_methods (drop (index + 1) tree.classes)) ≡ whole
class_added tree index c so_far more whole below at added invariant =
    ap (λ ms. ms ++ rest) added
    ∙ (append_assoc (methods_at tree so_far) (map Some (own_methods c)) rest
    ∙ (ap (λ ms. methods_at tree so_far ++ ms) (sym (map-append Some (own_methods c) (flat_map own_methods (drop (index + 1) tree.classes))))
    ∙ (ap (λ cs. methods_at tree so_far ++ map Some (flat_map own_methods cs)) (sym opened) ∙ invariant)))
  where
    rest : List (Option (ClassName × Method))
    rest = map Some (flat_map own_methods (drop (index + 1) tree.classes))

    opened : drop index tree.classes ≡ c ∷ drop (index + 1) tree.classes
    opened = rw (add-one, at) (drop-cons tree.classes index c below)
