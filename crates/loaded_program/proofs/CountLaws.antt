-- A legal tree has few methods.
use Rattle.std.proofs.Common.{◌≡◌, ◌<◌, ◌≤◌, ℕ, suc, ◌+◌, ◌^◌, List, [], ◌∷◌, ◌++◌, length, get_or, take, drop, map, refl, ap, sym, ◌∙◌, arith, append_assoc, length-append, drop-cons}
use Rattle.std.specs.List.{flat_map, sum_by}
use Rattle.std.proofs.lemmas.List.{length-map, append-nil, drop_all}
use Rattle.std.proofs.lemmas.List.Sums.{sum_by-cons, sum_by_more, sum_by-take-le}
use Rattle.std.proofs.lemmas.Grind.{flat_map-append}
use Rattle.cil_model.specs.declared.types.ClassName.{ClassName}
use Rattle.cil_model.specs.declared.trees.Tree.{Tree}
use Rattle.cil_model.specs.declared.trees.Class.{Class}
use Rattle.cil_model.specs.Declarations.{Declaration, built_ins, source_name, method_members}
use Rattle.cil_model.specs.Legality.{IsLegal}
use Rattle.name_tables.specs.Numbers.{source_entry}
use Rattle.resolved_code.specs.ResolvedPrograms.{AllAlike, IsResolvedMethod, IsResolvedClass}
use Rattle.resolved_code.specs.declared.classes.ResolvedClass.{ResolvedClass}
use Rattle.resolved_code.proofs.ListLaws.RelatedLists.{alike_length}
use Rattle.resolved_code.proofs.LegalPrograms.Limits.{source_methods_few}
use Rattle.loaded_program.specs.AllMethods.{owned_methods, all_methods}
use Rattle.loaded_program.specs.ResolvedKinds.{running_counts}
use Rattle.loaded_program.proofs.FlatLaws.{owned_count}

-- the methods of the source's classes
source_counted : (cs : List Class) → length (flat_map owned_methods (map source_entry cs)) ≡ length (flat_map method_members cs)
source_counted [] = refl
source_counted (c ∷ cs) =
    let first : length (owned_methods (source_entry c) ++ flat_map owned_methods (map source_entry cs)) ≡ length (owned_methods (source_entry c)) + length (flat_map owned_methods (map source_entry cs)) =
    length-append (owned_methods (source_entry c)) (flat_map owned_methods (map source_entry cs)) in
    let second : length (method_members c ++ flat_map method_members cs) ≡ length (method_members c) + length (flat_map method_members cs) = length-append (method_members c) (flat_map method_members cs) in
    let own : length (owned_methods (source_entry c)) ≡ length (method_members c) = length-map (method_members c) (λ m. (source_name c, m)) in
    omega (arith, first, second, own, source_counted cs)

-- ---- counts one by one

module _ {X : Type 0} (count : X → ℕ) (xs : List X) (i : ℕ) (x : X) (next following : ℕ) (there : i < length xs) (is : x ≡ get_or xs i x) (after_is : following ≡ next + count x) where
  counts_from : map count (drop i xs) ≡ count x ∷ map count (drop (i + 1) xs)
  counts_from =
      let on : suc i ≡ i + 1 = omega arith in
      ap (map count) (drop-cons xs i x there ∙ ap (λ n. get_or xs i x ∷ drop n xs) on) ∙ ap (λ y. count y ∷ map count (drop (i + 1) xs)) (sym is)

  -- the running count of a further one
  pub running_more : (first all : List ℕ) → first ++ running_counts next (map count (drop i xs)) ≡ all → (first ++ next ∷ []) ++ running_counts following (map count (drop (i + 1) xs)) ≡ all
  running_more first all so_far =
      append_assoc first (next ∷ []) (running_counts following (map count (drop (i + 1) xs)))
      ∙ ap (λ n. first ++ next ∷ running_counts n (map count (drop (i + 1) xs))) after_is
      ∙ ap (λ ns. first ++ running_counts next ns) (sym counts_from)
      ∙ so_far

  -- and the sum up to it
  pub counted_more : next ≡ sum_by count (take i xs) → following ≡ sum_by count (take (i + 1) xs)
  counted_more so_far =
      after_is ∙ ap (λ n. n + count x) so_far ∙ ap (λ y. sum_by count (take i xs) + count y) is ∙ sym (sum_by_more count xs i x there)

  -- which is no more than the whole
  pub counted_fit : {m : ℕ} → next ≡ sum_by count (take i xs) → sum_by count xs < m → following < m
  counted_fit so_far less = omega (arith, counted_more so_far, sum_by-take-le count xs (i + 1), less)

-- the running counts are given where none is left
pub running_all : {X : Type 0} (count : X → ℕ) (xs : List X) (i next : ℕ) (first all : List ℕ) → length xs ≤ i → first ++ running_counts next (map count (drop i xs)) ≡ all → first ≡ all
running_all count xs i next first all past so_far = sym (append-nil first) ∙ ap (λ ys. first ++ running_counts next (map count ys)) (sym (drop_all i xs past)) ∙ so_far

module _ (tree : Tree) where
  -- with the built-in ones they are fewer than there are flat numbers
  pub methods_few : IsLegal tree → length (all_methods tree) < 2 ^ 32
  methods_few legal =
      let built_in : length (flat_map owned_methods built_ins) ≡ 10 = refl in
      let both : length (all_methods tree) ≡ length (flat_map owned_methods built_ins) + length (flat_map owned_methods (map source_entry tree.classes)) =
      ap length (flat_map-append owned_methods built_ins (map source_entry tree.classes)) ∙ length-append (flat_map owned_methods built_ins) (flat_map owned_methods (map source_entry tree.classes)) in
      omega (arith, built_in, both, source_counted tree.classes, source_methods_few tree legal)

  -- classes by number have the same number of methods as those that they represent
  pub methods_counted : (es : List (ClassName × Declaration)) (rs : List ResolvedClass) → AllAlike (λ (e : ClassName × Declaration) r. IsResolvedClass tree e.1 r) es rs → sum_by (λ r. length r.methods) rs ≡ length (flat_map owned_methods es)
  methods_counted [] [] h = refl
  methods_counted (e ∷ es) (r ∷ rs) h =
      let same : length e.1.methods ≡ length r.methods = alike_length (IsResolvedMethod tree) e.1.methods r.methods h.0.methods in
      let own : length (owned_methods e) ≡ length e.1.methods = owned_count e in
      let both : length (owned_methods e ++ flat_map owned_methods es) ≡ length (owned_methods e) + length (flat_map owned_methods es) = length-append (owned_methods e) (flat_map owned_methods es) in
      let sum : sum_by (λ (c : ResolvedClass). length c.methods) (r ∷ rs) ≡ length r.methods + sum_by (λ (c : ResolvedClass). length c.methods) rs = sum_by-cons (λ (c : ResolvedClass). length c.methods) r rs in
      omega (arith, same, own, both, sum, methods_counted es rs h.1)
  methods_counted [] (r ∷ rs) h = absurd h
  methods_counted (e ∷ es) [] h = absurd h
