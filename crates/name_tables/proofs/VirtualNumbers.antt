-- The numbers of methods among the virtual ones.
use Rattle.std.proofs.Common.{◌≡◌, ◌<◌, ℕ, zero, suc, Bool, true, ◌&&◌, ◌||◌, not, List, [], ◌∷◌, map, Option, Some, None, is_some, is_none, nat_lt, slice_get, slice_index_or, refl, ap, ◌∙◌, arith}
use Rattle.std.proofs.lemmas.Bool.{and_from, le-leb}
use Rattle.std.specs.List.{list_all, list_any}
use Rattle.std.specs.Option.{option_map_or}
use Rattle.cil_model.specs.declared.types.ClassName.{ClassName}
use Rattle.cil_model.specs.declared.trees.Tree.{Tree}
use Rattle.cil_model.specs.declared.trees.Method.{Method}
use Rattle.cil_model.specs.Declarations.{Declaration}
use Rattle.inheritance.specs.declared.forests.Forest.{Forest}
use Rattle.inheritance.specs.ScopedTables.{nearest_from}
use Rattle.name_tables.specs.Members.{IsMemberTable}
use Rattle.name_tables.specs.Methods.{virtual_index, line_of, methods_at, AreNumbers}
use Rattle.name_tables.specs.Numbers.{declarations, nearest_number}
use Rattle.name_tables.specs.Sameness.{MethodIdentity, identity_of}
use Rattle.name_tables.proofs.MemberLaws.{nearest_on_line}

-- where something is none not all are some
pub some_none : {X Y : Type 0} (f : X → Option Y) (xs : List X) → list_any (λ x. is_none (f x)) xs ≡ not (list_all (λ x. is_some (f x)) xs)
some_none f [] = refl
some_none {Y = Y} f (x ∷ xs) = by_first (some_none f xs) (f x)
  where
    by_first : list_any (λ y. is_none (f y)) xs ≡ not (list_all (λ y. is_some (f y)) xs) → (o : Option Y) → is_none o || list_any (λ x. is_none (f x)) xs ≡ not (is_some o && list_all (λ x. is_some (f x)) xs)
    by_first further None = refl
    by_first further (Some y) = further

pub all_of_map : {X Y : Type 0} (f : X → Y) (p : Y → Bool) (xs : List X) → list_all p (map f xs) ≡ list_all (λ x. p (f x)) xs
all_of_map f p [] = refl
all_of_map f p (x ∷ xs) = ap (λ b. p (f x) && b) (all_of_map f p xs)

all_alike : {X : Type 0} (p q : X → Bool) → ((x : X) → p x ≡ q x) → (xs : List X) → list_all p xs ≡ list_all q xs
all_alike p q same [] = refl
all_alike p q same (x ∷ xs) = ap (λ b. b && list_all p xs) (same x) ∙ ap (λ b. q x && b) (all_alike p q same xs)

-- numbers that are less than another
pub are_keys : (again : ℕ → ℕ) (keys : ℕ) → ((n : ℕ) → again n < keys) → (row : List ℕ) → list_all (λ n. nat_lt n keys) (map again row) ≡ true
are_keys again keys within [] = refl
are_keys again keys within (n ∷ ns) = and_from _ _ (let low = within n in le-leb (suc (again n)) keys (omega (arith, low))) (are_keys again keys within ns)

module _ (tree : Tree) (number : MethodIdentity → ℕ) (rows : List (List ℕ)) (has_id : AreNumbers tree number rows) where
  -- what is said of the numbers of a class's methods is said of these
  pub said_of_numbers : (q : ℕ → Bool) (class : ℕ) → list_all q (slice_index_or rows class []) ≡ list_all (λ (m : Method). q (number (identity_of m))) (methods_at tree class)
  said_of_numbers q class = ap (λ rs. list_all q (slice_index_or rs class [])) has_id ∙ of (declarations tree) class
    where
      of : (es : List (ClassName × Declaration)) (n : ℕ) →
          list_all q (slice_index_or (map (λ (e : ClassName × Declaration). map (λ (m : Method). number (identity_of m)) e.1.methods) es) n []) ≡ list_all (λ (m : Method). q (number (identity_of m))) (option_map_or (λ (e : ClassName × Declaration). e.1.methods) (slice_get es n) [])
      of [] n = refl
      of (e ∷ es) zero = all_of_map (λ (m : Method). number (identity_of m)) q e.1.methods
      of (e ∷ es) (suc n) = of es n

  -- all virtual methods that an interface declares are found by the numbers of these numbers
  pub found_by_numbers : (again : ℕ → ℕ) (forest : Forest) → IsMemberTable tree forest (λ k. again (number k)) (virtual_index tree) → (interface class : ℕ) →
      list_all (λ n. is_some (nearest_from forest (again n) forest.most (Some class))) (slice_index_or rows interface []) ≡ list_all (λ (m : Method). is_some (nearest_number (virtual_index tree (identity_of m)) (line_of tree (Some class)))) (methods_at tree interface)
  found_by_numbers again forest table interface class =
      said_of_numbers (λ n. is_some (nearest_from forest (again n) forest.most (Some class))) interface ∙
      all_alike (λ (m : Method). is_some (nearest_from forest (again (number (identity_of m))) forest.most (Some class))) (λ (m : Method). is_some (nearest_number (virtual_index tree (identity_of m)) (line_of tree (Some class))))
      (λ m. ap is_some (nearest_on_line tree forest (λ k. again (number k)) (virtual_index tree) table (identity_of m) class)) (methods_at tree interface)
