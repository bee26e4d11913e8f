-- The tables of members represent what the definitions find.
use Rattle.std.proofs.Common.{◌≡◌, ◌≢◌, ◌<◌, ◌+◌, ◌-◌, ℕ, zero, suc, Bool, true, false, List, [], ◌∷◌, ◌++◌, length, take, map, Option, Some, None, option_map, option_and_then, slice_get, slice_index_or, get_or, refl, sym, ap, subst, ◌∙◌, arith}
use Rattle.std.specs.List.{list_all, position_from}
use Rattle.std.specs.Option.{option_map_or}
use Rattle.std.proofs.lemmas.Option.{none-some, same_Some, slice_get-get_or}
use Rattle.std.proofs.lemmas.Bool.{true≢false}
use Rattle.std.proofs.lemmas.List.{get_or_default}
use Rattle.cil_model.specs.declared.types.ClassName.{ClassName}
use Rattle.cil_model.specs.declared.trees.Tree.{Tree}
use Rattle.cil_model.specs.Declarations.{Declaration}
use Rattle.cil_model.specs.Chains.{longest_chain}
use Rattle.inheritance.specs.declared.forests.Forest.{Forest}
use Rattle.inheritance.specs.Lines as lines
use Rattle.inheritance.specs.ScopedTables.{nearest_from}
use Rattle.inheritance.specs.MarkedDeclarations.{is_marked}
use Rattle.name_tables.specs.Numbers.{declarations, class_number, chain_numbers, nearest_number}
use Rattle.name_tables.specs.Members.{base_numbers, IsMemberTable}
use Rattle.name_tables.proofs.Lists.{map-take_more}
use Rattle.name_tables.proofs.NumberLaws.{position_from-map, numbers_within, numbers_of_unknown, numbers_of_known, base_at}

-- ---- rows of keys

pub map_at : {X Y : Type 0} (f : X → Y) (rows : List (List X)) (n : ℕ) → map f (slice_index_or rows n []) ≡ slice_index_or (map (map f) rows) n []
map_at f [] n = refl
map_at f (r ∷ rs) zero = refl
map_at f (r ∷ rs) (suc n) = map_at f rs n

pub index_at : {X Y : Type 0} (part : X → List Y) (test : Y → Bool) (xs : List X) (n : ℕ) → position_from test 0 (slice_index_or (map part xs) n []) ≡ option_and_then (λ x. position_from test 0 (part x)) (slice_get xs n)
index_at part test [] n = refl
index_at part test (x ∷ xs) zero = refl
index_at part test (x ∷ xs) (suc n) = index_at part test xs n

-- the index of a key in a class is that of what it represents
pub index_of_row : {K X Y : Type 0} (view : K → X) (part : Y → List X) (test : X → Bool) (rows : List (List K)) (ys : List Y) → map (map view) rows ≡ map part ys → (n : ℕ) →
    position_from (λ k. test (view k)) 0 (slice_index_or rows n []) ≡ option_and_then (λ y. position_from test 0 (part y)) (slice_get ys n)
index_of_row view part test rows ys e n =
    sym (position_from-map view test 0 (slice_index_or rows n [])) ∙ ap (position_from test 0) (map_at view rows n ∙ ap (λ rs. slice_index_or rs n []) e) ∙ index_at part test ys n

-- ---- bases

module _ (tree : Tree) where
  abbrev number_of_base : ClassName × Declaration → Option ℕ
  number_of_base e = option_and_then (class_number tree) e.1.base

  base_of_entry : (o : Option (ClassName × Declaration)) → option_and_then (class_number tree) (option_and_then (λ (e : ClassName × Declaration). e.1.base) o) ≡ option_and_then number_of_base o
  base_of_entry None = refl
  base_of_entry (Some e) = refl

  pub more_bases : (n : ℕ) (o : Option ℕ) → n < length (declarations tree) → o ≡ option_and_then (class_number tree) (base_at tree n) → map number_of_base (take (n + 1) (declarations tree)) ≡ map number_of_base (take n (declarations tree)) ++ o ∷ []
  more_bases n o inside e = more (declarations tree) n inside ∙ ap (λ x. map number_of_base (take n (declarations tree)) ++ x ∷ []) (sym (e ∙ base_of_entry (slice_get (declarations tree) n)))
    where
      more : (es : List (ClassName × Declaration)) (m : ℕ) → m < length es → map number_of_base (take (m + 1) es) ≡ map number_of_base (take m es) ++ option_and_then number_of_base (slice_get es m) ∷ []
      more [] m h = absurd (omega (arith, h))
      more (x ∷ xs) m h = map-take_more number_of_base (x ∷ xs) m (get_or (x ∷ xs) m x) h (get_or_default (x ∷ xs) m x (get_or (x ∷ xs) m x) h) ∙ ap (λ f. map number_of_base (take m (x ∷ xs)) ++ option_and_then number_of_base f ∷ []) (sym (slice_get-get_or (x ∷ xs) m x h))

  pub base_in_numbers : (n : ℕ) → lines.base_in (base_numbers tree) n ≡ option_and_then (class_number tree) (base_at tree n)
  base_in_numbers n = found (declarations tree) n ∙ sym (base_of_entry (slice_get (declarations tree) n))
    where
      found : (es : List (ClassName × Declaration)) (m : ℕ) → slice_index_or (map number_of_base es) m None ≡ option_and_then number_of_base (slice_get es m)
      found [] m = refl
      found (e ∷ es) zero = refl
      found (e ∷ es) (suc m) = found es m

  -- ---- chains

  pub line_is_chain : (m : ℕ) (o : Option ClassName) → lines.line_within (base_numbers tree) m (option_and_then (class_number tree) o) ≡ numbers_within tree m o
  line_is_chain zero o = refl
  line_is_chain (suc m) None = refl
  line_is_chain (suc m) (Some c) = by_number (line_is_chain m) (class_number tree c) refl
    where
      by_number : ((b : Option ClassName) → lines.line_within (base_numbers tree) m (option_and_then (class_number tree) b) ≡ numbers_within tree m b) → (o : Option ℕ) → class_number tree c ≡ o → lines.line_within (base_numbers tree) (suc m) o ≡ numbers_within tree (suc m) (Some c)
      by_number further None e = sym (numbers_of_unknown tree (suc m) c e)
      by_number further (Some n) e =
          let k : suc m - 1 ≡ m = omega arith in
          ap (λ b. n ∷ lines.line_within (base_numbers tree) m b) (base_in_numbers n) ∙ ap (λ ns. n ∷ ns) (further (base_at tree n)) ∙
          ap (λ x. n ∷ numbers_within tree x (base_at tree n)) (sym k) ∙ sym (numbers_of_known tree (suc m) c n (omega arith) e)

  -- a class and those along its bases are its chain
  pub line_of_class : (c : ClassName) (n : ℕ) → class_number tree c ≡ Some n → lines.line_within (base_numbers tree) (longest_chain tree) (Some n) ≡ chain_numbers tree c
  line_of_class c n e = ap (lines.line_within (base_numbers tree) (longest_chain tree)) (sym e) ∙ line_is_chain (longest_chain tree) (Some c)

  nearest_same : (index other : ℕ → Option ℕ) → ((n : ℕ) → index n ≡ other n) → (ns : List ℕ) → lines.nearest index ns ≡ nearest_number other ns
  nearest_same index other same [] = refl
  nearest_same index other same (n ∷ ns) = ap (λ o. option_map_or (λ p. Some (n, p)) o (lines.nearest index ns)) (same n) ∙ ap (option_map_or (λ p. Some (n, p)) (other n)) (nearest_same index other same ns)

  -- from a class of a number on
  pub nearest_on_line : {K : Type 0} (forest : Forest) (number : K → ℕ) (index : K → ℕ → Option ℕ) → IsMemberTable tree forest number index → (key : K) (n : ℕ) →
      nearest_from forest (number key) forest.most (Some n) ≡ nearest_number (index key) (lines.line_within (base_numbers tree) (longest_chain tree) (Some n))
  nearest_on_line forest number index t key n =
      nearest_same (lines.index_in (map (λ r. r.items) forest.declared.items) (number key)) (index key) (t.indices key) (lines.line_within forest.bases.items forest.most (Some n)) ∙
      ap (nearest_number (index key)) (ap (λ bs. lines.line_within bs forest.most (Some n)) t.bases ∙ ap (λ m. lines.line_within (base_numbers tree) m (Some n)) t.most)

  pub nearest_in_table : {K : Type 0} (forest : Forest) (number : K → ℕ) (index : K → ℕ → Option ℕ) → IsMemberTable tree forest number index → (key : K) (c : ClassName) (n : ℕ) → class_number tree c ≡ Some n →
      nearest_from forest (number key) forest.most (Some n) ≡ nearest_number (index key) (chain_numbers tree c)
  nearest_in_table forest number index t key c n e = nearest_on_line forest number index t key n ∙ ap (nearest_number (index key)) (line_of_class c n e)

  -- what is said of the forest's bases is said of the tree's
  pub of_tree : {K : Type 0} (forest : Forest) (number : K → ℕ) (index : K → ℕ → Option ℕ) → IsMemberTable tree forest number index → (P : List (Option ℕ) → ℕ → Type 0) → P forest.bases.items forest.most → P (base_numbers tree) (longest_chain tree)
  of_tree forest number index t P h = subst (P (base_numbers tree)) t.most (subst (λ bs. P bs forest.most) t.bases h)

-- ---- what is found has an index

nearest_index : (at : ℕ → Option ℕ) (ns : List ℕ) (p : ℕ × ℕ) → lines.nearest at ns ≡ Some p → at p.0 ≡ Some p.1
nearest_index at [] p e = absurd (none-some p e)
nearest_index at (n ∷ ns) p e = by_index (nearest_index at ns p) (at n) refl e
  where
    by_index : (lines.nearest at ns ≡ Some p → at p.0 ≡ Some p.1) → (o : Option ℕ) → at n ≡ o → option_map_or (λ q. Some (n, q)) o (lines.nearest at ns) ≡ Some p → at p.0 ≡ Some p.1
    by_index further None h k = further k
    by_index further (Some q) h k = let same : (n, q) ≡ p = same_Some (n, q) p k in subst (λ (r : ℕ × ℕ). at r.0 ≡ Some r.1) same h

pub marked_index : (marks : List (List Bool)) (forest : Forest) (key class : ℕ) → is_marked marks (nearest_from forest key forest.most (Some class)) ≡ true →
    (p : ℕ × ℕ) × (lines.index_in (map (λ r. r.items) forest.declared.items) key p.0 ≡ Some p.1)
marked_index marks forest key class e = by_found (nearest_from forest key forest.most (Some class)) refl e
  where
    by_found : (o : Option (ℕ × ℕ)) → nearest_from forest key forest.most (Some class) ≡ o → is_marked marks o ≡ true → (p : ℕ × ℕ) × (lines.index_in (map (λ r. r.items) forest.declared.items) key p.0 ≡ Some p.1)
    by_found None h k = absurd (true≢false (sym k))
    by_found (Some p) h k = (p, nearest_index (lines.index_in (map (λ r. r.items) forest.declared.items) key) (lines.line_within forest.bases.items forest.most (Some class)) p h)

-- what a map gives comes from something
pub mapped_from : {X Y : Type 0} (f : X → Y) (o : Option X) (y : Y) → option_map f o ≡ Some y → (x : X) × (f x ≡ y)
mapped_from f None y e = absurd (none-some y e)
mapped_from f (Some x) y e = (x, same_Some (f x) y e)

-- ---- tests of all

pub some_where_some : {X Y : Type 0} (xs : List X) (ys : List Y) → list_all (λ x. false) xs ≡ list_all (λ y. false) ys → ys ≢ [] → 0 < length xs
some_where_some (x ∷ xs) ys e h = omega arith
some_where_some [] [] e h = absurd (h refl)
some_where_some [] (y ∷ ys) e h = absurd (true≢false e)

-- ---- what a class itself declares

found_first : (at : ℕ → Option ℕ) (n q : ℕ) (ns : List ℕ) → at n ≡ Some q → nearest_number at (n ∷ ns) ≡ Some (n, q)
found_first at n q ns e = ap (λ o. option_map_or (λ index. Some (n, index)) o (nearest_number at ns)) e

absent_first : (at : ℕ → Option ℕ) (n : ℕ) (ns : List ℕ) → at n ≡ None → nearest_number at (n ∷ ns) ≡ nearest_number at ns
absent_first at n ns e = ap (λ o. option_map_or (λ index. Some (n, index)) o (nearest_number at ns)) e

number_index : (at : ℕ → Option ℕ) (ns : List ℕ) (p : ℕ × ℕ) → nearest_number at ns ≡ Some p → at p.0 ≡ Some p.1
number_index at ns p e = nearest_index at ns p (same at ns ∙ e)
  where
    same : (f : ℕ → Option ℕ) (xs : List ℕ) → lines.nearest f xs ≡ nearest_number f xs
    same f [] = refl
    same f (x ∷ xs) = ap (λ o. option_map_or (λ index. Some (x, index)) (f x) o) (same f xs)

-- what is found along a line in its first class is found in that class alone
pub found_in_own : (at : ℕ → Option ℕ) (n : ℕ) (ns : List ℕ) (p : ℕ × ℕ) → nearest_number at (n ∷ ns) ≡ Some p → p.0 ≡ n → Some p ≡ nearest_number at (n ∷ [])
found_in_own at n ns p e own = sym (found_first at n p.1 [] (ap at (sym own) ∙ number_index at (n ∷ ns) p e) ∙ ap (λ x. Some (x, p.1)) (sym own))

-- what is found elsewhere, or not at all, is not in the first class
pub not_in_own : (at : ℕ → Option ℕ) (n : ℕ) (ns : List ℕ) → ((q : ℕ) → nearest_number at (n ∷ ns) ≢ Some (n, q)) → None ≡ nearest_number at (n ∷ [])
not_in_own at n ns other = by_index (at n) refl
  where
    by_index : (o : Option ℕ) → at n ≡ o → None ≡ nearest_number at (n ∷ [])
    by_index None e = sym (absent_first at n [] e)
    by_index (Some q) e = absurd (other q (found_first at n q ns e))
