-- The nearest methods along a chain of classes, found by their indices.
use Rattle.std.proofs.Common.{◌≡◌, ◌<◌, ◌-◌, ℕ, zero, suc, Bool, true, false, cond, not, ◌&&◌, ◌||◌, List, [], ◌∷◌, ◌++◌, length, map, replicate, Option, Some, None, is_some, option_map, option_and_then, slice_get, slice_index_or, slice_set, refl, sym, ap, ◌∙◌, arith}
use Rattle.std.specs.Prelude.{find, filter}
use Rattle.std.specs.List.{list_any, position_from}
use Rattle.std.specs.Option.{option_map_or}
use Rattle.std.proofs.lemmas.Bool.{or_parts, or_from}
use Rattle.std.proofs.lemmas.Option.{same_Some, none-some}
use Rattle.cil_model.specs.declared.types.ClassName.{ClassName}
use Rattle.cil_model.specs.declared.trees.Tree.{Tree}
use Rattle.cil_model.specs.declared.trees.Method.{Method}
use Rattle.cil_model.specs.Declarations.{Declaration}
use Rattle.cil_model.specs.Chains.{longest_chain, is_virtual, is_abstract_method, listed_by, methods_declared}
use Rattle.inheritance.specs.Lines.{base_in, line_within, Ends}
use Rattle.inheritance.specs.MarkedDeclarations.{is_marked}
use Rattle.inheritance.proofs.LineLaws.{line_of_none, line_step, line_of_base}
use Rattle.name_tables.specs.declared.ids.MethodId.{MethodId}
use Rattle.name_tables.specs.Members.{base_numbers}
use Rattle.name_tables.specs.Methods.{method_index, has_virtual, virtuals_of, virtual_index, line_of, methods_at}
use Rattle.name_tables.specs.Numbers.{declarations, class_number, nearest_number, method_found}
use Rattle.name_tables.specs.Sameness.{MethodIdentity, same_identity, identity_of}
use Rattle.name_tables.specs.SamenessLaws.{same_identity_equal}
use Rattle.name_tables.proofs.FirstIndices.{is_some-position_from}
use Rattle.cil_model.proofs.Lists.{find_passes}
use Rattle.name_tables.proofs.NumberLaws.{found_none, found_some, found_at_index}
use Rattle.resolved_code.proofs.Numbers.Classes.{FoundAt, found_at}
use Rattle.resolved_code.specs.VirtualSlots.{is_virtual_found, is_override, is_nearest_abstract, hides_abstract, concrete_by_id}
use Rattle.resolved_code.proofs.ListLaws.Tests.{and_false}
use Rattle.metadata.specs.OpenSlots.{hides_one, AreClear}

not_both : true ≡ false → ⊥
not_both e = cc

index_got : {X Y : Type 0} (f : X → Y) (xs : List X) (i : ℕ) (x : X) (d : Y) → slice_get xs i ≡ Some x → slice_index_or (map f xs) i d ≡ f x
index_got f [] i x d e = absurd (none-some x e)
index_got f (y ∷ ys) zero x d e = ap f (same_Some y x e)
index_got f (y ∷ ys) (suc i) x d e = index_got f ys i x d e

-- what is found fails a test that each fails
found_fails : {X : Type 0} (test p : X → Bool) (xs : List X) (x : X) → find test xs ≡ Some x → list_any p xs ≡ false → p x ≡ false
found_fails test p [] x e h = absurd (none-some x e)
found_fails {X} test p (y ∷ ys) x e h = by_test (found_fails test p ys x) (test y) refl
  where
    by_test : (find test ys ≡ Some x → list_any p ys ≡ false → p x ≡ false) → (b : Bool) → test y ≡ b → p x ≡ false
    by_test further true k =
        let same : y ≡ x = same_Some y x (sym (ap (λ b. cond b (Some y) (find test ys)) k) ∙ e) in
        sym (ap p same) ∙ (or_parts _ _ h).0
    by_test further false k = further (sym (ap (λ b. cond b (Some y) (find test ys)) k) ∙ e) (or_parts _ _ h).1

-- ---- results by numbers of classes

-- one more result after others
pub yes_more : (P : ℕ → Type 0) (xs : List Bool) (b : Bool) → ((k : ℕ) → slice_get xs k ≡ Some true → P k) → (b ≡ true → P (length xs)) → (k : ℕ) → slice_get (xs ++ b ∷ []) k ≡ Some true → P k
yes_more P [] b h here zero e = here (same_Some b true e)
yes_more P [] b h here (suc k) e = absurd (none-some true e)
yes_more P (x ∷ xs) b h here zero e = h zero e
yes_more P (x ∷ xs) b h here (suc k) e = yes_more (λ j. P (suc j)) xs b (λ j. h (suc j)) here k e

-- one result changed to false
pub no_set : (P : ℕ → Type 0) (xs : List Bool) (i : ℕ) → ((n : ℕ) → slice_get xs n ≡ Some false → P n) → P i → (n : ℕ) → slice_get (slice_set xs i false) n ≡ Some false → P n
no_set P [] i h here n e = h n e
no_set P (x ∷ xs) zero h here zero e = here
no_set P (x ∷ xs) zero h here (suc n) e = h (suc n) e
no_set P (x ∷ xs) (suc i) h here zero e = h zero e
no_set P (x ∷ xs) (suc i) h here (suc n) e = no_set (λ j. P (suc j)) xs i (λ j. h (suc j)) here n e

-- at first each is yes
pub none_no : (m n : ℕ) → slice_get (replicate m true) n ≡ Some false → ⊥
none_no zero n e = none-some false e
none_no (suc m) zero e = not_both (same_Some true false e)
none_no (suc m) (suc n) e = none_no m n e

-- ---- one step along bases

pub any_next : (p : ℕ → Bool) (bases : List (Option ℕ)) (left : ℕ) (next : Option ℕ) (class : ℕ) → next ≡ Some class → 0 < left → list_any p (line_within bases left next) ≡ p class || list_any p (line_within bases (left - 1) (base_in bases class))
any_next p bases left next class e h = ap (λ o. list_any p (line_within bases left o)) e ∙ ap (list_any p) (line_step bases left class h)

pub nonvirtual_next : (tree : Tree) (k : MethodIdentity) (bases : List (Option ℕ)) (left : ℕ) (next : Option ℕ) (class : ℕ) → next ≡ Some class → 0 < left →
    concrete_by_id tree k (line_within bases left next) ≡ option_map_or (λ (m : Method). not (is_virtual m.kind)) (method_found tree k class) (concrete_by_id tree k (line_within bases (left - 1) (base_in bases class)))
nonvirtual_next tree k bases left next class e h = ap (λ o. concrete_by_id tree k (line_within bases left o)) e ∙ ap (concrete_by_id tree k) (line_step bases left class h)

-- the test of a class that is found, by its number and index
pub of_pair : (g : ℕ → Bool) (o : Option MethodId) → option_map_or (λ m. g m.class) o false ≡ option_map_or (λ (p : ℕ × ℕ). g p.0) (option_map (λ m. (m.class, m.index)) o) false
of_pair g None = refl
of_pair g (Some m) = refl

-- what the class that a name refers to declares
pub methods_of_number : (tree : Tree) (c : ClassName) (n : ℕ) → class_number tree c ≡ Some n → methods_declared tree c ≡ methods_at tree n
methods_of_number tree c n e =
    let found : FoundAt tree c n = found_at tree c n e in
    ap (listed_by (λ d. d.methods)) found.1 ∙ sym (ap (λ o. option_map_or (λ (x : ClassName × Declaration). x.1.methods) o []) found.2)

module _ (tree : Tree) (k : MethodIdentity) where
  abbrev is_it : Method → Bool
  is_it m = same_identity k (identity_of m)

  -- ---- a method is found where it has an index

  found_without : (n : ℕ) → method_index tree k n ≡ None → method_found tree k n ≡ None
  found_without n e = by_entry (slice_get (declarations tree) n) e
    where
      by_entry : (o : Option (ClassName × Declaration)) → option_and_then (λ (x : ClassName × Declaration). position_from is_it 0 x.1.methods) o ≡ None → option_and_then (λ (x : ClassName × Declaration). find is_it x.1.methods) o ≡ None
      by_entry None h = refl
      by_entry (Some x) h = found_none is_it x.1.methods h

  -- the class, and the method at the index
  found_with : (n p : ℕ) → method_index tree k n ≡ Some p → (e : ClassName × Declaration) × (m : Method) × (slice_get (declarations tree) n ≡ Some e) × (slice_get e.1.methods p ≡ Some m) × (method_found tree k n ≡ Some m)
  found_with n p h = by_entry (slice_get (declarations tree) n) refl h
    where
      lost : (e : ClassName × Declaration) → option_map Some (find is_it e.1.methods) ≡ Some (slice_get e.1.methods p) → find is_it e.1.methods ≡ None → ⊥
      lost e g r = none-some (slice_get e.1.methods p) (sym (ap (option_map Some) r) ∙ g)

      by_find : (e : ClassName × Declaration) → slice_get (declarations tree) n ≡ Some e → position_from is_it 0 e.1.methods ≡ Some p → (o : Option Method) → find is_it e.1.methods ≡ o →
          (e : ClassName × Declaration) × (m : Method) × (slice_get (declarations tree) n ≡ Some e) × (slice_get e.1.methods p ≡ Some m) × (method_found tree k n ≡ Some m)
      by_find e q g None r = absurd (lost e (sym (found_at_index is_it e.1.methods) ∙ ap (option_map (slice_get e.1.methods)) g) r)
      by_find e q g (Some m) r = (e, m, q, found_some is_it e.1.methods p g ∙ r, ap (option_and_then (λ (x : ClassName × Declaration). find is_it x.1.methods)) q ∙ r)

      by_entry : (o : Option (ClassName × Declaration)) → slice_get (declarations tree) n ≡ o → option_and_then (λ (x : ClassName × Declaration). position_from is_it 0 x.1.methods) o ≡ Some p →
          (e : ClassName × Declaration) × (m : Method) × (slice_get (declarations tree) n ≡ Some e) × (slice_get e.1.methods p ≡ Some m) × (method_found tree k n ≡ Some m)
      by_entry None q g = absurd (none-some p g)
      by_entry (Some e) q g = by_find e q g (find is_it e.1.methods) refl

  -- ---- a test of the nearest method

  module _ (t : Method → Bool) where
    abbrev nearest_passes : List ℕ → Bool
    nearest_passes [] = false
    nearest_passes (n ∷ ns) = option_map_or t (method_found tree k n) (nearest_passes ns)

    pub tested : (ns : List ℕ) → nearest_passes ns ≡ option_map_or (λ (p : ℕ × ℕ). option_map_or t (method_found tree k p.0) false) (nearest_number (method_index tree k) ns) false
    tested [] = refl
    tested (n ∷ ns) = by_index (tested ns) (method_index tree k n) refl
      where
        by_index : nearest_passes ns ≡ option_map_or (λ (p : ℕ × ℕ). option_map_or t (method_found tree k p.0) false) (nearest_number (method_index tree k) ns) false → (o : Option ℕ) → method_index tree k n ≡ o →
            option_map_or t (method_found tree k n) (nearest_passes ns) ≡ option_map_or (λ (p : ℕ × ℕ). option_map_or t (method_found tree k p.0) false) (option_map_or (λ p. Some (n, p)) o (nearest_number (method_index tree k) ns)) false
        by_index further None e = ap (λ f. option_map_or t f (nearest_passes ns)) (found_without n e) ∙ further
        by_index further (Some p) e =
            let found = found_with n p e in
            ap (λ f. option_map_or t f (nearest_passes ns)) found.4 ∙ sym (ap (λ f. option_map_or t f false) found.4)

    -- the marks of methods that pass
    pub marked : (ns : List ℕ) → is_marked (map (λ (e : ClassName × Declaration). map t e.1.methods) (declarations tree)) (nearest_number (method_index tree k) ns) ≡ nearest_passes ns
    marked [] = refl
    marked (n ∷ ns) = by_index (marked ns) (method_index tree k n) refl
      where
        by_index : is_marked (map (λ (e : ClassName × Declaration). map t e.1.methods) (declarations tree)) (nearest_number (method_index tree k) ns) ≡ nearest_passes ns → (o : Option ℕ) → method_index tree k n ≡ o →
            is_marked (map (λ (e : ClassName × Declaration). map t e.1.methods) (declarations tree)) (option_map_or (λ p. Some (n, p)) o (nearest_number (method_index tree k) ns)) ≡ option_map_or t (method_found tree k n) (nearest_passes ns)
        by_index further None e = further ∙ sym (ap (λ f. option_map_or t f (nearest_passes ns)) (found_without n e))
        by_index further (Some p) e =
            let found = found_with n p e in
            let row : slice_index_or (map (λ (x : ClassName × Declaration). map t x.1.methods) (declarations tree)) n [] ≡ map t found.0.1.methods = index_got (λ (x : ClassName × Declaration). map t x.1.methods) (declarations tree) n found.0 [] found.2 in
            ap (λ r. slice_index_or r p false) row ∙ index_got t found.0.1.methods p found.1 false found.3 ∙ sym (ap (λ f. option_map_or t f (nearest_passes ns)) found.4)

  pub nonvirtual_tested : (ns : List ℕ) → concrete_by_id tree k ns ≡ nearest_passes (λ (m : Method). not (is_virtual m.kind)) ns
  nonvirtual_tested [] = refl
  nonvirtual_tested (n ∷ ns) = ap (option_map_or (λ (m : Method). not (is_virtual m.kind)) (method_found tree k n)) (nonvirtual_tested ns)

  pub top_tested : (ns : List ℕ) → is_nearest_abstract tree k ns ≡ nearest_passes (λ (m : Method). is_abstract_method m.kind) ns
  top_tested [] = refl
  top_tested (n ∷ ns) = ap (option_map_or (λ (m : Method). is_abstract_method m.kind) (method_found tree k n)) (top_tested ns)

  -- ---- virtual methods

  filtered : (p : MethodIdentity → Bool) (xs : List MethodIdentity) → list_any (same_identity k) (filter p xs) ≡ list_any (same_identity k) xs && p k
  filtered p [] = refl
  filtered p (x ∷ xs) = by_tests (filtered p xs) (same_identity k x) refl (p x) refl
    where
      by_tests : list_any (same_identity k) (filter p xs) ≡ list_any (same_identity k) xs && p k → (a : Bool) → same_identity k x ≡ a → (b : Bool) → p x ≡ b →
          list_any (same_identity k) (cond b (x ∷ filter p xs) (filter p xs)) ≡ (a || list_any (same_identity k) xs) && p k
      by_tests further false e true h = ap (λ c. c || list_any (same_identity k) (filter p xs)) e ∙ further
      by_tests further false e false h = further
      by_tests further true e b h = by_own b h
        where
          own : p k ≡ p x
          own = ap p (same_identity_equal k x e)

          by_own : (b : Bool) → p x ≡ b → list_any (same_identity k) (cond b (x ∷ filter p xs) (filter p xs)) ≡ p k
          by_own true g = ap (λ c. c || list_any (same_identity k) (filter p xs)) e ∙ sym (own ∙ g)
          by_own false g = further ∙ ap (λ c. list_any (same_identity k) xs && c) (own ∙ g) ∙ and_false (list_any (same_identity k) xs) ∙ sym (own ∙ g)

  any_found : (ms : List Method) → list_any (same_identity k) (map identity_of ms) ≡ is_some (find is_it ms)
  any_found [] = refl
  any_found (m ∷ ms) = by_test (any_found ms) (is_it m)
    where
      by_test : list_any (same_identity k) (map identity_of ms) ≡ is_some (find is_it ms) → (b : Bool) → b || list_any (same_identity k) (map identity_of ms) ≡ is_some (cond b (Some m) (find is_it ms))
      by_test further true = refl
      by_test further false = further

  virtual_declared : (d : Declaration) → is_some (position_from (same_identity k) 0 (virtuals_of d)) ≡ has_virtual d k
  virtual_declared d =
      is_some-position_from (same_identity k) 0 (virtuals_of d) ∙ filtered (has_virtual d) (map identity_of d.methods) ∙ ap (λ b. b && has_virtual d k) (any_found d.methods) ∙ by_find (find is_it d.methods)
    where
      by_find : (o : Option Method) → is_some o && option_map_or (λ (m : Method). is_virtual m.kind) o false ≡ option_map_or (λ (m : Method). is_virtual m.kind) o false
      by_find None = refl
      by_find (Some m) = refl

  virtual_here : (n : ℕ) → is_some (virtual_index tree k n) ≡ is_virtual_found tree k n
  virtual_here n = by_entry (slice_get (declarations tree) n)
    where
      by_entry : (o : Option (ClassName × Declaration)) → is_some (option_and_then (λ (e : ClassName × Declaration). position_from (same_identity k) 0 (virtuals_of e.1)) o) ≡
          option_map_or (λ (m : Method). is_virtual m.kind) (option_and_then (λ (e : ClassName × Declaration). find is_it e.1.methods) o) false
      by_entry None = refl
      by_entry (Some e) = virtual_declared e.1

  pub virtual_on_line : (ns : List ℕ) → is_some (nearest_number (virtual_index tree k) ns) ≡ list_any (is_virtual_found tree k) ns
  virtual_on_line [] = refl
  virtual_on_line (n ∷ ns) = by_index (virtual_index tree k n) ∙ ap (λ b. b || is_some (nearest_number (virtual_index tree k) ns)) (virtual_here n) ∙ ap (λ b. is_virtual_found tree k n || b) (virtual_on_line ns)
    where
      by_index : (o : Option ℕ) → is_some (option_map_or (λ p. Some (n, p)) o (nearest_number (virtual_index tree k) ns)) ≡ is_some o || is_some (nearest_number (virtual_index tree k) ns)
      by_index None = refl
      by_index (Some p) = refl

  -- ---- hidden methods

  pub clear_nowhere : hides_abstract tree k (line_of tree None) ≡ false
  clear_nowhere = ap (hides_abstract tree k) (line_of_none (base_numbers tree) (longest_chain tree))

  pub stays_clear : (class : ℕ) (e : ClassName × Declaration) → slice_get (declarations tree) class ≡ Some e → Ends (base_numbers tree) (longest_chain tree) class → hides_abstract tree k (line_of tree (base_in (base_numbers tree) class)) ≡ false →
      list_any (hides_one tree (line_of tree (base_in (base_numbers tree) class))) e.1.methods ≡ false → hides_abstract tree k (line_of tree (Some class)) ≡ false
  stays_clear class e entry ends clear none = ap (hides_abstract tree k) step ∙ by_found (method_found tree k class) refl
    where
      step : line_of tree (Some class) ≡ class ∷ line_of tree (base_in (base_numbers tree) class)
      step = line_step (base_numbers tree) (longest_chain tree) class (omega arith) ∙ ap (λ ns. class ∷ ns) (line_of_base (base_numbers tree) (longest_chain tree) class (omega arith) ends)

      by_found : (o : Option Method) → method_found tree k class ≡ o →
          option_map_or (λ (m : Method). hides_abstract tree k (line_of tree (base_in (base_numbers tree) class)) || (not (is_override m) && is_nearest_abstract tree k (line_of tree (base_in (base_numbers tree) class)))) o (hides_abstract tree k (line_of tree (base_in (base_numbers tree) class))) ≡ false
      by_found None h = clear
      by_found (Some m) h =
          let found : find is_it e.1.methods ≡ Some m = sym (ap (option_and_then (λ (x : ClassName × Declaration). find is_it x.1.methods)) entry) ∙ h in
          let own : k ≡ identity_of m = same_identity_equal k (identity_of m) (find_passes is_it e.1.methods m found) in
          let fails : hides_one tree (line_of tree (base_in (base_numbers tree) class)) m ≡ false = found_fails is_it (hides_one tree (line_of tree (base_in (base_numbers tree) class))) e.1.methods m found none in
          or_from _ _ clear (ap (λ x. not (is_override m) && is_nearest_abstract tree x (line_of tree (base_in (base_numbers tree) class))) own ∙ fails)

  -- of a class of which it is known, or none
  pub clear_from : (may_hide : List Bool) → AreClear tree may_hide → (base : Option ℕ) → ((n : ℕ) → base ≡ Some n → slice_get may_hide n ≡ Some false) → hides_abstract tree k (line_of tree base) ≡ false
  clear_from may_hide clear None h = clear_nowhere
  clear_from may_hide clear (Some n) h = clear n k (h n refl)
