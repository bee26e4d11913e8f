-- A look-up by numbers finds what the look-up by names finds.
use Rattle.std.proofs.Common.{◌≡◌, ◌<◌, ◌-◌, ◌+◌, ℕ, zero, suc, Bool, true, false, cond, not, IsTrue, is_some, List, [], ◌∷◌, ◌++◌, map, Option, Some, None, option_map, option_and_then, slice_get, refl, sym, ap, subst, ◌∙◌, arith}
use Rattle.std.specs.Prelude.{find, filter_map}
use Rattle.std.specs.List.{position_from, cons_option}
use Rattle.std.specs.Option.{option_map_or}
use Rattle.cil_model.specs.declared.types.ClassName.{ClassName}
use Rattle.cil_model.specs.declared.trees.Tree.{Tree}
use Rattle.cil_model.specs.declared.trees.Class.{Class}
use Rattle.cil_model.specs.Same.{same_class}
use Rattle.cil_model.specs.Declarations.{Declaration, declaration_of, built_ins}
use Rattle.cil_model.specs.declared.instructions.FieldReference.{FieldReference}
use Rattle.cil_model.specs.declared.instructions.MethodReference.{MethodReference}
use Rattle.cil_model.specs.declared.trees.Field.{Field}
use Rattle.cil_model.specs.Chains.{nearest, listed_by, base_of, chain_within, chain_of, classes_searched, find_field, find_method}
use Rattle.name_tables.specs.Sameness.{MethodIdentity, same_field, same_call_identity, call_identity_of}
use Rattle.name_tables.specs.Numbers.{declarations, class_number, source_entry, nearest_number, member_at, index_in, field_at, method_at, field_number, method_number}
use Rattle.name_tables.proofs.Lists.{option_map_of_map}
use Rattle.cil_model.proofs.SameLaws.{class_equivalence, same_class_equal}
use Rattle.cil_model.proofs.Lists.{find_passes}
use Rattle.name_tables.specs.SamenessLaws.{field_equivalence, call_identity_equivalence}

pub none_is_some : {X : Type 0} (x : X) → None ≡ Some x → ⊥
none_is_some x e = cc

-- ---- indices in lists

pub position_from-suc : {X : Type 0} (test : X → Bool) (i : ℕ) (xs : List X) → position_from test (suc i) xs ≡ option_map suc (position_from test i xs)
position_from-suc test i [] = refl
position_from-suc test i (x ∷ xs) =
    let s : suc i + 1 ≡ suc (i + 1) = omega arith in
    elim (test x) as (λ b. cond b (Some (suc i)) (position_from test (suc i + 1) xs) ≡ option_map suc (cond b (Some i) (position_from test (i + 1) xs))) [ true ↦ refl | false ↦ ap (λ n. position_from test n xs) s ∙ position_from-suc test (i + 1) xs ]

-- the item at the index that is found
pub found_at_index : {X : Type 0} (test : X → Bool) (xs : List X) → option_map (slice_get xs) (position_from test 0 xs) ≡ option_map Some (find test xs)
found_at_index test [] = refl
found_at_index {X} test (x ∷ xs) = elim (test x) as (λ b. option_map (slice_get (x ∷ xs)) (cond b (Some 0) (position_from test 1 xs)) ≡ option_map Some (cond b (Some x) (find test xs))) [ true ↦ refl | false ↦ later (found_at_index test xs) ]
  where
    moved : (o : Option ℕ) → option_map (slice_get (x ∷ xs)) (option_map suc o) ≡ option_map (slice_get xs) o
    moved None = refl
    moved (Some p) = refl

    later : option_map (slice_get xs) (position_from test 0 xs) ≡ option_map Some (find test xs) → option_map (slice_get (x ∷ xs)) (position_from test 1 xs) ≡ option_map Some (find test xs)
    later further = ap (option_map (slice_get (x ∷ xs))) (position_from-suc test 0 xs) ∙ moved (position_from test 0 xs) ∙ further

-- nothing is found where no index is
pub found_none : {X : Type 0} (test : X → Bool) (xs : List X) → position_from test 0 xs ≡ None → find test xs ≡ None
found_none {X} test xs e = by_find (find test xs) (sym (ap (option_map (slice_get xs)) e) ∙ found_at_index test xs)
  where
    by_find : (o : Option X) → None ≡ option_map Some o → o ≡ None
    by_find None h = refl
    by_find (Some x) h = absurd (none_is_some (Some x) h)

-- what is found is at the index
pub found_some : {X : Type 0} (test : X → Bool) (xs : List X) (p : ℕ) → position_from test 0 xs ≡ Some p → slice_get xs p ≡ find test xs
found_some {X} test xs p e = by_find (find test xs) (sym (ap (option_map (slice_get xs)) e) ∙ found_at_index test xs)
  where
    by_find : (o : Option X) → Some (slice_get xs p) ≡ option_map Some o → slice_get xs p ≡ o
    by_find None h = absurd (none_is_some (slice_get xs p) (sym h))
    by_find (Some x) h = cc

pub find_congr : {X : Type 0} (test other : X → Bool) → ((x : X) → test x ≡ other x) → (xs : List X) → find test xs ≡ find other xs
find_congr test other same [] = refl
find_congr test other same (x ∷ xs) = ap (λ b. cond b (Some x) (find test xs)) (same x) ∙ ap (λ o. cond (other x) (Some x) o) (find_congr test other same xs)

pub find-map : {X Y : Type 0} (f : X → Y) (test : Y → Bool) (xs : List X) → find test (map f xs) ≡ option_map f (find (λ x. test (f x)) xs)
find-map f test [] = refl
find-map f test (x ∷ xs) = elim (test (f x)) as (λ b. cond b (Some (f x)) (find test (map f xs)) ≡ option_map f (cond b (Some x) (find (λ y. test (f y)) xs))) [ true ↦ refl | false ↦ find-map f test xs ]

pub find-append : {X : Type 0} (test : X → Bool) (xs ys : List X) → find test (xs ++ ys) ≡ cond (is_some (find test xs)) (find test xs) (find test ys)
find-append test [] ys = refl
find-append test (x ∷ xs) ys = elim (test x) as (λ b. cond b (Some x) (find test (xs ++ ys)) ≡ cond (is_some (cond b (Some x) (find test xs))) (cond b (Some x) (find test xs)) (find test ys)) [ true ↦ refl | false ↦ find-append test xs ys ]

find_none : {X : Type 0} (test : X → Bool) → ((x : X) → test x ≡ false) → (xs : List X) → find test xs ≡ None
find_none test none [] = refl
find_none test none (x ∷ xs) = ap (λ b. cond b (Some x) (find test xs)) (none x) ∙ find_none test none xs

pub position_from-map : {X Y : Type 0} (f : X → Y) (test : Y → Bool) (i : ℕ) (xs : List X) → position_from test i (map f xs) ≡ position_from (λ x. test (f x)) i xs
position_from-map f test i [] = refl
position_from-map f test i (x ∷ xs) = ap (λ o. cond (test (f x)) (Some i) o) (position_from-map f test (i + 1) xs)

module _ (tree : Tree) where
  abbrev entry_named : ClassName → ClassName × Declaration → Bool
  entry_named c e = same_class c e.0

  -- ---- a name refers to the class of its number

  abbrev bears : ClassName → ClassName × Declaration → Bool
  bears c e = same_class e.0 c

  or_none : {X : Type 0} (o : Option X) → cond (is_some o) o None ≡ o
  or_none None = refl
  or_none (Some x) = refl

  declared_at : (o : Option (List ℕ)) (n : List ℕ) →
      option_map (λ (e : ClassName × Declaration). e.1) (cond (is_some (find (bears (record { assembly = o; name = n })) built_ins)) (find (bears (record { assembly = o; name = n })) built_ins) (find (bears (record { assembly = o; name = n })) (map source_entry tree.classes))) ≡
      declaration_of tree (record { assembly = o; name = n })
  declared_at (Some a) n =
      let c : ClassName = record { assembly = Some a; name = n } in
      let none : find (bears c) (map source_entry tree.classes) ≡ None = find-map source_entry (bears c) tree.classes ∙ ap (option_map source_entry) (find_none (λ (k : Class). bears c (source_entry k)) (λ k. refl) tree.classes) in
      ap (λ o. option_map (λ (e : ClassName × Declaration). e.1) (cond (is_some (find (bears c) built_ins)) (find (bears c) built_ins) o)) none ∙ ap (option_map (λ (e : ClassName × Declaration). e.1)) (or_none (find (bears c) built_ins))
  declared_at None n =
      let c : ClassName = record { assembly = None; name = n } in
      ap (option_map (λ (e : ClassName × Declaration). e.1)) (find-map source_entry (bears c) tree.classes) ∙ option_map_of_map source_entry (λ (e : ClassName × Declaration). e.1) (find (λ (k : Class). bears c (source_entry k)) tree.classes)

  find_declared : (c : ClassName) → option_map (λ (e : ClassName × Declaration). e.1) (find (entry_named c) (declarations tree)) ≡ declaration_of tree c
  find_declared c =
      ap (option_map (λ (e : ClassName × Declaration). e.1)) (find_congr (entry_named c) (bears c) (λ e. class_equivalence.symm c e.0) (declarations tree) ∙ find-append (bears c) built_ins (map source_entry tree.classes)) ∙
      declared_at c.assembly c.name

  -- the class of a number, as its name finds it
  abbrev pub HasId : ClassName → Option ℕ → Type 0
  HasId c None = declaration_of tree c ≡ None
  HasId c (Some n) = (d : Declaration) × (declaration_of tree c ≡ Some d) × (slice_get (declarations tree) n ≡ Some (c, d))

  pub has_id : (c : ClassName) → HasId c (class_number tree c)
  has_id c = by_index (class_number tree c) (find (entry_named c) (declarations tree)) refl refl (found_at_index (entry_named c) (declarations tree))
    where
      named_itself : (e : ClassName × Declaration) → IsTrue (entry_named c e) → e ≡ (c, e.1)
      named_itself e h = λ i. (sym (same_class_equal c e.0 h) i, e.1)

      by_index : (o : Option ℕ) (f : Option (ClassName × Declaration)) → class_number tree c ≡ o → find (entry_named c) (declarations tree) ≡ f →
          option_map (slice_get (declarations tree)) o ≡ option_map Some f → HasId c o
      by_index None None p q e = sym (find_declared c) ∙ ap (option_map (λ (e : ClassName × Declaration). e.1)) q
      by_index (Some n) (Some d) p q e =
          let at : slice_get (declarations tree) n ≡ Some d = cc in
          (d.1, sym (find_declared c) ∙ ap (option_map (λ (e : ClassName × Declaration). e.1)) q, at ∙ ap Some (named_itself d (find_passes (entry_named c) (declarations tree) d q)))
      by_index None (Some d) p q e = absurd (lost e)
        where
          lost : None ≡ Some (Some d) → ⊥
          lost h = cc
      by_index (Some n) None p q e = absurd (lost e)
        where
          lost : Some (slice_get (declarations tree) n) ≡ None → ⊥
          lost h = cc

  pub declared_at_none : (c : ClassName) → class_number tree c ≡ None → declaration_of tree c ≡ None
  declared_at_none c e = subst (HasId c) e (has_id c)

  pub declared_at_number : (c : ClassName) (n : ℕ) → class_number tree c ≡ Some n → option_map (λ (e : ClassName × Declaration). e.1) (slice_get (declarations tree) n) ≡ declaration_of tree c
  declared_at_number c n e =
      let found : (d : Declaration) × (declaration_of tree c ≡ Some d) × (slice_get (declarations tree) n ≡ Some (c, d)) = subst (HasId c) e (has_id c) in
      ap (option_map (λ (e : ClassName × Declaration). e.1)) found.2 ∙ sym found.1

  -- ---- along a chain

  module _ {X : Type 0} (at : ClassName → Option X) (index : ℕ → Option ℕ) (member : ℕ × ℕ → Option (ClassName × X))
      (absent : (c : ClassName) → declaration_of tree c ≡ None → at c ≡ None)
      (present : (c : ClassName) (d : Declaration) (n : ℕ) → declaration_of tree c ≡ Some d → slice_get (declarations tree) n ≡ Some (c, d) → option_map (λ p. member (n, p)) (index n) ≡ option_map (λ x. Some (c, x)) (at c)) where
    pub nearest_has_id : (cs : List ClassName) → option_map member (nearest_number index (filter_map (class_number tree) cs)) ≡ option_map Some (nearest at cs)
    nearest_has_id [] = refl
    nearest_has_id (c ∷ cs) = by_number (nearest_has_id cs) (class_number tree c) (has_id c)
      where
        by_found : option_map member (nearest_number index (filter_map (class_number tree) cs)) ≡ option_map Some (nearest at cs) → (n : ℕ) (o : Option ℕ) (f : Option X) → option_map (λ p. member (n, p)) o ≡ option_map (λ x. Some (c, x)) f →
            option_map member (option_map_or (λ p. Some (n, p)) o (nearest_number index (filter_map (class_number tree) cs))) ≡ option_map Some (option_map_or (λ x. Some (c, x)) f (nearest at cs))
        by_found further n None None e = further
        by_found further n (Some p) (Some x) e = e
        by_found further n None (Some x) e = absurd (none_is_some _ e)
        by_found further n (Some p) None e = absurd (none_is_some _ (sym e))

        by_number : option_map member (nearest_number index (filter_map (class_number tree) cs)) ≡ option_map Some (nearest at cs) → (o : Option ℕ) → HasId c o →
            option_map member (nearest_number index (cons_option o (filter_map (class_number tree) cs))) ≡ option_map Some (nearest at (c ∷ cs))
        by_number further None e = further ∙ sym (ap (λ f. option_map Some (option_map_or (λ x. Some (c, x)) f (nearest at cs))) (absent c e))
        by_number further (Some n) (d, e, k) = by_found further n (index n) (at c) (present c d n e k)

  -- a class's member at the index that its key finds
  module _ {X : Type 0} (part : Declaration → List X) (own test : X → Bool) (same : (x : X) → own x ≡ test x) where
    abbrev in_class : ClassName → Option X
    in_class c = find test (listed_by part (declaration_of tree c))

    pub in_absent : (c : ClassName) → declaration_of tree c ≡ None → in_class c ≡ None
    in_absent c e = ap (λ d. find test (listed_by part d)) e

    pub in_present : (c : ClassName) (d : Declaration) (n : ℕ) → declaration_of tree c ≡ Some d → slice_get (declarations tree) n ≡ Some (c, d) →
        option_map (λ p. member_at part tree (n, p)) (index_in part own tree n) ≡ option_map (λ x. Some (c, x)) (in_class c)
    in_present c d n e k =
        let named : X → ClassName × X = λ x. (c, x) in
        let member_is : option_map (λ p. member_at part tree (n, p)) (index_in part own tree n) ≡ option_map (λ p. option_map named (slice_get (part d) p)) (position_from own 0 (part d)) =
        ap (λ (z : Option (ClassName × Declaration)). option_map (λ p. option_and_then (λ (y : ClassName × Declaration). option_map (λ x. (y.0, x)) (slice_get (part y.1) p)) z) (option_and_then (λ (y : ClassName × Declaration). position_from own 0 (part y.1)) z)) k in
        member_is ∙ sym (option_map_of_map (slice_get (part d)) (option_map named) (position_from own 0 (part d))) ∙ ap (option_map (option_map named)) (found_at_index own (part d)) ∙
        option_map_of_map Some (option_map named) (find own (part d)) ∙ ap (option_map (λ x. Some (named x))) (find_congr own test same (part d)) ∙
        sym (ap (λ z. option_map (λ x. Some (named x)) (find test (listed_by part z))) e)

  -- ---- fields and methods

  pub field_has_id : (is_static : Bool) (r : FieldReference) → option_map (field_at tree) (field_number tree is_static r) ≡ option_map Some (find_field tree is_static r)
  field_has_id is_static r =
      let f : Field = record { is_static = is_static; field_type = r.field_type; name = r.name } in
      nearest_has_id _ (index_in (λ d. d.fields) (same_field f) tree) (field_at tree)
      (in_absent (λ d. d.fields) (same_field f) (λ g. same_field g f) (λ g. field_equivalence.symm f g))
      (in_present (λ d. d.fields) (same_field f) (λ g. same_field g f) (λ g. field_equivalence.symm f g)) (chain_of tree r.owner)

  pub method_has_id : (is_instance : Bool) (r : MethodReference) → option_map (method_at tree) (method_number tree is_instance r) ≡ option_map Some (find_method tree is_instance r)
  method_has_id is_instance r =
      let k : MethodIdentity × Bool = (record { name = r.name; signature = r.signature }, not is_instance) in
      nearest_has_id _ (index_in (λ d. d.methods) (λ m. same_call_identity k (call_identity_of m)) tree) (method_at tree)
      (in_absent (λ d. d.methods) (λ m. same_call_identity k (call_identity_of m)) (λ m. same_call_identity (call_identity_of m) k) (λ m. call_identity_equivalence.symm k (call_identity_of m)))
      (in_present (λ d. d.methods) (λ m. same_call_identity k (call_identity_of m)) (λ m. same_call_identity (call_identity_of m) k) (λ m. call_identity_equivalence.symm k (call_identity_of m))) (classes_searched tree r.name r.owner)

  -- ---- the numbers of a chain

  abbrev pub numbers_within : ℕ → Option ClassName → List ℕ
  numbers_within m o = filter_map (class_number tree) (chain_within tree m o)

  pub numbers_of_none : (m : ℕ) → numbers_within m None ≡ []
  numbers_of_none zero = refl
  numbers_of_none (suc m) = refl

  pub numbers_of_unknown : (m : ℕ) (c : ClassName) → class_number tree c ≡ None → numbers_within m (Some c) ≡ []
  numbers_of_unknown zero c e = refl
  numbers_of_unknown (suc m) c e =
      let absent : declaration_of tree c ≡ None = subst (HasId c) e (has_id c) in
      ap (λ o. cons_option o (numbers_within m (base_of tree c))) e ∙ ap (λ d. numbers_within m (option_and_then (λ (x : Declaration). x.base) d)) absent ∙ numbers_of_none m

  abbrev pub base_at : ℕ → Option ClassName
  base_at n = option_and_then (λ (e : ClassName × Declaration). e.1.base) (slice_get (declarations tree) n)

  pub numbers_of_known : (m : ℕ) (c : ClassName) (n : ℕ) → 0 < m → class_number tree c ≡ Some n → numbers_within m (Some c) ≡ n ∷ numbers_within (m - 1) (base_at n)
  numbers_of_known zero c n h e = absurd (omega (arith, h))
  numbers_of_known (suc m) c n h e =
      let found : (d : Declaration) × (declaration_of tree c ≡ Some d) × (slice_get (declarations tree) n ≡ Some (c, d)) = subst (HasId c) e (has_id c) in
      let base : base_of tree c ≡ base_at n = ap (option_and_then (λ (d : Declaration). d.base)) found.1 ∙ sym (ap (option_and_then (λ (y : ClassName × Declaration). y.1.base)) found.2) in
      let k : suc m - 1 ≡ m = omega arith in
      ap (λ o. cons_option o (numbers_within m (base_of tree c))) e ∙ ap (λ b. n ∷ numbers_within m b) base ∙ ap (λ x. n ∷ numbers_within x (base_at n)) (sym k)
