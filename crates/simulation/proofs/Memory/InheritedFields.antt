-- The chain of a class ends with the chain of each class in it, so an object's fields begin with those of each class in its chain.
use Rattle.std.proofs.Common.{◌≡◌, ◌⊎◌, ℕ, zero, suc, Bool, true, false, cond, ◌&&◌, ◌||◌, IsTrue, if◌then◌else◌, List, [], ◌∷◌, ◌++◌, map, find, filter, flat_map, reverse, Option, Some, None, refl, inl, inr, sym, ap, ◌∙◌, subst}
use Rattle.std.specs.List.{list_any}
use Rattle.std.proofs.lemmas.Bool.{or_left, or_right}
use Rattle.std.proofs.lemmas.List.{reverse-append}
use Rattle.std.proofs.lemmas.List.Folds.{list_any-append}
use Rattle.std.proofs.lemmas.Grind.{flat_map-append}
use Rattle.std.proofs.lemmas.Option.{same_Some}
use Rattle.interpreter.specs.cil_model.declared.types.ClassName.{ClassName}
use Rattle.interpreter.specs.cil_model.declared.types.DeclaredType.{DeclaredType}
use Rattle.interpreter.specs.cil_model.declared.trees.Tree.{Tree}
use Rattle.interpreter.specs.cil_model.declared.trees.Field.{Field}
use Rattle.interpreter.specs.cil_model.Same.{same_class, same_text, same_flag}
use Rattle.interpreter.specs.cil_model.Declarations.{object_name, thread_name}
use Rattle.interpreter.specs.cil_model.Chains.{base_of, chain_within, longest_chain, chain_of, is_thread_class, fields_declared}
use Rattle.interpreter.specs.cil_model.Fields.{FieldKey, same_key, keyed_fields, instance_fields}
use Rattle.interpreter.specs.cil_model.Legality.{IsLegal}
use Rattle.interpreter.proofs.cil_model.CompleteLaws.{chain_of_base}
use Rattle.interpreter.proofs.cil_model.Lists.{none_is_some}
use Rattle.interpreter.proofs.cil_model.SameLaws.{either, same_class_equal, same_class_itself, same_text_itself, class_equivalence, never}
use Rattle.interpreter.specs.reference_machine.States.{entry_at}
use Rattle.interpreter.proofs.reference_machine.Programs.DeclaredFields.{entry_after}

-- ---- lists

-- a list has what it has reversed
any_reversed : {X : Type 0} (p : X → Bool) (xs : List X) → list_any p (reverse xs) ≡ list_any p xs
any_reversed p [] = refl
any_reversed p (x ∷ xs) = ap (list_any p) (reverse-append (x ∷ []) xs) ∙ list_any-append p (reverse xs) (x ∷ []) ∙ ap (λ b. b || (p x || false)) (any_reversed p xs) ∙ turned (list_any p xs) (p x)
  where
    turned : (a b : Bool) → (a || (b || false)) ≡ (b || a)
    turned true true = refl
    turned _ _ = refl

-- an instance field of a class
abbrev pub keyed : ClassName → Field → FieldKey × DeclaredType
keyed c f = (record { declared_in = c; name = f.name }, f.field_type)

-- whether the field has the key
abbrev pub has_key : FieldKey → FieldKey × DeclaredType → Bool
has_key k y = same_key y.0 k

-- an entry among the first ones is that of all
pub entry_of_first : (k : FieldKey) (fs gs : List (FieldKey × DeclaredType)) → IsTrue (list_any (has_key k) fs) → entry_at same_key k (fs ++ gs) ≡ entry_at same_key k fs
entry_of_first k [] gs h = never h
entry_of_first k (f ∷ fs) gs h = by_test (same_key f.0 k) h (entry_of_first k fs gs)
  where
    by_test : (b : Bool) → IsTrue (b || list_any (has_key k) fs) → (IsTrue (list_any (has_key k) fs) → entry_at same_key k (fs ++ gs) ≡ entry_at same_key k fs) → (if b then Some f.1 else entry_at same_key k (fs ++ gs)) ≡ (if b then Some f.1 else entry_at same_key k fs)
    by_test true here later = refl
    by_test false there later = later there

-- a field that a look-up finds is among a class's own
own_key : (d : ClassName) (flag : Bool) (p : Field → Bool) (g : Field) (fs : List Field) → find p fs ≡ Some g → IsTrue (same_flag g.is_static flag) → IsTrue (list_any (has_key (record { declared_in = d; name = g.name })) (map (keyed d) (filter (λ (f : Field). same_flag f.is_static flag) fs)))
own_key d flag p g [] found flagged = none_is_some g found
own_key d flag p g (f ∷ fs) found flagged = by_test (p f) found (λ rest. own_key d flag p g fs rest flagged)
  where
    by_flag : (b : Bool) → IsTrue (list_any (has_key (record { declared_in = d; name = g.name })) (map (keyed d) (filter (λ (x : Field). same_flag x.is_static flag) fs))) →
        IsTrue (list_any (has_key (record { declared_in = d; name = g.name })) (map (keyed d) (cond b (f ∷ filter (λ (x : Field). same_flag x.is_static flag) fs) (filter (λ (x : Field). same_flag x.is_static flag) fs))))
    by_flag true later = or_right (has_key (record { declared_in = d; name = g.name }) (keyed d f)) _ later
    by_flag false later = later

    here : f ≡ g → (b : Bool) → same_flag f.is_static flag ≡ b → IsTrue (list_any (has_key (record { declared_in = d; name = g.name })) (map (keyed d) (cond b (f ∷ filter (λ (x : Field). same_flag x.is_static flag) fs) (filter (λ (x : Field). same_flag x.is_static flag) fs))))
    here same true is =
        or_left (has_key (record { declared_in = d; name = g.name }) (keyed d f)) _
        (ap (λ b. b && same_text f.name g.name) (same_class_itself d) ∙ subst (λ (x : Field). IsTrue (same_text x.name g.name)) (sym same) (same_text_itself g.name))
    here same false is = never (sym is ∙ subst (λ (x : Field). IsTrue (same_flag x.is_static flag)) (sym same) flagged)

    by_test : (b : Bool) → cond b (Some f) (find p fs) ≡ Some g → (find p fs ≡ Some g → IsTrue (list_any (has_key (record { declared_in = d; name = g.name })) (map (keyed d) (filter (λ (x : Field). same_flag x.is_static flag) fs)))) →
        IsTrue (list_any (has_key (record { declared_in = d; name = g.name })) (map (keyed d) (cond (same_flag f.is_static flag) (f ∷ filter (λ (x : Field). same_flag x.is_static flag) fs) (filter (λ (x : Field). same_flag x.is_static flag) fs))))
    by_test true e later = here (same_Some f g e) (same_flag f.is_static flag) refl
    by_test false e later = by_flag (same_flag f.is_static flag) (later e)

module _ (tree : Tree) where
  -- a field of one class of many is a field of them
  in_many : {X : Type 0} (name_of : X → ClassName) (flag : Bool) (k : FieldKey) → IsTrue (list_any (has_key k) (keyed_fields tree flag k.declared_in)) → (xs : List X) → IsTrue (list_any (λ x. same_class k.declared_in (name_of x)) xs) →
      IsTrue (list_any (has_key k) (flat_map (λ x. keyed_fields tree flag (name_of x)) xs))
  in_many name_of flag k own [] h = never h
  in_many {X} name_of flag k own (x ∷ xs) h =
      list_any-append (has_key k) (keyed_fields tree flag (name_of x)) (flat_map (λ y. keyed_fields tree flag (name_of y)) xs) ∙ by_case (either (same_class k.declared_in (name_of x)) _ h) (in_many name_of flag k own xs)
    where
      by_case : IsTrue (same_class k.declared_in (name_of x)) ⊎ IsTrue (list_any (λ y. same_class k.declared_in (name_of y)) xs) → (IsTrue (list_any (λ y. same_class k.declared_in (name_of y)) xs) → IsTrue (list_any (has_key k) (flat_map (λ y. keyed_fields tree flag (name_of y)) xs))) →
          IsTrue (list_any (has_key k) (keyed_fields tree flag (name_of x)) || list_any (has_key k) (flat_map (λ y. keyed_fields tree flag (name_of y)) xs))
      by_case (inl same) later = or_left _ _ (subst (λ c. IsTrue (list_any (has_key k) (keyed_fields tree flag c))) (same_class_equal k.declared_in (name_of x) same) own)
      by_case (inr there) later = or_right _ _ (later there)

  -- and a field of many is of one of them
  of_many : (k : FieldKey) (t : DeclaredType) (xs : List ClassName) → entry_at same_key k (flat_map (keyed_fields tree false) xs) ≡ Some t → IsTrue (list_any (same_class k.declared_in) xs)
  of_many k t [] h = none_is_some t h
  of_many k t (x ∷ xs) h = by_test (same_class x k.declared_in) refl (of_many k t xs)
    where
      by_test : (b : Bool) → same_class x k.declared_in ≡ b → (entry_at same_key k (flat_map (keyed_fields tree false) xs) ≡ Some t → IsTrue (list_any (same_class k.declared_in) xs)) → IsTrue (list_any (same_class k.declared_in) (x ∷ xs))
      by_test true is later = or_left (same_class k.declared_in x) (list_any (same_class k.declared_in) xs) (class_equivalence.symm k.declared_in x ∙ is)
      by_test false is later =
          or_right (same_class k.declared_in x) (list_any (same_class k.declared_in) xs) (later (sym (entry_after k x (filter (λ (f : Field). same_flag f.is_static false) (fields_declared tree x)) (flat_map (keyed_fields tree false) xs) is) ∙ h))

  -- the class of an object's field is in its chain
  pub chain_of_field : (k : FieldKey) (t : DeclaredType) (c : ClassName) → entry_at same_key k (instance_fields tree c) ≡ Some t → IsTrue (list_any (same_class k.declared_in) (chain_of tree c))
  chain_of_field k t c h = sym (any_reversed (same_class k.declared_in) (chain_of tree c)) ∙ of_many k t (reverse (chain_of tree c)) h

  -- a field that a look-up finds in a class is among the fields of the class's objects
  pub among_own : (d : ClassName) (p : Field → Bool) (g : Field) → find p (fields_declared tree d) ≡ Some g → IsTrue (same_flag g.is_static false) → IsTrue (list_any (has_key (record { declared_in = d; name = g.name })) (instance_fields tree d))
  among_own d p g found flagged =
      in_many (λ x. x) false (record { declared_in = d; name = g.name }) (own_key d false p g (fields_declared tree d) found flagged) (reverse (chain_of tree d))
      (any_reversed (same_class d) (chain_of tree d) ∙ or_left (same_class d d) _ (same_class_itself d))

  -- ---- chains

  -- nothing is above what has no base
  none_in : (n : ℕ) (d : ClassName) → IsTrue (list_any (same_class d) (chain_within tree n None)) → ⊥
  none_in zero d h = never h
  none_in (suc n) d h = never h

  -- System.Object's chain is itself
  only_object : (n : ℕ) (d : ClassName) → IsTrue (list_any (same_class d) (chain_within tree n (Some object_name))) → d ≡ object_name
  only_object zero d h = never h
  only_object (suc n) d h = by_case (either (same_class d object_name) (list_any (same_class d) (chain_within tree n None)) h)
    where
      by_case : IsTrue (same_class d object_name) ⊎ IsTrue (list_any (same_class d) (chain_within tree n None)) → d ≡ object_name
      by_case (inl same) = same_class_equal d object_name same
      by_case (inr there) = elim (none_in n d there) [ ]

  -- it has no field
  pub no_field_of_object : (d : ClassName) (p : Field → Bool) (g : Field) → find p (fields_declared tree d) ≡ Some g → d ≡ object_name → ⊥
  no_field_of_object d p g found is = none_is_some g (subst (λ c. find p (fields_declared tree c) ≡ Some g) is found)

  module _ (legal : IsLegal tree) where
    -- the chain of a class ends with that of each class in it
    ends_with : (n : ℕ) (c d : ClassName) → IsTrue (list_any (same_class d) (chain_within tree n (Some c))) → (front : List ClassName) × (chain_of tree c ≡ front ++ chain_of tree d)
    ends_with zero c d h = never h
    ends_with (suc n) c d h = by_case (either (same_class d c) (list_any (same_class d) (chain_within tree n (base_of tree c))) h) (λ b. ends_with n b d)
      where
        by_base : (b : Option ClassName) → base_of tree c ≡ b → IsTrue (list_any (same_class d) (chain_within tree n b)) →
            ((b : ClassName) → IsTrue (list_any (same_class d) (chain_within tree n (Some b))) → (front : List ClassName) × (chain_of tree b ≡ front ++ chain_of tree d)) → (front : List ClassName) × (chain_of tree c ≡ front ++ chain_of tree d)
        by_base None is there later = elim (none_in n d there) [ ]
        by_base (Some b) is there later = let further = later b there in (c ∷ further.0, chain_of_base tree legal c b is ∙ ap (λ cs. c ∷ cs) further.1)

        by_case : IsTrue (same_class d c) ⊎ IsTrue (list_any (same_class d) (chain_within tree n (base_of tree c))) →
            ((b : ClassName) → IsTrue (list_any (same_class d) (chain_within tree n (Some b))) → (front : List ClassName) × (chain_of tree b ≡ front ++ chain_of tree d)) → (front : List ClassName) × (chain_of tree c ≡ front ++ chain_of tree d)
        by_case (inl same) later = ([], ap (chain_of tree) (sym (same_class_equal d c same)))
        by_case (inr there) later = by_base (base_of tree c) refl there later

    -- a class of a thread class's chain is one too, unless it is System.Object
    thread_below : (n : ℕ) (c d : ClassName) → IsTrue (list_any (same_class d) (chain_within tree n (Some c))) → (d ≡ object_name → ⊥) → IsTrue (is_thread_class tree c) → IsTrue (is_thread_class tree d)
    thread_below zero c d h no_object thread = never h
    thread_below (suc n) c d h no_object thread = by_case (either (same_class d c) (list_any (same_class d) (chain_within tree n (base_of tree c))) h) (λ b there. thread_below n b d there no_object)
      where
        of_base : (b : ClassName) → base_of tree c ≡ Some b → IsTrue (list_any (same_class d) (chain_within tree n (Some b))) → IsTrue (same_class thread_name c) ⊎ IsTrue (list_any (same_class thread_name) (chain_of tree b)) →
            (IsTrue (is_thread_class tree b) → IsTrue (is_thread_class tree d)) → IsTrue (is_thread_class tree d)
        of_base b is there (inl same) later =
            let own : thread_name ≡ c = same_class_equal thread_name c same in
            let object : Some object_name ≡ Some b = ap (base_of tree) own ∙ is in
            elim (no_object (only_object n d (subst (λ x. IsTrue (list_any (same_class d) (chain_within tree n (Some x)))) (sym (same_Some object_name b object)) there))) [ ]
        of_base b is there (inr above) later = later above

        by_base : (b : Option ClassName) → base_of tree c ≡ b → IsTrue (list_any (same_class d) (chain_within tree n b)) →
            ((b : ClassName) → IsTrue (list_any (same_class d) (chain_within tree n (Some b))) → IsTrue (is_thread_class tree b) → IsTrue (is_thread_class tree d)) → IsTrue (is_thread_class tree d)
        by_base None is there later = elim (none_in n d there) [ ]
        by_base (Some b) is there later =
            of_base b is there (either (same_class thread_name c) (list_any (same_class thread_name) (chain_of tree b)) (subst (λ cs. IsTrue (list_any (same_class thread_name) cs)) (chain_of_base tree legal c b is) thread)) (later b there)

        by_case : IsTrue (same_class d c) ⊎ IsTrue (list_any (same_class d) (chain_within tree n (base_of tree c))) →
            ((b : ClassName) → IsTrue (list_any (same_class d) (chain_within tree n (Some b))) → IsTrue (is_thread_class tree b) → IsTrue (is_thread_class tree d)) → IsTrue (is_thread_class tree d)
        by_case (inl same) later = subst (λ x. IsTrue (is_thread_class tree x)) (sym (same_class_equal d c same)) thread
        by_case (inr there) later = by_base (base_of tree c) refl there later

    module _ (c d : ClassName) (inside : IsTrue (list_any (same_class d) (chain_of tree c))) where
      front : (front : List ClassName) × (chain_of tree c ≡ front ++ chain_of tree d)
      front = ends_with (longest_chain tree) c d inside

      -- an object's fields begin with those of each class in its chain
      pub fields_begin : (more : List (FieldKey × DeclaredType)) × (instance_fields tree c ≡ instance_fields tree d ++ more)
      fields_begin = (
        flat_map (keyed_fields tree false) (reverse front.0),
        ap (λ cs. flat_map (keyed_fields tree false) (reverse cs)) front.1 ∙ ap (flat_map (keyed_fields tree false)) (reverse-append front.0 (chain_of tree d)) ∙ flat_map-append (keyed_fields tree false) (reverse (chain_of tree d)) (reverse front.0),
      )

      -- both have a hidden slot, or neither
      pub same_thread : (d ≡ object_name → ⊥) → is_thread_class tree c ≡ is_thread_class tree d
      same_thread no_object = by_both (is_thread_class tree c) (is_thread_class tree d) refl refl
        where
          by_both : (a b : Bool) → is_thread_class tree c ≡ a → is_thread_class tree d ≡ b → a ≡ b
          by_both true false is is' = never (sym is' ∙ thread_below (longest_chain tree) c d inside no_object is)
          by_both false true is is' =
              never (sym is ∙ (ap (list_any (same_class thread_name)) front.1 ∙ list_any-append (same_class thread_name) front.0 (chain_of tree d) ∙ or_right (list_any (same_class thread_name) front.0) (list_any (same_class thread_name) (chain_of tree d)) is'))
          by_both _ _ is is' = refl
