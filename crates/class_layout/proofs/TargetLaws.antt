-- Targets by numbers are those by names.
use Rattle.std.proofs.Common.{◌≡◌, ◌==◌, ℕ, Bool, true, false, cond, ◌&&◌, List, [], ◌∷◌, map, Option, Some, None, option_map, option_and_then, slice_get, unwrap_or, if◌then◌else◌, refl, sym, ap, subst, ◌∙◌}
use Rattle.std.specs.Prelude.{find, filter_map}
use Rattle.std.specs.List.{list_any, cons_option}
use Rattle.std.specs.Option.{option_map_or}
use Rattle.std.proofs.lemmas.Option.{slice_get-map}
use Rattle.cil_model.specs.declared.types.ClassName.{ClassName}
use Rattle.cil_model.specs.declared.trees.Tree.{Tree}
use Rattle.cil_model.specs.declared.trees.Method.{Method}
use Rattle.cil_model.specs.declared.trees.MethodKind.{MethodKind}
use Rattle.cil_model.specs.declared.trees.MethodKind.TheVariants.{Static}
use Rattle.cil_model.specs.Same.{same_class, same_options, same_flag}
use Rattle.cil_model.specs.Declarations.{Declaration}
use Rattle.cil_model.specs.Chains.{listed_by, chain_of, methods_declared, method_declared, interfaces_declared, is_interface, nearest, is_static, is_virtual, is_new_slot_method}
use Rattle.cil_model.specs.Slots.{slot_filled, slot_along, implementation_along, class_target, virtual_in, implementer_along, interface_target, target}
use Rattle.cil_model.specs.Legality.{IsLegal}
use Rattle.cil_model.proofs.SameLaws.{never}
use Rattle.name_tables.specs.Sameness.{MethodIdentity, same_identity, identity_of, same_call_identity, call_identity_of}
use Rattle.name_tables.specs.SamenessLaws.{identity_equivalence}
use Rattle.name_tables.specs.Numbers.{declarations, class_number, chain_numbers, method_at, index_in, method_found}
use Rattle.name_tables.specs.declared.ids.MethodId.{MethodId}
use Rattle.name_tables.proofs.NumberLaws.{none_is_some, in_present}
use Rattle.name_tables.proofs.Lists.{option_map_of_map}
use Rattle.resolved_code.specs.VirtualSlots.{is_virtual_found, slot_by_id}
use Rattle.resolved_code.proofs.Numbers.Methods.{found_by_number, nothing_found}
use Rattle.resolved_code.proofs.Numbers.Slots.{IsTied, tied, same_slot}
use Rattle.resolved_code.specs.ById.{class_name}
use Rattle.class_layout.specs.ByClass.{by_class, interface_numbers}
use Rattle.class_layout.specs.declared.targets.Targets.{Targets}
use Rattle.class_layout.specs.Targets.{chain_at, implementation_over, implementation_by_id, own_method, class_implementation, is_implementer, interface_implementation, target_number, target_row, target_rows, targets_of, target_in}
use Rattle.resolved_code.proofs.Numbers.Classes.{FoundAt, found_at, not_declared, among_numbers, number_of_index}
use Rattle.class_layout.proofs.AncestorLaws.{answer_at, answer_of}

virtual_not_static : (kind : MethodKind) → is_virtual kind ≡ true → is_static kind ≡ false
virtual_not_static (Static code) h = never h
virtual_not_static _ _ = refl

-- where a method of an identity has an object, the first of that identity for objects is the same one
find_own : (k : MethodIdentity) (ms : List Method) (m : Method) → find (λ (x : Method). same_identity (identity_of x) k) ms ≡ Some m → is_static m.kind ≡ false →
    find (λ (x : Method). same_call_identity (k, false) (call_identity_of x)) ms ≡ Some m
find_own k [] m h s = absurd (none_is_some m h)
find_own k (x ∷ xs) m h s = by_test (same_identity (identity_of x) k) refl h (λ g. find_own k xs m g s)
  where
    by_test : (b : Bool) → same_identity (identity_of x) k ≡ b → cond b (Some x) (find (λ (y : Method). same_identity (identity_of y) k) xs) ≡ Some m →
        (find (λ (y : Method). same_identity (identity_of y) k) xs ≡ Some m → find (λ (y : Method). same_call_identity (k, false) (call_identity_of y)) xs ≡ Some m) →
        cond (same_identity k (identity_of x) && same_flag false (is_static x.kind)) (Some x) (find (λ (y : Method). same_call_identity (k, false) (call_identity_of y)) xs) ≡ Some m
    by_test true e g further =
        let q : x ≡ m = cc in
        let own : same_identity k (identity_of x) ≡ true = identity_equivalence.symm k (identity_of x) ∙ e in
        let kind : is_static x.kind ≡ false = ap (λ (y : Method). is_static y.kind) q ∙ s in
        ap (λ b. cond (b && same_flag false (is_static x.kind)) (Some x) (find (λ (y : Method). same_call_identity (k, false) (call_identity_of y)) xs)) own ∙
        ap (λ b. cond (same_flag false b) (Some x) (find (λ (y : Method). same_call_identity (k, false) (call_identity_of y)) xs)) kind ∙ ap Some q
    by_test false e g further =
        let other : same_identity k (identity_of x) ≡ false = identity_equivalence.symm k (identity_of x) ∙ e in
        ap (λ b. cond (b && same_flag false (is_static x.kind)) (Some x) (find (λ (y : Method). same_call_identity (k, false) (call_identity_of y)) xs)) other ∙ further g

module _ (tree : Tree) where
  -- what a number of a method refers to
  abbrev pub target_method : MethodId → Option (ClassName × Method)
  target_method r = method_at tree (r.class, r.index)

  -- the chain of a class by its number
  chain_known : (c : ClassName) (n : ℕ) → class_number tree c ≡ Some n → chain_at tree n ≡ chain_numbers tree c
  chain_known c n e = ap (λ o. option_map_or (λ (y : ClassName × Declaration). chain_numbers tree y.0) o []) (found_at tree c n e).2

  module _ (k : MethodIdentity) where
    abbrev numbers : List ClassName → List ℕ
    numbers = filter_map (class_number tree)

    abbrev implementations : ClassName → List ClassName → Option (ClassName × Method)
    implementations = implementation_along tree k.name k.signature

    -- a method that fills a slot, and the number of its class, or neither
    abbrev IsImplementation : Option (ClassName × Method) → Option ℕ → Type 0
    IsImplementation None None = Unit {0}
    IsImplementation (Some f) (Some n) = (class_number tree f.0 ≡ Some n) × (method_declared tree k.name k.signature f.0 ≡ Some f.1) × (is_virtual f.1.kind ≡ true)
    IsImplementation None (Some n) = ⊥
    IsImplementation (Some f) None = ⊥

    implementation_here : (c : ClassName) (n : ℕ) (f : Option Method) (fills : Bool) (rest : Option (ClassName × Method)) (below : Option ℕ) → class_number tree c ≡ Some n → method_declared tree k.name k.signature c ≡ f →
        ((m : Method) → f ≡ Some m → fills ≡ true → is_virtual m.kind ≡ true) → IsImplementation rest below →
        IsImplementation (option_map_or (λ (m : Method). if fills then Some (c, m) else rest) f rest) (if fills then option_map_or (λ (m : Method). Some n) f below else below)
    implementation_here c n None true rest below e g v h = h
    implementation_here c n (Some m) true rest below e g v h = (e, g, v m refl refl)
    implementation_here _ _ _ _ _ _ _ _ _ h = h

    -- what fills a slot is virtual
    fills_as_virtual : (s c : ClassName) (inherited : Option ClassName) (m : Method) → same_options same_class (slot_filled c inherited m) (Some s) ≡ true → is_virtual m.kind ≡ true
    fills_as_virtual s c inherited m h = by_kind (is_virtual m.kind) refl h
      where
        by_kind : (b : Bool) → is_virtual m.kind ≡ b → same_options same_class (if b then Some (if is_new_slot_method m.kind then c else unwrap_or inherited c) else None) (Some s) ≡ true → is_virtual m.kind ≡ true
        by_kind true e g = e
        by_kind false e g = never g

    abbrev fills_slot : ClassName → ClassName → List ClassName → Bool
    fills_slot s c cs = same_options same_class (slot_along tree k.name k.signature (c ∷ cs)) (Some s)

    implementation_known : (s : ClassName) (i : ℕ) → class_number tree s ≡ Some i → (cs : List ClassName) → IsImplementation (implementations s cs) (implementation_by_id tree k i (numbers cs))
    implementation_known s i e [] = tt
    implementation_known s i e (c ∷ cs) = by_number (class_number tree c) refl (implementation_known s i e cs) (tied tree k (c ∷ cs))
      where
        virtually : (m : Method) → method_declared tree k.name k.signature c ≡ Some m → fills_slot s c cs ≡ true → is_virtual m.kind ≡ true
        virtually m g h =
            fills_as_virtual s c (slot_along tree k.name k.signature cs) m (
            sym (ap (λ f. same_options same_class (option_map_or (slot_filled c (slot_along tree k.name k.signature cs)) f (slot_along tree k.name k.signature cs)) (Some s)) g) ∙ h)

        by_number : (o : Option ℕ) → class_number tree c ≡ o → IsImplementation (implementations s cs) (implementation_by_id tree k i (numbers cs)) →
            IsTied tree (slot_along tree k.name k.signature (c ∷ cs)) (slot_by_id tree k (cons_option (class_number tree c) (numbers cs))) → IsImplementation (implementations s (c ∷ cs)) (implementation_by_id tree k i (cons_option o (numbers cs)))
        by_number None g further h =
            let P : Option Method → Type 0 = λ f. IsImplementation (option_map_or (λ (m : Method). if fills_slot s c cs then Some (c, m) else implementations s cs) f (implementations s cs)) (implementation_by_id tree k i (numbers cs)) in
            subst P (sym (nothing_found tree k c g)) further
        by_number (Some n) g further h =
            let T : Option ℕ → Type 0 = λ o. IsTied tree (slot_along tree k.name k.signature (c ∷ cs)) (slot_by_id tree k (cons_option o (numbers cs))) in
            let one : fills_slot s c cs ≡ option_map_or (λ x. x == i) (slot_by_id tree k (n ∷ numbers cs)) false = same_slot tree k s i e _ _ (subst T g h) in
            let P : Option Method → Type 0 = λ f. IsImplementation (implementations s (c ∷ cs)) (if fills_slot s c cs then option_map_or (λ (m : Method). Some n) f (implementation_by_id tree k i (numbers cs)) else implementation_by_id tree k i (numbers cs)) in
            let here : IsImplementation (implementations s (c ∷ cs)) (if fills_slot s c cs then option_map_or (λ (m : Method). Some n) (method_found tree k n) (implementation_by_id tree k i (numbers cs)) else implementation_by_id tree k i (numbers cs)) =
            subst P (sym (found_by_number tree k c n g)) (implementation_here c n (method_declared tree k.name k.signature c) (fills_slot s c cs) (implementations s cs) (implementation_by_id tree k i (numbers cs)) g refl virtually further) in
            let Q : Bool → Type 0 = λ b. IsImplementation (implementations s (c ∷ cs)) (implementation_over tree k n b (implementation_by_id tree k i (numbers cs))) in
            subst Q one here

    -- the number of a virtual method that a class declares
    own_known : (c : ClassName) (n : ℕ) (m : Method) → class_number tree c ≡ Some n → method_declared tree k.name k.signature c ≡ Some m → is_virtual m.kind ≡ true → option_map target_method (own_method tree k n) ≡ Some (Some (c, m))
    own_known c n m e g v =
        let found : FoundAt tree c n = found_at tree c n e in
        let own : Method → Bool = λ x. same_call_identity (k, false) (call_identity_of x) in
        let has_id : option_map (λ p. method_at tree (n, p)) (index_in (λ d. d.methods) own tree n) ≡ option_map (λ x. Some (c, x)) (find own (methods_declared tree c)) =
        in_present tree (λ d. d.methods) own own (λ x. refl) c found.0 n found.1 found.2 in
        option_map_of_map (λ p. let r : MethodId = record { class = n; index = p } in r) target_method (index_in (λ d. d.methods) own tree n) ∙ has_id ∙
        ap (option_map (λ x. Some (c, x))) (find_own k (methods_declared tree c) m g (virtual_not_static m.kind v))

    -- a class's method
    class_known : (d c : ClassName) → option_map target_method (class_implementation tree k (chain_numbers tree d) (chain_numbers tree c)) ≡ option_map Some (class_target tree k.name k.signature d c)
    class_known d c = by_slot (slot_along tree k.name k.signature (chain_of tree c)) (slot_by_id tree k (chain_numbers tree c)) (tied tree k (chain_of tree c))
      where
        by_implementation : (o : Option (ClassName × Method)) (p : Option ℕ) → IsImplementation o p → option_map target_method (option_and_then (own_method tree k) p) ≡ option_map Some o
        by_implementation None None h = refl
        by_implementation (Some f) (Some n) h = own_known f.0 n f.1 h.0 h.1 h.2
        by_implementation _ _ h = absurd h

        by_slot : (o : Option ClassName) (p : Option ℕ) → IsTied tree o p → option_map target_method (option_and_then (λ slot. option_and_then (own_method tree k) (implementation_by_id tree k slot (chain_numbers tree d))) p) ≡ option_map Some (option_and_then (λ slot. implementations slot (chain_of tree d)) o)
        by_slot None None h = refl
        by_slot (Some s) (Some i) h = by_implementation (implementations s (chain_of tree d)) (implementation_by_id tree k i (chain_numbers tree d)) (implementation_known s i h (chain_of tree d))
        by_slot _ _ h = absurd h

    -- ---- interfaces

    abbrev listed : List (List ℕ)
    listed = by_class tree (interface_numbers tree)

    implementer_known : (i : ClassName) (j : ℕ) → class_number tree i ≡ Some j → (cs : List ClassName) → IsTied tree (implementer_along tree k.name k.signature i cs) (find (is_implementer listed j) (numbers cs))
    implementer_known i j e [] = tt
    implementer_known i j e (c ∷ cs) = by_number (class_number tree c) refl (implementer_known i j e cs)
      where
        by_test : (n : ℕ) (b : Bool) → class_number tree c ≡ Some n → IsTied tree (implementer_along tree k.name k.signature i cs) (find (is_implementer listed j) (numbers cs)) → IsTied tree (cond b (Some c) (implementer_along tree k.name k.signature i cs)) (cond b (Some n) (find (is_implementer listed j) (numbers cs)))
        by_test n true g further = g
        by_test n false g further = further

        by_number : (o : Option ℕ) → class_number tree c ≡ o → IsTied tree (implementer_along tree k.name k.signature i cs) (find (is_implementer listed j) (numbers cs)) → IsTied tree (implementer_along tree k.name k.signature i (c ∷ cs)) (find (is_implementer listed j) (cons_option o (numbers cs)))
        by_number None g further =
            let none : list_any (same_class i) (interfaces_declared tree c) ≡ false = ap (λ z. list_any (same_class i) (listed_by (λ (x : Declaration). x.interfaces) z)) (not_declared tree c g) in
            let P : Bool → Type 0 = λ b. IsTied tree (cond b (Some c) (implementer_along tree k.name k.signature i cs)) (find (is_implementer listed j) (numbers cs)) in
            subst P (sym none) further
        by_number (Some n) g further =
            let row : is_implementer listed j n ≡ list_any (same_class i) (interfaces_declared tree c) =
            ap (λ o. list_any (λ m. m == j) (unwrap_or o [])) (answer_at tree (interface_numbers tree) c n g) ∙ among_numbers tree i j e (interfaces_declared tree c) in
            let P : Bool → Type 0 = λ b. IsTied tree (implementer_along tree k.name k.signature i (c ∷ cs)) (cond b (Some n) (find (is_implementer listed j) (numbers cs))) in
            subst P (sym row) (by_test n (list_any (same_class i) (interfaces_declared tree c)) g further)

    -- a class's name with something, and its number
    abbrev IsNearest : Option (ClassName × Method) → Option ℕ → Type 0
    IsNearest None None = Unit {0}
    IsNearest (Some f) (Some n) = class_number tree f.0 ≡ Some n
    IsNearest None (Some n) = ⊥
    IsNearest (Some f) None = ⊥

    abbrev virtual_of : Option Method → Option Method
    virtual_of = option_and_then (λ (m : Method). if is_virtual m.kind then Some m else None)

    abbrev virtual_above : List ClassName → Option (ClassName × Method)
    virtual_above cs = nearest (virtual_in tree k.name k.signature) cs

    abbrev found_above : List ClassName → Option ℕ
    found_above cs = find (is_virtual_found tree k) (numbers cs)

    virtual_known : (cs : List ClassName) → IsNearest (nearest (virtual_in tree k.name k.signature) cs) (find (is_virtual_found tree k) (numbers cs))
    virtual_known [] = tt
    virtual_known (c ∷ cs) = by_number (class_number tree c) refl (virtual_known cs)
      where
        by_kind : (n : ℕ) (m : Method) (b : Bool) → class_number tree c ≡ Some n → IsNearest (virtual_above cs) (found_above cs) → IsNearest (option_map_or (λ x. Some (c, x)) (if b then Some m else None) (virtual_above cs)) (cond b (Some n) (found_above cs))
        by_kind n m true g further = g
        by_kind n m false g further = further

        by_method : (n : ℕ) (f : Option Method) → class_number tree c ≡ Some n → IsNearest (virtual_above cs) (found_above cs) → IsNearest (option_map_or (λ x. Some (c, x)) (virtual_of f) (virtual_above cs)) (cond (option_map_or (λ (m : Method). is_virtual m.kind) f false) (Some n) (found_above cs))
        by_method n None g further = further
        by_method n (Some m) g further = by_kind n m (is_virtual m.kind) g further

        by_number : (o : Option ℕ) → class_number tree c ≡ o → IsNearest (virtual_above cs) (found_above cs) → IsNearest (nearest (virtual_in tree k.name k.signature) (c ∷ cs)) (find (is_virtual_found tree k) (cons_option o (numbers cs)))
        by_number None g further =
            let P : Option Method → Type 0 = λ f. IsNearest (option_map_or (λ x. Some (c, x)) (virtual_of f) (virtual_above cs)) (found_above cs) in
            subst P (sym (nothing_found tree k c g)) further
        by_number (Some n) g further =
            let P : Option Method → Type 0 = λ f. IsNearest (nearest (virtual_in tree k.name k.signature) (c ∷ cs)) (cond (option_map_or (λ (m : Method). is_virtual m.kind) f false) (Some n) (found_above cs)) in
            subst P (sym (found_by_number tree k c n g)) (by_method n (method_declared tree k.name k.signature c) g further)

    -- an interface's method
    interface_known : (d i : ClassName) (j : ℕ) → class_number tree i ≡ Some j → option_map target_method (interface_implementation tree listed k (chain_numbers tree d) j) ≡ option_map Some (interface_target tree k.name k.signature d i)
    interface_known d i j e = by_implementer (implementer_along tree k.name k.signature i (chain_of tree d)) (find (is_implementer listed j) (chain_numbers tree d)) (implementer_known i j e (chain_of tree d))
      where
        by_found : (o : Option (ClassName × Method)) (p : Option ℕ) → IsNearest o p →
            option_map target_method (option_and_then (λ found. class_implementation tree k (chain_numbers tree d) (chain_at tree found)) p) ≡ option_map Some (option_and_then (λ (found : ClassName × Method). class_target tree k.name k.signature d found.0) o)
        by_found None None h = refl
        by_found (Some f) (Some n) h = ap (λ ns. option_map target_method (class_implementation tree k (chain_numbers tree d) ns)) (chain_known f.0 n h) ∙ class_known d f.0
        by_found _ _ h = absurd h

        by_implementer : (o : Option ClassName) (p : Option ℕ) → IsTied tree o p →
            option_map target_method (option_and_then (λ implementer. option_and_then (λ found. class_implementation tree k (chain_numbers tree d) (chain_at tree found)) (find (is_virtual_found tree k) (chain_at tree implementer))) p) ≡
            option_map Some (option_and_then (λ l. option_and_then (λ (found : ClassName × Method). class_target tree k.name k.signature d found.0) (nearest (virtual_in tree k.name k.signature) (chain_of tree l))) o)
        by_implementer None None h = refl
        by_implementer (Some l) (Some n) h =
            ap (λ ns. option_map target_method (option_and_then (λ found. class_implementation tree k (chain_numbers tree d) (chain_at tree found)) (find (is_virtual_found tree k) ns))) (chain_known l n h) ∙
            by_found (nearest (virtual_in tree k.name k.signature) (chain_of tree l)) (find (is_virtual_found tree k) (chain_numbers tree l)) (virtual_known (chain_of tree l))
        by_implementer _ _ h = absurd h

  -- ---- the table

  virtual_target : (c d : ClassName) (n : ℕ) (m : Method) → class_number tree c ≡ Some n → option_map target_method (target_number tree c (identity_of m) d) ≡
      option_map Some (if is_interface tree c then interface_target tree m.name m.signature d c else class_target tree m.name m.signature d c)
  virtual_target c d n m e = by_kind (is_interface tree c)
    where
      by_kind : (b : Bool) →
          option_map target_method (if b then option_and_then (interface_implementation tree (by_class tree (interface_numbers tree)) (identity_of m) (chain_numbers tree d)) (class_number tree c) else class_implementation tree (identity_of m) (chain_numbers tree d) (chain_numbers tree c)) ≡
          option_map Some (if b then interface_target tree m.name m.signature d c else class_target tree m.name m.signature d c)
      by_kind true = ap (λ o. option_map target_method (option_and_then (interface_implementation tree (by_class tree (interface_numbers tree)) (identity_of m) (chain_numbers tree d)) o)) e ∙ interface_known (identity_of m) d c n e
      by_kind false = class_known (identity_of m) d c

  row_decides : (c d : ClassName) (n class : ℕ) (m : Method) (method : MethodId) → class_number tree c ≡ Some n → class_name tree class ≡ Some d → target_method method ≡ Some (c, m) →
      option_map target_method (target_in class method (target_row tree c m)) ≡ option_map Some (target tree d c m)
  row_decides c d n class m method e named at = by_kind (is_virtual m.kind)
    where
      by_kind : (b : Bool) → option_map target_method (target_in class method (if b then Some (by_class tree (target_number tree c (identity_of m))) else None)) ≡
          option_map Some (if b then (if is_interface tree c then interface_target tree m.name m.signature d c else class_target tree m.name m.signature d c) else Some (c, m))
      by_kind true = ap (option_map target_method) (answer_of tree (target_number tree c (identity_of m)) (by_class tree (target_number tree c (identity_of m))) class d None refl named) ∙ virtual_target c d n m e
      by_kind false = ap Some at

  mapped_row : (rows : List (List Targets)) (n : ℕ) → map targets_of (unwrap_or (slice_get rows n) []) ≡ unwrap_or (slice_get (map (map targets_of) rows) n) []
  mapped_row rows n = by_row (slice_get rows n) ∙ sym (ap (λ o. unwrap_or o []) (slice_get-map (map targets_of) rows n))
    where
      by_row : (o : Option (List Targets)) → map targets_of (unwrap_or o []) ≡ unwrap_or (option_map (map targets_of) o) []
      by_row None = refl
      by_row (Some row) = refl

  abbrev IsTarget : List (List Targets) → ℕ → MethodId → ClassName → ClassName → Method → Type 0
  IsTarget rows class method d x y = option_map target_method (option_and_then (target_in class method) (option_map targets_of (slice_get (unwrap_or (slice_get rows method.class) []) method.index))) ≡ option_map Some (target tree d x y)

  -- what the table says of a method and a class of objects
  pub target_found : IsLegal tree → (rows : List (List Targets)) (class : ℕ) (method : MethodId) (c d : ClassName) (m : Method) → map (map targets_of) rows ≡ by_class tree (target_rows tree) → class_name tree class ≡ Some d → target_method method ≡ Some (c, m) →
      option_map target_method (option_and_then (target_in class method) (option_map targets_of (slice_get (unwrap_or (slice_get rows method.class) []) method.index))) ≡ option_map Some (target tree d c m)
  target_found legal rows class method c d m are named at = by_entry (slice_get (declarations tree) method.class) refl at
    where
      by_index : (a : ClassName) (x : Declaration) (y : Method) → slice_get (declarations tree) method.class ≡ Some (a, x) → slice_get x.methods method.index ≡ Some y → target_method method ≡ Some (a, y) → IsTarget rows class method d a y
      by_index a x y h g holds =
          let number : class_number tree a ≡ Some method.class = number_of_index tree legal method.class (a, x) h in
          let found : FoundAt tree a method.class = found_at tree a method.class number in
          let both : Some (a, found.0) ≡ Some (a, x) = sym found.2 ∙ h in
          let pairs : (a, found.0) ≡ (a, x) = cc in
          let same : found.0 ≡ x = ap (λ (z : ClassName × Declaration). z.1) pairs in
          let own : slice_get (methods_declared tree a) method.index ≡ Some y =
          ap (λ o. slice_get (listed_by (λ (z : Declaration). z.methods) o) method.index) found.1 ∙ ap (λ (z : Declaration). slice_get z.methods method.index) same ∙ g in
          let row : unwrap_or (slice_get (map (map targets_of) rows) method.class) [] ≡ target_rows tree a =
          ap (λ xs. unwrap_or (slice_get xs method.class) []) are ∙ ap (λ o. unwrap_or o []) (answer_at tree (target_rows tree) a method.class number) in
          let entry : option_map targets_of (slice_get (unwrap_or (slice_get rows method.class) []) method.index) ≡ Some (target_row tree a y) =
          sym (slice_get-map targets_of (unwrap_or (slice_get rows method.class) []) method.index) ∙ ap (λ xs. slice_get xs method.index) (mapped_row rows method.class ∙ row) ∙
          slice_get-map (target_row tree a) (methods_declared tree a) method.index ∙ ap (option_map (target_row tree a)) own in
          ap (λ o. option_map target_method (option_and_then (target_in class method) o)) entry ∙ row_decides a d method.class class y method number named holds

      by_entry : (o : Option (ClassName × Declaration)) → slice_get (declarations tree) method.class ≡ o → option_and_then {U = ClassName × Method} (λ (e : ClassName × Declaration). option_map (λ x. (e.0, x)) (slice_get e.1.methods method.index)) o ≡ Some (c, m) → IsTarget rows class method d c m
      by_entry None h g = absurd (none_is_some (c, m) g)
      by_entry (Some (a, x)) h g = by_method (slice_get x.methods method.index) refl g
        where
          by_method : (o : Option Method) → slice_get x.methods method.index ≡ o → option_map {U = ClassName × Method} (λ y. (a, y)) o ≡ Some (c, m) → IsTarget rows class method d c m
          by_method None p z = absurd (none_is_some (c, m) z)
          by_method (Some y) p z =
              let pairs : (a, y) ≡ (c, m) = cc in
              let P : ClassName × Method → Type 0 = λ q. IsTarget rows class method d q.0 q.1 in
              subst P pairs (by_index a x y h p (at ∙ ap Some (sym pairs)))
