-- Targets by the numbers of names and signatures are those by names and signatures.
use Rattle.std.proofs.Common.{◌≡◌, ◌==◌, ◌<◌, ℕ, zero, suc, ◌+◌, Bool, true, false, ◌&&◌, not, cond, List, [], ◌∷◌, ◌++◌, length, map, Option, Some, None, option_map, option_and_then, unwrap_or, slice_get, if◌then◌else◌, refl, sym, ap, ◌∙◌, arith}
use Rattle.std.specs.Prelude.{find, flat_map}
use Rattle.std.specs.List.{position_from}
use Rattle.std.specs.Option.{option_map_or}
use Rattle.std.proofs.lemmas.Option.{none-some, slice_get-map, slice_get_within}
use Rattle.std.proofs.lemmas.Bool.{eq-eqb, ne_eqb}
use Rattle.cil_model.specs.declared.types.ClassName.{ClassName}
use Rattle.cil_model.specs.declared.trees.Tree.{Tree}
use Rattle.cil_model.specs.declared.trees.Method.{Method}
use Rattle.cil_model.specs.declared.trees.MethodKind.{MethodKind}
use Rattle.cil_model.specs.declared.trees.MethodKind.TheVariants as Named
use Rattle.cil_model.specs.Same.{same_flag}
use Rattle.cil_model.specs.Declarations.{Declaration}
use Rattle.cil_model.specs.Chains.{is_static, is_virtual, is_new_slot_method, is_interface}
use Rattle.cil_model.specs.Legality.{IsLegal}
use Rattle.cil_model.proofs.Lists.{get_before}
use Rattle.name_tables.specs.Numbers.{class_number, chain_numbers, declarations, method_found}
use Rattle.name_tables.specs.Sameness.{MethodIdentity, identity_of, same_identity, same_call_identity, call_identity_of}
use Rattle.name_tables.specs.SamenessLaws.{same_identity_equal, same_identity_reflexive}
use Rattle.name_tables.specs.declared.ids.MethodId.{MethodId}
use Rattle.resolved_code.specs.VirtualSlots.{is_virtual_found, slot_filled_at, slot_from_base, slot_by_id}
use Rattle.resolved_code.specs.Identities.{identities, identity_number}
use Rattle.resolved_code.specs.ResolvedPrograms.{AllAlike, AreResolved, IsResolvedKind, IsResolvedMethod, BothAlike}
use Rattle.resolved_code.specs.declared.classes.ResolvedClass.{ResolvedClass}
use Rattle.resolved_code.specs.declared.classes.ResolvedMethod.{ResolvedMethod}
use Rattle.resolved_code.specs.declared.classes.ResolvedKind.{ResolvedKind}
use Rattle.resolved_code.specs.declared.classes.ResolvedKind.TheVariants as KindOf
use Rattle.resolved_code.proofs.ListLaws.RelatedItems.{alike_at}
use Rattle.class_layout.specs.declared.slot_uses.SlotUse.{SlotUse}
use Rattle.class_layout.specs.ByClass.{by_class, interface_numbers}
use Rattle.class_layout.specs.SlotUses as by_use
use Rattle.class_layout.specs.SlotUses.{slot_use_by_flag, slot_use_of_named, slot_use_by_id, is_static_by_id, slot_use_in, own_index, slot_use_at, own_at, is_virtual_use, is_virtual_at, slot_by_use, slot_from, implementation_from, filled_along, listed_implementation}
use Rattle.class_layout.specs.Targets.{chain_at, implementation_over, implementation_by_id, own_method, class_implementation, is_implementer, interface_implementation, target_number}
use Rattle.resolved_code.proofs.Numbers.Classes.{number_of_index}
use Rattle.class_layout.proofs.ResolvedLaws.{IsClass, answer_given, interfaces_alike, listed_alike}

-- ---- kinds

-- what a method is, by names and by numbers
abbrev UseAndObject : MethodKind → ResolvedKind → Type 0
UseAndObject k r = (slot_use_by_id r ≡ slot_use_of_named k) × (is_static_by_id r ≡ is_static k)

kinds_alike : (tree : Tree) (k : MethodKind) (r : ResolvedKind) → IsResolvedKind tree k r → UseAndObject k r
kinds_alike tree (Named.Static code) (KindOf.Static body) h = (refl, refl)
kinds_alike tree (Named.Instance code) (KindOf.Instance body) h = (refl, refl)
kinds_alike tree (Named.Virtual a code) (KindOf.Virtual b body) h = (ap slot_use_by_flag h.0, refl)
kinds_alike tree (Named.Abstract a) (KindOf.Abstract b) h = (ap slot_use_by_flag h, refl)
kinds_alike _ _ _ h = absurd h

virtual_use : (k : MethodKind) → is_virtual_use (slot_use_of_named k) ≡ is_virtual k
virtual_use (Named.Virtual true code) = refl
virtual_use (Named.Abstract true) = refl
virtual_use _ = refl

-- whether a method by numbers is virtual
pub is_virtual_by : (tree : Tree) (k : MethodKind) (r : ResolvedKind) → IsResolvedKind tree k r → is_virtual_use (slot_use_by_id r) ≡ is_virtual k
is_virtual_by tree k r h = ap is_virtual_use (kinds_alike tree k r h).0 ∙ virtual_use k

slot_of_flag : (n : ℕ) (inherited : Option ℕ) (b : Bool) → slot_by_use n inherited (slot_use_by_flag b) ≡ Some (if b then n else unwrap_or inherited n)
slot_of_flag n inherited true = refl
slot_of_flag n inherited false = refl

slot_of_kind : (n : ℕ) (inherited : Option ℕ) (k : MethodKind) → slot_by_use n inherited (slot_use_of_named k) ≡ (if is_virtual k then Some (if is_new_slot_method k then n else unwrap_or inherited n) else None)
slot_of_kind n inherited (Named.Virtual b code) = slot_of_flag n inherited b
slot_of_kind n inherited (Named.Abstract b) = slot_of_flag n inherited b
slot_of_kind _ _ _ = refl

flag_of_false : (b : Bool) → not b ≡ same_flag false b
flag_of_false true = refl
flag_of_false false = refl

-- ---- indices in lists

-- the item at an index that was found
abbrev PassesAt : {X : Type 0} → (X → Bool) → List X → ℕ → ℕ → Type 0
PassesAt {X} test xs s i = (j : ℕ) × (i ≡ s + j) × (y : X) × (slice_get xs j ≡ Some y) × (test y ≡ true)

passes_at : {X : Type 0} (test : X → Bool) (s : ℕ) (xs : List X) (i : ℕ) → position_from test s xs ≡ Some i → PassesAt test xs s i
passes_at test s [] i h = absurd (none-some i h)
passes_at {X} test s (x ∷ xs) i h = by_test (test x) refl h (λ g. passes_at test (s + 1) xs i g)
  where
    by_test : (b : Bool) → test x ≡ b → cond b (Some s) (position_from test (s + 1) xs) ≡ Some i → (position_from test (s + 1) xs ≡ Some i → PassesAt test xs (s + 1) i) → PassesAt test (x ∷ xs) s i
    by_test true e g further =
        let same : s ≡ i = cc in
        let index : i ≡ s + 0 = omega arith in
        (0, index, x, refl, e)
    by_test false e g further =
        let r : PassesAt test xs (s + 1) i = further g in
        let following : i ≡ s + 1 + r.0 = r.1 in
        let index : i ≡ s + suc r.0 = omega arith in
        (suc r.0, index, r.2, r.3, r.4)

-- an item that passes is found, or one before it
found_there : {X : Type 0} (test : X → Bool) (s : ℕ) (xs : List X) (j : ℕ) (x : X) → slice_get xs j ≡ Some x → test x ≡ true → (i : ℕ) × (position_from test s xs ≡ Some i)
found_there test s [] j x h e = absurd (none-some x h)
found_there {X} test s (y ∷ ys) zero x h e =
    let same : y ≡ x = cc in
    (s, ap (λ b. cond b (Some s) (position_from test (s + 1) ys)) (ap test same ∙ e))
found_there {X} test s (y ∷ ys) (suc j) x h e = by_test (test y) refl (found_there test (s + 1) ys j x h e)
  where
    by_test : (b : Bool) → test y ≡ b → (i : ℕ) × (position_from test (s + 1) ys ≡ Some i) → (i : ℕ) × (position_from test s (y ∷ ys) ≡ Some i)
    by_test true g further = (s, ap (λ b. cond b (Some s) (position_from test (s + 1) ys)) g)
    by_test false g further = (further.0, ap (λ b. cond b (Some s) (position_from test (s + 1) ys)) g ∙ further.1)

-- an item of a list is one of a longer list
abbrev Occurs : {X : Type 0} → List X → X → Type 0
Occurs xs x = (j : ℕ) × (slice_get xs j ≡ Some x)

occurs_after : {X : Type 0} (xs ys : List X) (x : X) → Occurs ys x → Occurs (xs ++ ys) x
occurs_after [] ys x h = h
occurs_after (z ∷ zs) ys x h =
    let r : Occurs (zs ++ ys) x = occurs_after zs ys x h in
    (suc r.0, r.1)

occurs_in_rows : {R X : Type 0} (row : R → List X) (rs : List R) (n : ℕ) (r : R) (p : ℕ) (x : X) → slice_get rs n ≡ Some r → slice_get (row r) p ≡ Some x → Occurs (flat_map row rs) x
occurs_in_rows row [] n r p x h at = absurd (none-some r h)
occurs_in_rows row (q ∷ qs) zero r p x h at =
    let same : q ≡ r = cc in
    (p, get_before (row q) (flat_map row qs) p x (ap (λ z. slice_get (row z) p) same ∙ at))
occurs_in_rows row (q ∷ qs) (suc n) r p x h at = occurs_after (row q) (flat_map row qs) x (occurs_in_rows row qs n r p x h at)

module _ (tree : Tree) (k : MethodIdentity) (i : ℕ) (has_id : identity_number tree k ≡ i) where
  -- ---- names and signatures by their numbers

  abbrev is_known : MethodIdentity → Type 0
  is_known x = Occurs (identities tree) x

  abbrev keys : List MethodIdentity
  keys = identities tree

  -- two that are not the same have two numbers
  apart : (x : MethodIdentity) → is_known x → same_identity k x ≡ false → i ≡ identity_number tree x → ⊥
  apart x known other equal = by_index (position_from (same_identity k) 0 keys) refl
    where
      found : (j : ℕ) × (position_from (same_identity x) 0 keys ≡ Some j)
      found = found_there (same_identity x) 0 keys known.0 x known.1 (same_identity_reflexive x)

      number : identity_number tree x ≡ found.0
      number = ap (λ o. unwrap_or o (length keys)) found.1

      own : PassesAt (same_identity x) keys 0 found.0
      own = passes_at (same_identity x) 0 keys found.0 found.1

      by_index : (o : Option ℕ) → position_from (same_identity k) 0 keys ≡ o → ⊥
      by_index None p =
          let past : i ≡ length keys = sym has_id ∙ ap (λ z. unwrap_or z (length keys)) p in
          let inside : own.0 < length keys = slice_get_within keys own.0 own.2 own.3 in
          let index : found.0 ≡ 0 + own.0 = own.1 in
          let all : i ≡ found.0 = equal ∙ number in
          omega (arith, past, inside, index, all)
      by_index (Some j) p =
          let here : i ≡ j = sym has_id ∙ ap (λ z. unwrap_or z (length keys)) p in
          let others : PassesAt (same_identity k) keys 0 j = passes_at (same_identity k) 0 keys j p in
          let first : found.0 ≡ 0 + own.0 = own.1 in
          let second : j ≡ 0 + others.0 = others.1 in
          let all : i ≡ found.0 = equal ∙ number in
          let index : others.0 ≡ own.0 = omega (arith, first, second, all, here) in
          let both : Some others.2 ≡ Some own.2 = sym others.3 ∙ ap (slice_get keys) index ∙ own.3 in
          let one : others.2 ≡ own.2 = cc in
          let same : k ≡ x = same_identity_equal k others.2 others.4 ∙ one ∙ sym (same_identity_equal x own.2 own.4) in
          lost (sym other ∙ ap (same_identity k) (sym same) ∙ same_identity_reflexive k)
        where
          lost : false ≡ true → ⊥
          lost h = cc

  -- a method's number determines whether it has the name and signature
  agrees : (x : MethodIdentity) → is_known x → (i == identity_number tree x) ≡ same_identity k x
  agrees x known = by_same (same_identity k x) refl
    where
      by_same : (b : Bool) → same_identity k x ≡ b → (i == identity_number tree x) ≡ b
      by_same true h = eq-eqb i (identity_number tree x) (sym has_id ∙ ap (identity_number tree) (same_identity_equal k x h))
      by_same false h = ne_eqb i (identity_number tree x) (apart x known h)

  abbrev all_known : List Method → Type 0
  all_known ms = (p : ℕ) (m : Method) → slice_get ms p ≡ Some m → is_known (identity_of m)

  test_alike : (m : Method) (r : ResolvedMethod) → is_known (identity_of m) → IsResolvedMethod tree m r → (i == r.identity) ≡ same_identity k (identity_of m)
  test_alike m r known h = ap (λ n. i == n) h.identity ∙ agrees (identity_of m) known

  slot_use_found : (ms : List Method) (rs : List ResolvedMethod) → all_known ms → AllAlike (IsResolvedMethod tree) ms rs → slot_use_in i rs ≡ option_map (λ (m : Method). slot_use_of_named m.kind) (find (λ m. same_identity k (identity_of m)) ms)
  slot_use_found [] [] known h = refl
  slot_use_found (m ∷ ms) (r ∷ rs) known h =
      ap (λ b. option_map (λ (x : ResolvedMethod). slot_use_by_id x.kind) (cond b (Some r) (find (λ (x : ResolvedMethod). i == x.identity) rs))) (test_alike m r (known 0 m refl) h.0) ∙
      by_test (same_identity k (identity_of m)) (slot_use_found ms rs (λ p. known (suc p)) h.1)
    where
      by_test : (b : Bool) → slot_use_in i rs ≡ option_map (λ (x : Method). slot_use_of_named x.kind) (find (λ x. same_identity k (identity_of x)) ms) →
          option_map (λ (x : ResolvedMethod). slot_use_by_id x.kind) (cond b (Some r) (find (λ (x : ResolvedMethod). i == x.identity) rs)) ≡
          option_map (λ (x : Method). slot_use_of_named x.kind) (cond b (Some m) (find (λ x. same_identity k (identity_of x)) ms))
      by_test true further = ap Some (kinds_alike tree m.kind r.kind h.0.kind).0
      by_test false further = further
  slot_use_found _ _ _ h = absurd h

  abbrev own_test : Method → Bool
  own_test m = same_call_identity (k, false) (call_identity_of m)

  abbrev own_by_id : ResolvedMethod → Bool
  own_by_id r = (i == r.identity) && not (is_static_by_id r.kind)

  own_found : (index : ℕ) (ms : List Method) (rs : List ResolvedMethod) → all_known ms → AllAlike (IsResolvedMethod tree) ms rs → position_from own_by_id index rs ≡ position_from own_test index ms
  own_found index [] [] known h = refl
  own_found index (m ∷ ms) (r ∷ rs) known h =
      let object : not (is_static_by_id r.kind) ≡ same_flag false (is_static m.kind) = ap not (kinds_alike tree m.kind r.kind h.0.kind).1 ∙ flag_of_false (is_static m.kind) in
      let test : own_by_id r ≡ own_test m = ap (λ b. b && not (is_static_by_id r.kind)) (test_alike m r (known 0 m refl) h.0) ∙ ap (λ b. same_identity k (identity_of m) && b) object in
      ap (λ b. cond b (Some index) (position_from own_by_id (index + 1) rs)) test ∙ ap (λ o. cond (own_test m) (Some index) o) (own_found (index + 1) ms rs (λ p. known (suc p)) h.1)
  own_found _ _ _ _ h = absurd h

  -- ---- classes

  abbrev identities_of : ClassName × Declaration → List MethodIdentity
  identities_of e = map identity_of e.1.methods

  known_in : (n : ℕ) (e : ClassName × Declaration) → slice_get (declarations tree) n ≡ Some e → all_known e.1.methods
  known_in n e h p m at = occurs_in_rows identities_of (declarations tree) n e p (identity_of m) h (slice_get-map identity_of e.1.methods p ∙ ap (option_map identity_of) at)

  module _ (rs : List ResolvedClass) (are : AreResolved tree rs) where
    slot_use_known : (n : ℕ) → slot_use_at rs i n ≡ option_map (λ (m : Method). slot_use_of_named m.kind) (method_found tree k n)
    slot_use_known n = by_entry (slice_get (declarations tree) n) (slice_get rs n) refl (alike_at (IsClass tree) (declarations tree) rs are n)
      where
        by_entry : (o : Option (ClassName × Declaration)) (p : Option ResolvedClass) → slice_get (declarations tree) n ≡ o → BothAlike (IsClass tree) o p →
            option_and_then (λ (r : ResolvedClass). slot_use_in i r.methods) p ≡ option_map (λ (m : Method). slot_use_of_named m.kind) (option_and_then (λ (e : ClassName × Declaration). find (λ m. same_identity k (identity_of m)) e.1.methods) o)
        by_entry None None e h = refl
        by_entry (Some x) (Some r) e h = slot_use_found x.1.methods r.methods (known_in n x e) h.methods
        by_entry _ _ _ h = absurd h

    own_known : (n : ℕ) → own_at rs i n ≡ own_method tree k n
    own_known n = by_entry (slice_get (declarations tree) n) (slice_get rs n) refl (alike_at (IsClass tree) (declarations tree) rs are n)
      where
        at : ℕ → MethodId
        at index = record { class = n; index = index }

        by_entry : (o : Option (ClassName × Declaration)) (p : Option ResolvedClass) → slice_get (declarations tree) n ≡ o → BothAlike (IsClass tree) o p →
            option_and_then {U = MethodId} (λ (r : ResolvedClass). option_map (λ index. record { class = n; index = index }) (own_index i r.methods)) p ≡
            option_map {U = MethodId} (λ index. record { class = n; index = index }) (option_and_then (λ (e : ClassName × Declaration). position_from own_test 0 e.1.methods) o)
        by_entry None None e h = refl
        by_entry (Some x) (Some r) e h = ap (option_map {U = MethodId} (λ index. record { class = n; index = index })) (own_found 0 x.1.methods r.methods (known_in n x e) h.methods)
        by_entry _ _ _ h = absurd h

    -- ---- slots

    slot_over_known : (n : ℕ) (inherited : Option ℕ) → slot_from rs i n inherited ≡ slot_from_base tree k n inherited
    slot_over_known n inherited = ap (λ o. option_map_or (slot_by_use n inherited) o inherited) (slot_use_known n) ∙ by_method (method_found tree k n)
      where
        by_method : (o : Option Method) → option_map_or (slot_by_use n inherited) (option_map (λ (m : Method). slot_use_of_named m.kind) o) inherited ≡ option_map_or (slot_filled_at n inherited) o inherited
        by_method None = refl
        by_method (Some m) = slot_of_kind n inherited m.kind

    slot_known : (ns : List ℕ) → by_use.slot_along rs i ns ≡ slot_by_id tree k ns
    slot_known [] = refl
    slot_known (n ∷ ns) = ap (slot_from rs i n) (slot_known ns) ∙ slot_over_known n (slot_by_id tree k ns)

    implementation_over_known : (n : ℕ) (fills : Bool) (below : Option ℕ) → implementation_from rs i n fills below ≡ implementation_over tree k n fills below
    implementation_over_known n fills below = ap (λ o. if fills then option_map_or (λ (r : SlotUse). Some n) o below else below) (slot_use_known n) ∙ ap (λ o. if fills then o else below) (by_method (method_found tree k n))
      where
        by_method : (o : Option Method) → option_map_or (λ (r : SlotUse). Some n) (option_map (λ (m : Method). slot_use_of_named m.kind) o) below ≡ option_map_or (λ (m : Method). Some n) o below
        by_method None = refl
        by_method (Some m) = refl

    implementation_known : (slot : ℕ) (ns : List ℕ) → by_use.implementation_along rs i slot ns ≡ implementation_by_id tree k slot ns
    implementation_known slot [] = refl
    implementation_known slot (n ∷ ns) =
        ap (λ o. implementation_from rs i n (option_map_or (λ s. s == slot) o false) (by_use.implementation_along rs i slot ns)) (slot_known (n ∷ ns)) ∙
        ap (implementation_from rs i n (option_map_or (λ s. s == slot) (slot_by_id tree k (n ∷ ns)) false)) (implementation_known slot ns) ∙
        implementation_over_known n (option_map_or (λ s. s == slot) (slot_by_id tree k (n ∷ ns)) false) (implementation_by_id tree k slot ns)

    -- the method of a class
    pub filled_known : (chain introduced : List ℕ) → filled_along rs i chain introduced ≡ class_implementation tree k chain introduced
    filled_known chain introduced =
        ap (option_and_then (λ slot. option_and_then (own_at rs i) (by_use.implementation_along rs i slot chain))) (slot_known introduced) ∙ by_slot (slot_by_id tree k introduced)
      where
        by_class_of : (o : Option ℕ) → option_and_then (own_at rs i) o ≡ option_and_then (own_method tree k) o
        by_class_of None = refl
        by_class_of (Some n) = own_known n

        by_slot : (o : Option ℕ) → option_and_then (λ slot. option_and_then (own_at rs i) (by_use.implementation_along rs i slot chain)) o ≡ option_and_then (λ slot. option_and_then (own_method tree k) (implementation_by_id tree k slot chain)) o
        by_slot None = refl
        by_slot (Some slot) = ap (option_and_then (own_at rs i)) (implementation_known slot chain) ∙ by_class_of (implementation_by_id tree k slot chain)

    -- ---- interfaces

    virtual_known : (n : ℕ) → is_virtual_at rs i n ≡ is_virtual_found tree k n
    virtual_known n = ap (λ o. option_map_or is_virtual_use o false) (slot_use_known n) ∙ by_method (method_found tree k n)
      where
        by_method : (o : Option Method) → option_map_or is_virtual_use (option_map (λ (m : Method). slot_use_of_named m.kind) o) false ≡ option_map_or (λ (m : Method). is_virtual m.kind) o false
        by_method None = refl
        by_method (Some m) = virtual_use m.kind

    nearest_known : (ns : List ℕ) → find (is_virtual_at rs i) ns ≡ find (is_virtual_found tree k) ns
    nearest_known [] = refl
    nearest_known (n ∷ ns) = ap (λ b. cond b (Some n) (find (is_virtual_at rs i) ns)) (virtual_known n) ∙ ap (λ o. cond (is_virtual_found tree k n) (Some n) o) (nearest_known ns)

    module _ (legal : IsLegal tree) where
      -- the method of an interface
      pub listed_known : (chain : List ℕ) (interface : ℕ) → listed_implementation tree rs i chain interface ≡ interface_implementation tree (by_class tree (interface_numbers tree)) k chain interface
      listed_known chain interface =
          ap (λ (listed : List (List ℕ)). option_and_then (λ implementer. option_and_then (λ found. filled_along rs i chain (chain_at tree found)) (find (is_virtual_at rs i) (chain_at tree implementer))) (find (is_implementer listed interface) chain)) (listed_alike tree legal rs are) ∙
          by_implementer (find (is_implementer (by_class tree (interface_numbers tree)) interface) chain)
        where
          by_found : (o : Option ℕ) → option_and_then (λ found. filled_along rs i chain (chain_at tree found)) o ≡ option_and_then (λ found. class_implementation tree k chain (chain_at tree found)) o
          by_found None = refl
          by_found (Some n) = filled_known chain (chain_at tree n)

          by_implementer : (o : Option ℕ) → option_and_then (λ implementer. option_and_then (λ found. filled_along rs i chain (chain_at tree found)) (find (is_virtual_at rs i) (chain_at tree implementer))) o ≡
              option_and_then (λ implementer. option_and_then (λ found. class_implementation tree k chain (chain_at tree found)) (find (is_virtual_found tree k) (chain_at tree implementer))) o
          by_implementer None = refl
          by_implementer (Some n) =
              ap (option_and_then (λ found. filled_along rs i chain (chain_at tree found))) (nearest_known (chain_at tree n)) ∙ by_found (find (is_virtual_found tree k) (chain_at tree n))

      -- ---- targets

      module _ (class object : ℕ) (e d : ClassName × Declaration) (there : slice_get (declarations tree) class ≡ Some e) (object_there : slice_get (declarations tree) object ≡ Some d) where
        abbrev chain_given : (n : ℕ) (x : ClassName × Declaration) → slice_get (declarations tree) n ≡ Some x → chain_at tree n ≡ chain_numbers tree x.0
        chain_given n x h = ap (λ o. option_map_or (λ (y : ClassName × Declaration). chain_numbers tree y.0) o []) h

        flag_given : option_map_or (λ (r : ResolvedClass). r.is_interface) (slice_get rs class) false ≡ is_interface tree e.0
        flag_given =
            by_entry (slice_get rs class) ∙ ap (λ o. unwrap_or o false) (sym (slice_get-map (λ (r : ResolvedClass). r.is_interface) rs class)) ∙ ap (λ bs. unwrap_or (slice_get bs class) false) (interfaces_alike tree legal rs are) ∙ answer_given tree (is_interface tree) class false e there
          where
            by_entry : (o : Option ResolvedClass) → option_map_or (λ (r : ResolvedClass). r.is_interface) o false ≡ unwrap_or (option_map (λ (r : ResolvedClass). r.is_interface) o) false
            by_entry None = refl
            by_entry (Some r) = refl

        abbrev by_kind : Bool → Option MethodId
        by_kind b = if b then option_and_then (interface_implementation tree (by_class tree (interface_numbers tree)) k (chain_numbers tree d.0)) (class_number tree e.0) else class_implementation tree k (chain_numbers tree d.0) (chain_numbers tree e.0)

        -- where an interface's method is called
        pub interface_target_alike : option_map_or (λ (r : ResolvedClass). r.is_interface) (slice_get rs class) false ≡ true → listed_implementation tree rs i (chain_at tree object) class ≡ target_number tree e.0 k d.0
        interface_target_alike h =
            listed_known (chain_at tree object) class ∙ ap (λ ns. interface_implementation tree (by_class tree (interface_numbers tree)) k ns class) (chain_given object d object_there) ∙
            ap (option_and_then (interface_implementation tree (by_class tree (interface_numbers tree)) k (chain_numbers tree d.0))) (sym (number_of_index tree legal class e there)) ∙ ap by_kind (sym (sym flag_given ∙ h))

        -- where a class's method is called
        pub class_target_alike : option_map_or (λ (r : ResolvedClass). r.is_interface) (slice_get rs class) false ≡ false → filled_along rs i (chain_at tree object) (chain_at tree class) ≡ target_number tree e.0 k d.0
        class_target_alike h =
            filled_known (chain_at tree object) (chain_at tree class) ∙ ap (λ ns. class_implementation tree k ns (chain_at tree class)) (chain_given object d object_there) ∙
            ap (class_implementation tree k (chain_numbers tree d.0)) (chain_given class e there) ∙ ap by_kind (sym (sym flag_given ∙ h))
