-- Each change of a state keeps what no step takes back.
use Rattle.std.proofs.Common.{◌≡◌, ◌⊎◌, inl, inr, ℕ, Bool, true, false, if◌then◌else◌, List, [], ◌∷◌, ◌++◌, map, length, Option, Some, None, option_map, slice_get, slice_set, unwrap_or, refl, sym, ap, ◌∙◌, subst}
use Rattle.std.proofs.lemmas.List.{append-nil, append_assoc, map-append, length-set}
use Rattle.std.proofs.lemmas.Option.{get_or_from_slice_get, option_and_then_some, same_Some}
use Rattle.std.proofs.Math.Seq.{map-set_same}
use Rattle.std.specs.Cmp.{IsEquivalence}
use Rattle.cil_model.specs.declared.types.DeclaredType.{DeclaredType}
use Rattle.cil_model.specs.Same.{same_text}
use Rattle.cil_model.specs.Fields.{FieldKey, same_key}
use Rattle.reference_machine.specs.Values.{ObjectName, Born, Literal, Value, same_kind}
use Rattle.reference_machine.specs.States.{Monitor, Contents, Instance, Array, HeapObject, State, entry_at, with_entry, same_kind_or_none, replaced_entry, replaced_at, object_at, with_object, fields_of_contents, elements_of_contents, with_fields, with_field, with_element, with_birth, with_monitor}
use Rattle.reference_machine.specs.Growth.{OfInstance, OfArray, shape_of, shapes, Continues, Follows}
use Rattle.cil_model.proofs.Lists.{none_is_some}
use Rattle.cil_model.proofs.SameLaws.{if_false, same_text_equal, same_text_itself, equivalence}

-- ---- lists

pub continues_itself : {X : Type 0} (xs : List X) → Continues xs xs
continues_itself xs = ([], sym (append-nil xs))

pub continues_more : {X : Type 0} (xs ys zs : List X) → Continues zs ys → Continues ys xs → Continues zs xs
continues_more xs ys zs (more, e) (less, e') = (less ++ more, e ∙ ap (λ l. l ++ more) e' ∙ append_assoc xs less more)

continues_equal : {X : Type 0} (xs ys : List X) → ys ≡ xs → Continues ys xs
continues_equal xs ys e = ([], e ∙ sym (append-nil xs))

-- an option that results from another by a map
pub mapped_some : {A B P : Type 0} (f : A → B) (o : Option A) (y : B) → option_map f o ≡ Some y → ((x : A) → o ≡ Some x → f x ≡ y → P) → P
mapped_some f None y e go = none_is_some y e
mapped_some f (Some x) y e go = go x refl (same_Some (f x) y e)

-- what is true of a new item, and of each item that was there, is true of each item after a change
pub item_passes : {X B : Type 0} (P : X → Type 0) (y x : X) → P y → (B → P x) → (x ≡ y) ⊎ B → P x
item_passes P y x new was (inl is) = subst P (sym is) new
item_passes P y x new was (inr there) = was there

-- entries keep their keys
keys_stay : {K V : Type 0} (same : K → K → Bool) (k : K) (v : V) (es : List (K × V)) → map (λ (e : K × V). e.0) (with_entry same k v es) ≡ map (λ (e : K × V). e.0) es
keys_stay same k v [] = refl
keys_stay {K} {V} same k v (e ∷ es) = by_test (same e.0 k) (keys_stay same k v es)
  where
    by_test : (b : Bool) → map (λ (x : K × V). x.0) (with_entry same k v es) ≡ map (λ (x : K × V). x.0) es → map (λ (x : K × V). x.0) (if b then (e.0, v) ∷ es else e ∷ with_entry same k v es) ≡ map (λ (x : K × V). x.0) (e ∷ es)
    by_test true later = refl
    by_test false later = ap (λ ks. e.0 ∷ ks) later

-- what is stored in place of a value of its kind is what was to be stored
pub replaced_is : {X : Type 0} (old : Option Value) (v : Value) (x y : X) → same_kind_or_none old v x ≡ Some y → x ≡ y
replaced_is None v x y e = none_is_some y e
replaced_is {X} (Some w) v x y e = by_test (same_kind w v) e
  where
    by_test : (b : Bool) → (if b then Some x else None) ≡ Some y → x ≡ y
    by_test true h = same_Some x y h
    by_test false h = none_is_some y h

pub replaced_keys : (k : FieldKey) (v : Value) (es es' : List (FieldKey × Value)) → replaced_entry k v es ≡ Some es' → map (λ (e : FieldKey × Value). e.0) es' ≡ map (λ (e : FieldKey × Value). e.0) es
replaced_keys k v es es' h = ap (map (λ (e : FieldKey × Value). e.0)) (sym (replaced_is (entry_at same_key k es) v (with_entry same_key k v es) es' h)) ∙ keys_stay same_key k v es

replaced_length : (n : ℕ) (v : Value) (vs vs' : List Value) → replaced_at n v vs ≡ Some vs' → length vs' ≡ length vs
replaced_length n v vs vs' h = ap length (sym (replaced_is (slice_get vs n) v (slice_set vs n v) vs' h)) ∙ length-set vs n v

-- ---- states

pub follows_itself : (s : State) → Follows s s
follows_itself s = record { objects = continues_itself (shapes s); statics = refl; literals_stay = refl; printed = continues_itself s.printed }

pub follows_more : (s t u : State) → Follows s t → Follows t u → Follows s u
follows_more s t u h k = record {
  objects = continues_more (shapes s) (shapes t) (shapes u) k.objects h.objects;
  statics = k.statics ∙ h.statics;
  literals_stay = k.literals_stay ∙ h.literals_stay;
  printed = continues_more s.printed t.printed u.printed k.printed h.printed;
}

-- another object of the same shape in place of one
pub follows_object : (s : State) (n : ℕ) (o o' : HeapObject) → slice_get s.objects n ≡ Some o → shape_of o'.contents ≡ shape_of o.contents → Follows s (with_object s (Born n) o')
follows_object s n o o' there same = record {
  objects = continues_equal (shapes s) (shapes (with_object s (Born n) o'))
      (map-set_same (λ (x : HeapObject). shape_of x.contents) s.objects n o' o (same ∙ sym (ap (λ (x : HeapObject). shape_of x.contents) (get_or_from_slice_get s.objects n o o there))));
  statics = refl;
  literals_stay = refl;
  printed = continues_itself s.printed;
}

-- the same, of a name that is an object's
pub follows_object_at : (s : State) (n : ObjectName) (o o' : HeapObject) → object_at s n ≡ Some o → shape_of o'.contents ≡ shape_of o.contents → Follows s (with_object s n o')
follows_object_at s (Born n) o o' there same = follows_object s n o o' there same
follows_object_at s (Literal characters) o o' there same = follows_itself s

pub follows_birth : (s : State) (contents : Contents) → Follows s (with_birth s contents)
follows_birth s contents = record {
  objects = (shape_of contents ∷ [], map-append (λ (x : HeapObject). shape_of x.contents) s.objects _);
  statics = refl;
  literals_stay = refl;
  printed = continues_itself s.printed;
}

pub follows_field : (s : State) (n : ObjectName) (k : FieldKey) (v : Value) (s' : State) → with_field s n k v ≡ Some s' → Follows s s'
follows_field s n k v s' h =
    option_and_then_some _ (object_at s n) s' h (λ o there h'.
    option_and_then_some _ (fields_of_contents o.contents) s' h' (λ fields held h''.
    mapped_some _ (replaced_entry k v fields) s' h'' (λ fields' stored e.
    subst (Follows s) e (follows_object_at s n o (record o { contents = with_fields o.contents fields' }) there (by_contents o.contents fields fields' held (replaced_keys k v fields fields' stored))))))
  where
    by_contents : (c : Contents) (fields fields' : List (FieldKey × Value)) → fields_of_contents c ≡ Some fields → map (λ (e : FieldKey × Value). e.0) fields' ≡ map (λ (e : FieldKey × Value). e.0) fields →
        shape_of (with_fields c fields') ≡ shape_of c
    by_contents (Instance c old) fields fields' held keys = ap (OfInstance c) (keys ∙ ap (map (λ (e : FieldKey × Value). e.0)) (sym (same_Some old fields held)))
    by_contents (Array t elements) fields fields' held keys = refl

pub follows_element : (s : State) (n : ObjectName) (i : ℕ) (v : Value) (s' : State) → with_element s n i v ≡ Some s' → Follows s s'
follows_element s n i v s' h =
    option_and_then_some _ (object_at s n) s' h (λ o there h'.
    option_and_then_some _ (elements_of_contents o.contents) s' h' (λ array held h''.
    mapped_some _ (replaced_at i v array.1) s' h'' (λ elements stored e.
    subst (Follows s) e (follows_object_at s n o (record o { contents = Array array.0 elements }) there (by_contents o.contents array elements held (replaced_length i v array.1 elements stored))))))
  where
    by_contents : (c : Contents) (array : DeclaredType × List Value) (elements : List Value) → elements_of_contents c ≡ Some array → length elements ≡ length array.1 → OfArray array.0 (length elements) ≡ shape_of c
    by_contents (Instance c old) array elements held e = none_is_some array held
    by_contents (Array t old) array elements held e =
        let same : (t, old) ≡ array = same_Some (t, old) array held in
        ap (OfArray array.0) e ∙ sym (ap (λ (a : DeclaredType × List Value). OfArray a.0 (length a.1)) same)

pub follows_monitor : (s : State) (n : ObjectName) (m : Monitor) → Follows s (with_monitor s n m)
follows_monitor s (Born n) m = by_object (slice_get s.objects n) refl
  where
    by_object : (o : Option HeapObject) → slice_get s.objects n ≡ o → Follows s (with_monitor s (Born n) m)
    by_object None e = let P : Option HeapObject → Type 0 = λ x. Follows s (unwrap_or (option_map (λ (o : HeapObject). with_object s (Born n) (record o { monitor = m })) x) s) in subst P (sym e) (follows_itself s)
    by_object (Some o) e = let P : Option HeapObject → Type 0 = λ x. Follows s (unwrap_or (option_map (λ (o : HeapObject). with_object s (Born n) (record o { monitor = m })) x) s) in subst P (sym e) (follows_object s n o (record o { monitor = m }) e refl)
follows_monitor s (Literal characters) m = record {
  objects = continues_itself (shapes s);
  statics = refl;
  literals_stay = keys_stay same_text characters m s.literal_monitors;
  printed = continues_itself s.printed;
}

pub follows_statics : (s : State) (k : FieldKey) (v : Value) (statics : List (FieldKey × Value)) → replaced_entry k v s.statics ≡ Some statics → Follows s (record s { statics = statics })
follows_statics s k v statics h = record { objects = continues_itself (shapes s); statics = replaced_keys k v s.statics statics h; literals_stay = refl; printed = continues_itself s.printed }

-- ---- a value that was stored is loaded again

module _ {K V : Type 0} (same : K → K → Bool) (laws : IsEquivalence same) where
  -- and nothing else under another key
  pub entry_kept : (j k : K) (v : V) (es : List (K × V)) → same k j ≡ false → entry_at same j (with_entry same k v es) ≡ entry_at same j es
  entry_kept j k v [] other = refl
  entry_kept j k v (e ∷ es) other = by_test (same e.0 k) refl (entry_kept j k v es other)
    where
      -- an entry of k's key is none of j's
      apart : same e.0 k ≡ true → same e.0 j ≡ false
      apart h = laws.congr e.0 k j h ∙ other

      by_test : (b : Bool) → same e.0 k ≡ b → entry_at same j (with_entry same k v es) ≡ entry_at same j es →
          entry_at same j (if b then (e.0, v) ∷ es else e ∷ with_entry same k v es) ≡ (if same e.0 j then Some e.1 else entry_at same j es)
      by_test true h later = if_false (same e.0 j) (Some v) (entry_at same j es) (apart h) ∙ sym (if_false (same e.0 j) (Some e.1) (entry_at same j es) (apart h))
      by_test false h later = ap (λ rest. if same e.0 j then Some e.1 else rest) later

pub text_equivalence : IsEquivalence same_text
text_equivalence = equivalence same_text same_text_itself same_text_equal
