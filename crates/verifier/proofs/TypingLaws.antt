-- The typings of all methods, one after another.
use Rattle.std.proofs.Common.{◌≡◌, ◌<◌, ◌≤◌, ◌⊎◌, ◌+◌, ℕ, List, [], ◌∷◌, ◌++◌, map, length, get_or, Option, Some, None, option_map, slice_get, Ok, Err, refl, sym, ap, subst, ◌∙◌, zero, suc, inl, inr, arith}
use Rattle.std.proofs.lemmas.Option.{slice_get-map, slice_get_read, slice_get-get_or, slice_get_within, get_or_from_slice_get, same_Some}
use Rattle.std.specs.Prelude.{IfSome}
use Rattle.std.proofs.lemmas.List.{length-map, length-append}
use Rattle.cil_model.specs.Legality.{IsLegal}
use Rattle.cil_model.specs.declared.types.ClassName.{ClassName}
use Rattle.cil_model.specs.declared.trees.Tree.{Tree}
use Rattle.cil_model.specs.declared.trees.Method.{Method}
use Rattle.cil_model.specs.Bodies.{source_methods}
use Rattle.cil_model.specs.Typings.{Typing, IsTyping, IsAccepted, IsFirstUntyped}
use Rattle.flow_rules.specs.declared.entries.StackEntry.{StackEntry}
use Rattle.name_tables.specs.declared.ids.MethodId.{MethodId}
use Rattle.name_tables.specs.Numbers.{method_at}
use Rattle.verifier.specs.Answers.{typing_of}
use Rattle.verifier.specs.declared.failures.TypingError.{TypingError}
use Rattle.verifier.specs.declared.failures.TypingError.TheVariants as OfMethod
use Rattle.verifier.specs.declared.refusals.VerifyError.{VerifyError}
use Rattle.verifier.specs.declared.refusals.VerifyError.TheVariants.{NoTyping, OutOfMemory}
use Rattle.verifier.specs.Members.{methods_at}
use Rattle.verifier.specs.Verdicts.{AreTypings, AreOfMethods, AreVerdicts, IsMethodVerdict, IsRefusalOf}
use Rattle.cil_model.proofs.Lists.{none_is_outside, none_is_some}

-- the method of a number, as the source has it
pub method_there : (tree : Tree) (members : List MethodId) (n : ℕ) (member : MethodId) → methods_at tree members ≡ map Some (source_methods tree) → n < length members → member ≡ get_or members n member →
    (owner : ClassName) × (m : Method) × (slice_get (source_methods tree) n ≡ Some (owner, m)) × (method_at tree (member.class, member.index) ≡ Some (owner, m))
method_there tree members n member all below at = by_method (slice_get (source_methods tree) n) refl shown
  where
    there : slice_get members n ≡ Some member
    there = slice_get_read members (length members) n member refl below at

    shown : Some (method_at tree (member.class, member.index)) ≡ option_map Some (slice_get (source_methods tree) n)
    shown = sym (slice_get-map (λ (k : MethodId). method_at tree (k.class, k.index)) members n ∙ ap (option_map (λ (k : MethodId). method_at tree (k.class, k.index))) there)
        ∙ (ap (λ ms. slice_get ms n) all ∙ slice_get-map Some (source_methods tree) n)

    by_method : (o : Option (ClassName × Method)) → slice_get (source_methods tree) n ≡ o → Some (method_at tree (member.class, member.index)) ≡ option_map Some o →
        (owner : ClassName) × (m : Method) × (slice_get (source_methods tree) n ≡ Some (owner, m)) × (method_at tree (member.class, member.index) ≡ Some (owner, m))
    by_method None e h = none_is_some _ (sym h)
    by_method (Some x) e h = (x.0, x.1, e, same_Some _ _ h)

-- ---- typings that are kept

-- what is in a list with one more at its end
after_end : {X : Type 0} (xs : List X) (x : X) (n : ℕ) → (slice_get (xs ++ x ∷ []) n ≡ slice_get xs n) ⊎ ((n ≡ length xs) × (slice_get (xs ++ x ∷ []) n ≡ Some x))
after_end [] x zero = inr (refl, refl)
after_end [] x (suc n) = inl refl
after_end (y ∷ ys) x zero = inl refl
after_end {X} (y ∷ ys) x (suc n) = following (after_end ys x n)
  where
    following : (slice_get (ys ++ x ∷ []) n ≡ slice_get ys n) ⊎ ((n ≡ length ys) × (slice_get (ys ++ x ∷ []) n ≡ Some x)) →
        (slice_get (ys ++ x ∷ []) n ≡ slice_get ys n) ⊎ ((suc n ≡ suc (length ys)) × (slice_get (ys ++ x ∷ []) n ≡ Some x))
    following (inl e) = inl e
    following (inr (e, at)) = inr (ap suc e, at)

pub none_kept : (tree : Tree) → AreOfMethods tree []
none_kept tree n rows owner m at here = none_is_some _ at

module _ (tree : Tree) (typings : List (List (Option (List StackEntry)))) (kept : AreOfMethods tree typings) where
  -- one more is kept
  pub one_more : (owner : ClassName) (m : Method) (rows : List (Option (List StackEntry))) → slice_get (source_methods tree) (length typings) ≡ Some (owner, m) → IsTyping tree owner m (typing_of tree rows) →
      AreOfMethods tree (typings ++ rows ∷ [])
  one_more owner m rows there typed n found o k at here = by_index (after_end typings rows n)
    where
      by_index : (slice_get (typings ++ rows ∷ []) n ≡ slice_get typings n) ⊎ ((n ≡ length typings) × (slice_get (typings ++ rows ∷ []) n ≡ Some rows)) → IsTyping tree o k (typing_of tree found)
      by_index (inl e) = kept n found o k (sym e ∙ at) here
      by_index (inr (last, e)) =
          let same_rows : rows ≡ found = same_Some _ _ (sym e ∙ at) in
          let same : (owner, m) ≡ (o, k) = same_Some _ _ (sym there ∙ (ap (slice_get (source_methods tree)) (sym last) ∙ here)) in
          subst (λ (T : Type 0). T) (λ i. let s : ClassName × Method = same i in IsTyping tree s.0 s.1 (typing_of tree (same_rows i))) typed

  -- the first method after them is the first without a typing, where it has none
  pub first_untyped : (n : ℕ) (owner : ClassName) (m : Method) → length typings ≡ n → slice_get (source_methods tree) n ≡ Some (owner, m) → ((typing : Typing) → IsTyping tree owner m typing → ⊥) → IsFirstUntyped tree n
  first_untyped n owner m counted there none = record {
    earlier = λ k o x below here. (typing_of tree (get_or typings k []), kept k (get_or typings k []) o x (slice_get-get_or typings k [] (subst (λ (z : ℕ). k < z) (sym counted) below)) here);
    untyped = (owner, m, there, none);
  }

-- a legal program is accepted where one is kept of each method
pub accepted : (tree : Tree) (typings : List (List (Option (List StackEntry)))) → IsLegal tree → AreTypings tree typings → IsAccepted tree
accepted tree typings legal are = record {
  legal = legal;
  typed = λ n o x here. (typing_of tree (get_or typings n []), are.each n (get_or typings n []) o x (slice_get-get_or typings n [] (subst (λ (z : ℕ). n < z) (sym are.whole) (slice_get_within (source_methods tree) n (o, x) here))) here);
}

-- the methods of that many numbers
pub same_count : (tree : Tree) (members : List MethodId) → methods_at tree members ≡ map Some (source_methods tree) → length members ≡ length (source_methods tree)
same_count tree members all = sym (length-map members (λ (k : MethodId). method_at tree (k.class, k.index))) ∙ (ap length all ∙ length-map (source_methods tree) Some)

-- a typing that is found by the number of a method is one of it
pub kept_at : {B : Type 0} (shown : B → List (Option (List StackEntry))) (tree : Tree) (typings : List (List (Option (List StackEntry)))) (n : ℕ) (found : Option B) (owner : ClassName) (m : Method) →
    option_map shown found ≡ slice_get typings n → AreOfMethods tree typings → slice_get (source_methods tree) n ≡ Some (owner, m) → IfSome found (λ b. IsTyping tree owner m (typing_of tree (shown b)))
kept_at shown tree typings n None owner m e kept here = tt
kept_at shown tree typings n (Some b) owner m e kept here = kept n (shown b) owner m (sym e) here

-- where none is found there is no method of the number
pub absent_at : {B : Type 0} (shown : B → List (Option (List StackEntry))) (tree : Tree) (typings : List (List (Option (List StackEntry)))) (n : ℕ) (found : Option B) →
    option_map shown found ≡ slice_get typings n → AreTypings tree typings → found ≡ None → slice_get (source_methods tree) n ≡ None
absent_at shown tree typings n found e are absent = by_method (slice_get (source_methods tree) n) refl
  where
    missing : None ≡ slice_get typings n
    missing = sym (ap (option_map shown) absent) ∙ e

    by_method : (o : Option (ClassName × Method)) → slice_get (source_methods tree) n ≡ o → slice_get (source_methods tree) n ≡ None
    by_method None h = h
    by_method (Some x) h = none_is_some _ (missing ∙ slice_get-get_or typings n [] (subst (λ (z : ℕ). n < z) (sym are.whole) (slice_get_within (source_methods tree) n x h)))

-- where there is no method of the number none is found
pub none_beyond : {B : Type 0} (shown : B → List (Option (List StackEntry))) (tree : Tree) (typings : List (List (Option (List StackEntry)))) (n : ℕ) (found : Option B) →
    option_map shown found ≡ slice_get typings n → AreTypings tree typings → slice_get (source_methods tree) n ≡ None → found ≡ None
none_beyond shown tree typings n None e are beyond = refl
none_beyond shown tree typings n (Some b) e are beyond =
    let within : n < length typings = slice_get_within typings n (shown b) (sym e) in
    let outside : length (source_methods tree) ≤ n = none_is_outside (source_methods tree) n beyond in
    let whole : length typings ≡ length (source_methods tree) = are.whole in
    absurd (omega (arith, within, outside, whole))

-- ---- one method after another

module _ (tree : Tree) (members : List MethodId) (typings : List (List (Option (List StackEntry)))) (n : ℕ) (other : MethodId) (all : methods_at tree members ≡ map Some (source_methods tree))
    (below : n < length members) (counted : length typings ≡ n) (kept : AreOfMethods tree typings) where
  abbrev pub member : MethodId
  member = get_or members n other

  there : (owner : ClassName) × (m : Method) × (slice_get (source_methods tree) n ≡ Some (owner, m)) × (method_at tree (member.class, member.index) ≡ Some (owner, m))
  there = method_there tree members n member all below (sym (get_or_from_slice_get members n member member (slice_get-get_or members n other below)))

  -- the next typing is kept
  pub next_kept : (rows : List (Option (List StackEntry))) → ((owner : ClassName) (m : Method) → method_at tree (member.class, member.index) ≡ Some (owner, m) → IsMethodVerdict tree owner m (Ok rows)) →
      (length (typings ++ rows ∷ []) ≡ n + 1) × AreOfMethods tree (typings ++ rows ∷ [])
  next_kept rows reported =
      (length-append typings (rows ∷ []) ∙ ap (λ k. k + 1) counted, one_more tree typings kept there.0 there.1 rows (ap (slice_get (source_methods tree)) counted ∙ there.2) (reported there.0 there.1 there.3))

  -- the next method is the first without a typing
  pub next_refused : (error : TypingError) (refusal : VerifyError) → ((owner : ClassName) (m : Method) → method_at tree (member.class, member.index) ≡ Some (owner, m) → IsMethodVerdict tree owner m (Err error)) →
      IsRefusalOf n error refusal → AreVerdicts tree (Err refusal)
  next_refused (OfMethod.Untyped reported_of) (NoTyping method failure) reported is =
      subst (IsFirstUntyped tree) (sym is.0) (first_untyped tree typings kept n there.0 there.1 counted there.2 (reported there.0 there.1 there.3))
  next_refused OfMethod.OutOfMemory (NoTyping method failure) reported is = elim is [ ]
  next_refused _ _ _ _ = tt
