-- Stacks below others, and their merges entry by entry.
use Rattle.std.proofs.Common.{◌≡◌, ◌≤◌, ◌<◌, ◌+◌, ℕ, zero, suc, Bool, true, false, ◌||◌, get_or, List, [], ◌∷◌, ◌++◌, take, length, Some, None, slice_get, refl, sym, ap, ◌∙◌, subst, arith}
use Rattle.std.proofs.lemmas.List.{take_more, take_all}
use Rattle.std.proofs.lemmas.Option.{slice_get-get_or}
use Rattle.std.specs.Prelude.{Err}
use Rattle.cil_model.specs.declared.trees.Tree.{Tree}
use Rattle.cil_model.specs.TypeTree.{StackType, IsBelow, IsMerge}
use Rattle.cil_model.specs.Typings.{AreBelow}
use Rattle.cil_model.proofs.Lists.{none_is_some}
use Rattle.cil_model.proofs.BelowLaws.{reflexive, transitive}
use Rattle.flow_rules.specs.StackTypes.{stack_type, stack_types}
use Rattle.flow_rules.specs.Merging.{IsMerged}
use Rattle.flow_rules.specs.declared.entries.StackEntry.{StackEntry}
use Rattle.verifier.specs.StackMerges.{AreMerged, AreApart, IsEntryMerge, IsStackMerge}
use Rattle.verifier.specs.declared.merging.MergeError.{MergeError}
use Rattle.verifier.specs.declared.merging.MergeError.TheVariants.{Apart, OutOfMemory}
use Rattle.verifier.specs.Rises.{rises, stack_rises}
use Rattle.verifier.proofs.KeptLaws.{taken_with}

module _ (tree : Tree) where
  pub below_itself : (xs : List StackType) → AreBelow tree xs xs
  below_itself [] = tt
  below_itself (x ∷ xs) = (reflexive tree x, below_itself xs)

  pub below_through : (xs ys zs : List StackType) → AreBelow tree xs ys → AreBelow tree ys zs → AreBelow tree xs zs
  below_through (x ∷ xs) (y ∷ ys) (z ∷ zs) h k = (transitive tree x y z h.0 k.0, below_through xs ys zs h.1 k.1)
  below_through [] (y ∷ ys) zs h k = absurd h
  below_through (x ∷ xs) [] zs h k = absurd h
  below_through _ _ _ _ k = k

  pub as_high : (xs ys : List StackType) → AreBelow tree xs ys → length xs ≡ length ys
  as_high [] [] h = refl
  as_high (x ∷ xs) (y ∷ ys) h = ap suc (as_high xs ys h.1)
  as_high _ _ h = absurd h

  -- ---- merges, entry by entry

  abbrev pub AllMerged : List StackEntry → List StackEntry → List StackEntry → Type 0
  AllMerged [] [] [] = Unit {0}
  AllMerged (x ∷ xs) (y ∷ ys) (m ∷ ms) = IsMerge tree (stack_type tree x) (stack_type tree y) (stack_type tree m) × AllMerged xs ys ms
  AllMerged _ _ _ = ⊥

  pub one_more : (xs ys ms : List StackEntry) (x y m : StackEntry) → AllMerged xs ys ms → IsMerge tree (stack_type tree x) (stack_type tree y) (stack_type tree m) → AllMerged (xs ++ x ∷ []) (ys ++ y ∷ []) (ms ++ m ∷ [])
  one_more [] [] [] x y m h k = (k, tt)
  one_more (a ∷ as') (b ∷ bs) (c ∷ cs) x y m h k = (h.0, one_more as' bs cs x y m h.1 k)
  one_more _ _ _ _ _ _ h _ = absurd h

  above_first : (xs ys ms : List StackEntry) → AllMerged xs ys ms → AreBelow tree (stack_types tree xs) (stack_types tree ms)
  above_first [] [] [] h = tt
  above_first (a ∷ as') (b ∷ bs) (c ∷ cs) h = (h.0.above_first, above_first as' bs cs h.1)
  above_first _ _ _ h = absurd h

  above_second : (xs ys ms : List StackEntry) → AllMerged xs ys ms → AreBelow tree (stack_types tree ys) (stack_types tree ms)
  above_second [] [] [] h = tt
  above_second (a ∷ as') (b ∷ bs) (c ∷ cs) h = (h.0.above_second, above_second as' bs cs h.1)
  above_second _ _ _ h = absurd h

  least : (xs ys ms : List StackEntry) → AllMerged xs ys ms → (above : List StackType) → AreBelow tree (stack_types tree xs) above → AreBelow tree (stack_types tree ys) above → AreBelow tree (stack_types tree ms) above
  least [] [] [] h above one other = one
  least (a ∷ as') (b ∷ bs) (c ∷ cs) h (u ∷ us) one other = (h.0.least u one.0 other.0, least as' bs cs h.1 us one.1 other.1)
  least (a ∷ as') (b ∷ bs) (c ∷ cs) h [] one other = absurd one
  least _ _ _ h _ _ _ = absurd h

  pub whole : (xs ys ms : List StackEntry) → AllMerged xs ys ms → AreMerged tree (stack_types tree xs) (stack_types tree ys) (stack_types tree ms)
  whole xs ys ms h = record { above_first = above_first xs ys ms h; above_second = above_second xs ys ms h; least = least xs ys ms h }

  pub merged_more : (xs ys ms ns : List StackEntry) (n : ℕ) (x e m : StackEntry) → slice_get xs n ≡ Some x → n < length ys → AllMerged (take n xs) (take n ys) ms →
      IsMerge tree (stack_type tree x) (stack_type tree (get_or ys n e)) (stack_type tree m) → ns ≡ ms ++ m ∷ [] → AllMerged (take (n + 1) xs) (take (n + 1) ys) ns
  merged_more xs ys ms ns n x e m there within all one more =
      let P : List StackEntry → Type 0 = λ v. AllMerged v (take (n + 1) ys) ns in
      let Q : List StackEntry → Type 0 = λ v. AllMerged (take n xs ++ x ∷ []) v ns in
      let R : List StackEntry → Type 0 = λ v. AllMerged (take n xs ++ x ∷ []) (take n ys ++ get_or ys n e ∷ []) v in
      subst P (sym (taken_with xs n x there)) (subst Q (sym (take_more ys n e within)) (subst R (sym more) (one_more (take n xs) (take n ys) ms x (get_or ys n e) m all one)))

  pub merged_whole : (xs ys ms rs : List StackEntry) (n : ℕ) → length xs ≤ n → length ys ≤ n → AllMerged (take n xs) (take n ys) ms → rs ≡ ms → AreMerged tree (stack_types tree xs) (stack_types tree ys) (stack_types tree rs)
  merged_whole xs ys ms rs n past beyond all made =
      let P : List StackEntry → Type 0 = λ v. AllMerged v (take n ys) ms in
      let Q : List StackEntry → Type 0 = λ v. AllMerged xs v ms in
      whole xs ys rs (subst (λ v. AllMerged xs ys v) (sym made) (subst Q (take_all n ys beyond) (subst P (take_all n xs past) all)))

  -- ---- no stack is above both

  pub apart_at : (xs ys : List StackEntry) (n : ℕ) (x y : StackEntry) → slice_get xs n ≡ Some x → slice_get ys n ≡ Some y → IsMerged tree x y None → AreApart tree (stack_types tree xs) (stack_types tree ys)
  apart_at [] ys n x y e f none above one other = none_is_some x e
  apart_at (a ∷ as') [] n x y e f none above one other = none_is_some y f
  apart_at (a ∷ as') (b ∷ bs) n x y e f none [] one other = one
  apart_at (a ∷ as') (b ∷ bs) zero x y e f none (u ∷ us) one other =
      let first : a ≡ x = cc in
      let second : b ≡ y = cc in
      let P : StackEntry → Type 0 = λ z. IsBelow tree (stack_type tree z) u in
      none u (subst P first one.0) (subst P second other.0)
  apart_at (a ∷ as') (b ∷ bs) (suc n) x y e f none (u ∷ us) one other = apart_at as' bs n x y e f none us one.1 other.1

  length_named : (xs : List StackEntry) → length (stack_types tree xs) ≡ length xs
  length_named [] = refl
  length_named (x ∷ xs) = ap suc (length_named xs)

  pub apart_heights : (xs ys : List StackEntry) → (length xs ≡ length ys → ⊥) → AreApart tree (stack_types tree xs) (stack_types tree ys)
  apart_heights xs ys differ above one other = differ (sym (length_named xs) ∙ as_high (stack_types tree xs) above one ∙ sym (as_high (stack_types tree ys) above other) ∙ length_named ys)

  pub merge_fails : (xs ys : List StackEntry) (n : ℕ) (x d : StackEntry) (e : MergeError) → slice_get xs n ≡ Some x → n < length ys → IsEntryMerge tree x (get_or ys n d) (Err e) → IsStackMerge tree xs ys (Err e)
  merge_fails xs ys n x d (Apart reason) there within none = apart_at xs ys n x (get_or ys n d) there (slice_get-get_or ys n d within) none
  merge_fails xs ys n x d OutOfMemory there within none = tt

  -- ---- how far stacks may rise

  rises_more : (xs : List StackEntry) (x : StackEntry) → stack_rises tree (stack_types tree (xs ++ x ∷ [])) ≡ stack_rises tree (stack_types tree xs) + rises tree (stack_type tree x)
  rises_more [] x = omega arith
  rises_more (y ∷ ys) x = let further : stack_rises tree (stack_types tree (ys ++ x ∷ [])) ≡ stack_rises tree (stack_types tree ys) + rises tree (stack_type tree x) = rises_more ys x in omega (arith, further)

  -- a stack is another, or may rise less far
  abbrev pub IsKept : Bool → List StackEntry → List StackEntry → Type 0
  IsKept higher ms xs = (higher ≡ false → ms ≡ xs) × (higher ≡ true → stack_rises tree (stack_types tree ms) < stack_rises tree (stack_types tree xs))

  abbrev IsOneKept : Bool → StackEntry → StackEntry → Type 0
  IsOneKept higher m x = (higher ≡ false → m ≡ x) × (higher ≡ true → rises tree (stack_type tree m) < rises tree (stack_type tree x))

  kept_low : (higher : Bool) (ms xs : List StackEntry) → IsKept higher ms xs → stack_rises tree (stack_types tree ms) ≤ stack_rises tree (stack_types tree xs)
  kept_low false ms xs k = let e : stack_rises tree (stack_types tree ms) ≡ stack_rises tree (stack_types tree xs) = ap (λ v. stack_rises tree (stack_types tree v)) (k.0 refl) in omega (arith, e)
  kept_low true ms xs k = let lower : stack_rises tree (stack_types tree ms) < stack_rises tree (stack_types tree xs) = k.1 refl in omega (arith, lower)

  one_low : (higher : Bool) (m x : StackEntry) → IsOneKept higher m x → rises tree (stack_type tree m) ≤ rises tree (stack_type tree x)
  one_low false m x k = let e : rises tree (stack_type tree m) ≡ rises tree (stack_type tree x) = ap (λ v. rises tree (stack_type tree v)) (k.0 refl) in omega (arith, e)
  one_low true m x k = let lower : rises tree (stack_type tree m) < rises tree (stack_type tree x) = k.1 refl in omega (arith, lower)

  kept_one_more : (h b : Bool) (ms xs : List StackEntry) (m x : StackEntry) → IsKept h ms xs → IsOneKept b m x → IsKept (h || b) (ms ++ m ∷ []) (xs ++ x ∷ [])
  kept_one_more h b ms xs m x k l = (same h b k l, lower h b k l)
    where
      same : (h b : Bool) → IsKept h ms xs → IsOneKept b m x → h || b ≡ false → ms ++ m ∷ [] ≡ xs ++ x ∷ []
      same false false k l e = ap (λ v. v ++ m ∷ []) (k.0 refl) ∙ ap (λ v. xs ++ v ∷ []) (l.0 refl)
      same _ _ k l e = absurd (cc e)

      sums : stack_rises tree (stack_types tree ms) + rises tree (stack_type tree m) < stack_rises tree (stack_types tree xs) + rises tree (stack_type tree x) →
          stack_rises tree (stack_types tree (ms ++ m ∷ [])) < stack_rises tree (stack_types tree (xs ++ x ∷ []))
      sums h' = omega (arith, h', rises_more ms m, rises_more xs x)

      lower : (h b : Bool) → IsKept h ms xs → IsOneKept b m x → h || b ≡ true → stack_rises tree (stack_types tree (ms ++ m ∷ [])) < stack_rises tree (stack_types tree (xs ++ x ∷ []))
      lower false false k l e = absurd (cc e)
      lower false true k l e = let first = kept_low false ms xs k in let second = l.1 refl in sums (omega (arith, first, second))
      lower true b k l e = let first = k.1 refl in let second = one_low b m x l in sums (omega (arith, first, second))

  pub kept_more : (h b r : Bool) (ms ns xs : List StackEntry) (m x : StackEntry) (n : ℕ) → slice_get xs n ≡ Some x → IsKept h ms (take n xs) → IsOneKept b m x → r ≡ h || b → ns ≡ ms ++ m ∷ [] → IsKept r ns (take (n + 1) xs)
  kept_more h b r ms ns xs m x n there k l either more =
      let P : Bool → Type 0 = λ v. IsKept v ns (take (n + 1) xs) in
      let Q : List StackEntry → Type 0 = λ v. IsKept (h || b) v (take (n + 1) xs) in
      let R : List StackEntry → Type 0 = λ v. IsKept (h || b) (ms ++ m ∷ []) v in
      subst P (sym either) (subst Q (sym more) (subst R (sym (taken_with xs n x there)) (kept_one_more h b ms (take n xs) m x k l)))
