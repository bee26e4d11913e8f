-- What rises has fewer types above it.
use Rattle.std.proofs.Common.{◌≡◌, ◌≤◌, ◌<◌, ◌+◌, ◌*◌, ◌^◌, ℕ, zero, suc, ℤ, pos, negsuc, ◌≤ℤ◌, List, [], ◌∷◌, length, Option, Some, None, option_and_then, slice_get, slice_set, refl, sym, ap, subst, arith}
use Rattle.std.proofs.lemmas.Int.{ints}
use Rattle.std.specs.Option.{option_map_or}
use Rattle.std.proofs.lemmas.Option.{same_Some}
use Rattle.cil_model.specs.declared.types.DeclaredType.{DeclaredType}
use Rattle.cil_model.specs.declared.trees.Tree.{Tree}
use Rattle.cil_model.specs.Chains.{longest_chain}
use Rattle.cil_model.specs.TypeTree.{StackType, Declared, Null, parent, ancestor, IsBelow}
use Rattle.cil_model.specs.Legality.{IsLegal}
use Rattle.flow_rules.proofs.AncestorChains.{too_far}
use Rattle.verifier.specs.Rises.{rises_within, most_rises, rises, stack_rises, row_rises, table_rises, most_values}
use Rattle.cil_model.proofs.Lists.{none_is_some}

module _ (tree : Tree) where
  -- how many parents are counted is of no matter once they have ended
  agree : (n m : ℕ) (t : DeclaredType) → ancestor tree n t ≡ None → ancestor tree m t ≡ None → rises_within tree n t ≡ rises_within tree m t
  unfolding rises_within
  agree zero m t e f = none_is_some t (sym e)
  agree (suc n) zero t e f = none_is_some t (sym f)
  agree (suc n) (suc m) t e f = by_parent (parent tree t) e f (λ p e' f'. agree n m p e' f')
    where
      by_parent : (o : Option DeclaredType) → option_and_then (ancestor tree n) o ≡ None → option_and_then (ancestor tree m) o ≡ None →
          ((p : DeclaredType) → ancestor tree n p ≡ None → ancestor tree m p ≡ None → rises_within tree n p ≡ rises_within tree m p) →
          option_map_or (λ p. suc (rises_within tree n p)) o 0 ≡ option_map_or (λ p. suc (rises_within tree m p)) o 0
      by_parent None e' f' further = refl
      by_parent (Some p) e' f' further = ap suc (further p e' f')

  fewer : (n k r : ℕ) (a b : DeclaredType) → ancestor tree r a ≡ None → ancestor tree k b ≡ None → ancestor tree (suc n) a ≡ Some b → rises_within tree k b < rises_within tree r a
  unfolding rises_within
  fewer n k zero a b e f g = none_is_some a (sym e)
  fewer n k (suc r) a b e f g = by_parent n (parent tree a) e g (λ m p e' g'. fewer m k r p b e' f g')
    where
      at_once : (p : DeclaredType) → ancestor tree r p ≡ None → p ≡ b → rises_within tree k b < suc (rises_within tree r p)
      at_once p e' same =
          let P : DeclaredType → Type 0 = λ x. ancestor tree k x ≡ None in
          let Q : DeclaredType → Type 0 = λ x. rises_within tree k x < suc (rises_within tree r p) in
          let equal : rises_within tree k p ≡ rises_within tree r p = agree k r p (subst P (sym same) f) e' in
          subst Q same (omega (arith, equal))

      by_number : (m : ℕ) (p : DeclaredType) → ancestor tree r p ≡ None → ancestor tree m p ≡ Some b →
          ((l : ℕ) (q : DeclaredType) → ancestor tree r q ≡ None → ancestor tree (suc l) q ≡ Some b → rises_within tree k b < rises_within tree r q) →
          rises_within tree k b < suc (rises_within tree r p)
      by_number zero p e' g' further = at_once p e' (same_Some p b g')
      by_number (suc m) p e' g' further = let lower : rises_within tree k b < rises_within tree r p = further m p e' g' in omega (arith, lower)

      by_parent : (m : ℕ) (o : Option DeclaredType) → option_and_then (ancestor tree r) o ≡ None → option_and_then (ancestor tree m) o ≡ Some b →
          ((l : ℕ) (q : DeclaredType) → ancestor tree r q ≡ None → ancestor tree (suc l) q ≡ Some b → rises_within tree k b < rises_within tree r q) →
          rises_within tree k b < option_map_or (λ p. suc (rises_within tree r p)) o 0
      by_parent m None e' g' further = none_is_some b g'
      by_parent m (Some p) e' g' further = by_number m p e' g' further

  at_most : (n : ℕ) (t : DeclaredType) → rises_within tree n t ≤ n
  unfolding rises_within
  at_most zero t = omega arith
  at_most (suc n) t = by_parent (parent tree t) (λ p. at_most n p)
    where
      by_parent : (o : Option DeclaredType) → ((p : DeclaredType) → rises_within tree n p ≤ n) → option_map_or (λ p. suc (rises_within tree n p)) o 0 ≤ suc n
      by_parent None further = omega arith
      by_parent (Some p) further = let lower : rises_within tree n p ≤ n = further p in omega (arith, lower)

  absent : (o : Option DeclaredType) → ((u : DeclaredType) → o ≡ Some u → ⊥) → o ≡ None
  absent None h = refl
  absent (Some u) h = absurd (h u refl)

  ended : IsLegal tree → (t : DeclaredType) → t.brackets < 2 ^ 32 → ancestor tree (most_rises tree) t ≡ None
  unfolding most_rises
  ended legal t small = absent (ancestor tree (most_rises tree) t) (λ u e. too_far tree legal (most_rises tree) (longest_chain tree + t.brackets + 2) t u (omega arith) (omega (arith, small)) e)

  pub type_falls : IsLegal tree → (a b : DeclaredType) → a.brackets < 2 ^ 32 → b.brackets < 2 ^ 32 → IsBelow tree (Declared a) (Declared b) → (a ≡ b → ⊥) → rises tree (Declared b) < rises tree (Declared a)
  type_falls legal a b small low (zero, e) differs = absurd (differs (same_Some a b e))
  type_falls legal a b small low (suc n, e) differs = fewer n (most_rises tree) (most_rises tree) a b (ended legal a small) (ended legal b low) e

  pub null_falls : (t : DeclaredType) → rises tree (Declared t) < rises tree Null
  null_falls t = let lower : rises_within tree (most_rises tree) t ≤ most_rises tree = at_most (most_rises tree) t in omega (arith, lower)

  -- ---- stacks

  bounded : (a : StackType) → rises tree a ≤ suc (most_rises tree)
  bounded (Declared t) = let lower : rises_within tree (most_rises tree) t ≤ most_rises tree = at_most (most_rises tree) t in omega (arith, lower)
  bounded _ = omega arith

  pub stack_bounded : (stack : List StackType) → stack_rises tree stack ≤ length stack * suc (most_rises tree)
  stack_bounded [] = omega arith
  stack_bounded (a ∷ rest) =
      let first : rises tree a ≤ suc (most_rises tree) = bounded a in
      let others : stack_rises tree rest ≤ length rest * suc (most_rises tree) = stack_bounded rest in
      let split : suc (length rest) * suc (most_rises tree) ≡ suc (most_rises tree) + length rest * suc (most_rises tree) = grind arith in
      omega (arith, first, others, split)

  -- ---- tables

  pub table_falls : (most : ℕ) (found : List (Option (List StackType))) (n : ℕ) (row new : Option (List StackType)) → slice_get found n ≡ Some row →
      row_rises tree most new < row_rises tree most row → table_rises tree most (slice_set found n new) < table_rises tree most found
  table_falls most [] n row new e lower = none_is_some row e
  table_falls most (r ∷ rows) zero row new e lower =
      let same : r ≡ row = cc in
      let own : row_rises tree most new < row_rises tree most r = subst (λ (v : Option (List StackType)). row_rises tree most new < row_rises tree most v) (sym same) lower in
      omega (arith, own)
  table_falls most (r ∷ rows) (suc n) row new e lower =
      let further : table_rises tree most (slice_set rows n new) < table_rises tree most rows = table_falls most rows n row new e lower in
      omega (arith, further)

  small_height : (n : ℕ) (max_stack : ℤ) → pos n ≤ℤ max_stack → n ≤ most_values max_stack
  small_height n (pos m) h = grind (arith, ints, h)
  small_height n (negsuc m) h = absurd (grind (arith, ints, h))

  pub first_falls : (max_stack : ℤ) (stack : List StackType) → pos (length stack) ≤ℤ max_stack → row_rises tree (most_values max_stack) (Some stack) < row_rises tree (most_values max_stack) None
  first_falls max_stack stack h =
      let few : length stack ≤ most_values max_stack = small_height (length stack) max_stack h in
      let lower : stack_rises tree stack ≤ length stack * suc (most_rises tree) = stack_bounded stack in
      let product : length stack * suc (most_rises tree) ≤ most_values max_stack * suc (most_rises tree) = grind (arith, few) in
      omega (arith, lower, product)
