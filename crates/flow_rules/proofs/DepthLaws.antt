-- How many parents types have above them, and merges of types that have the same number of them.
use Rattle.std.proofs.Common.{◌≡◌, ◌≤◌, ◌<◌, ◌+◌, ◌-◌, ◌⊎◌, ℕ, zero, suc, Option, Some, None, option_map, option_and_then, inl, inr, sym, ap, ◌∙◌, subst, arith}
use Rattle.std.proofs.lemmas.Bool.{cases_lt}
use Rattle.std.proofs.lemmas.Option.{same_Some}
use Rattle.cil_model.specs.declared.types.DeclaredType.{DeclaredType}
use Rattle.cil_model.specs.declared.trees.Tree.{Tree}
use Rattle.cil_model.specs.TypeTree.{StackType, Declared, NativeInt, Null, parent, ancestor, IsBelow, IsMerge}
use Rattle.cil_model.proofs.MergeLaws.{on_from}
use Rattle.cil_model.proofs.Lists.{none_is_some}
use Rattle.cil_model.proofs.BelowLaws.{declared_is_null, declared_is_native, climb, transitive}
use Rattle.flow_rules.specs.Merging.{IsDepth, AreLevel, IsMerged}
use Rattle.flow_rules.specs.StackTypes.{type_named}
use Rattle.resolved_code.specs.declared.types.ResolvedType.{ResolvedType}
use Rattle.flow_rules.specs.declared.entries.StackEntry.TheVariants as Entry
use Rattle.flow_rules.proofs.AncestorChains.{beyond, closest, apart}

module _ (tree : Tree) where
  -- a type has one depth
  one_depth : (a : DeclaredType) (m n : ℕ) → IsDepth tree a m → IsDepth tree a n → m ≡ n
  one_depth a m n (t, e, f) (u, g, h) = by_order (cases_lt m n) (cases_lt n m)
    where
      by_order : (m < n) ⊎ (n ≤ m) → (n < m) ⊎ (m ≤ n) → m ≡ n
      by_order (inl l) k = absurd (beyond tree m n a t u e f l g)
      by_order (inr l) (inl k) = absurd (beyond tree n m a u t g h k e)
      by_order (inr l) (inr k) = omega (arith, l, k)

  -- an ancestor that is i parents above a type with n parents has n - i parents
  depth_above : (i n : ℕ) (a v : DeclaredType) → ancestor tree i a ≡ Some v → IsDepth tree a n → (r : ℕ) × (r + i ≡ n) × IsDepth tree v r
  depth_above i n a v e (t, f, g) = by_order (cases_lt n i)
    where
      by_order : (n < i) ⊎ (i ≤ n) → (r : ℕ) × (r + i ≡ n) × IsDepth tree v r
      by_order (inl l) = absurd (beyond tree n i a t v f g l e)
      by_order (inr l) =
          let k : (k : ℕ) × (k ≡ i + (n - i)) × (ancestor tree k a ≡ ancestor tree (n - i) v) = climb tree i (n - i) a v e in
          let same : k.0 ≡ n = omega (arith, k.1, l) in
          (n - i, omega (arith, l), (t, sym k.2 ∙ ap (λ m. ancestor tree m a) same ∙ f, g))

  -- how far up a common ancestor is
  pub common_height : (m n i j : ℕ) (a b v : DeclaredType) → IsDepth tree a m → IsDepth tree b n → ancestor tree i a ≡ Some v → ancestor tree j b ≡ Some v → m + j ≡ n + i
  common_height m n i j a b v d e f g =
      let one : (r : ℕ) × (r + i ≡ m) × IsDepth tree v r = depth_above i m a v f d in
      let other : (r : ℕ) × (r + j ≡ n) × IsDepth tree v r = depth_above j n b v g e in
      let same : one.0 ≡ other.0 = one_depth v one.0 other.0 one.2 other.2 in
      omega (arith, one.1, other.1, same)

  -- a common ancestor of types with the same number of parents is the same number of parents above both
  together : (i j : ℕ) (a b v : DeclaredType) → AreLevel tree a b → ancestor tree i a ≡ Some v → ancestor tree j b ≡ Some v → ancestor tree i b ≡ Some v
  together i j a b v (n, d, e) f g =
      let same : j ≡ i = omega (arith, common_height n n i j a b v d e f g) in
      ap (λ m. ancestor tree m b) (sym same) ∙ g

  -- ---- both chains are climbed together

  -- none of the first k is common
  abbrev pub NoneYet : ℕ → DeclaredType → DeclaredType → Type 0
  NoneYet k a b = (j : ℕ) (v : DeclaredType) → j < k → ancestor tree j a ≡ Some v → ancestor tree j b ≡ Some v → ⊥

  pub level_closest : (k : ℕ) (a b u : DeclaredType) → AreLevel tree a b → NoneYet k a b → ancestor tree k a ≡ Some u → ancestor tree k b ≡ Some u → IsMerge tree (Declared a) (Declared b) (Declared u)
  level_closest k a b u level before one other = closest tree k a b u one (k, other) (λ i v l h (j, g). before i v l h (together i j a b v level h g))

  -- nor is the next
  pub none_next : (k : ℕ) (a b u w : DeclaredType) → NoneYet k a b → ancestor tree k a ≡ Some u → ancestor tree k b ≡ Some w → (u ≡ w → ⊥) → NoneYet (k + 1) a b
  none_next k a b u w before one other differs j v h e f = by_order (cases_lt j k)
    where
      by_order : (j < k) ⊎ (k ≤ j) → ⊥
      by_order (inl l) = before j v l e f
      by_order (inr l) =
          let same : j ≡ k = omega (arith, h, l) in
          let first : u ≡ v = same_Some u v (sym one ∙ ap (λ m. ancestor tree m a) (sym same) ∙ e) in
          let second : w ≡ v = same_Some w v (sym other ∙ ap (λ m. ancestor tree m b) (sym same) ∙ f) in
          differs (first ∙ sym second)

  -- where the one chain ends they have none in common
  pub level_apart : (k : ℕ) (a b u : DeclaredType) → AreLevel tree a b → NoneYet (k + 1) a b → ancestor tree k a ≡ Some u → parent tree u ≡ None →
      (above : StackType) → IsBelow tree (Declared a) above → IsBelow tree (Declared b) above → ⊥
  level_apart k a b u level before one last = apart tree a b everywhere
    where
      everywhere : (i : ℕ) (v : DeclaredType) → ancestor tree i a ≡ Some v → IsBelow tree (Declared b) (Declared v) → ⊥
      everywhere i v e (j, f) = by_order (cases_lt k i)
        where
          by_order : (k < i) ⊎ (i ≤ k) → ⊥
          by_order (inl l) = beyond tree k i a u v one last l e
          by_order (inr l) = before i v (omega (arith, l)) e (together i j a b v level e f)

  turned_level : (a b : DeclaredType) → AreLevel tree a b → AreLevel tree b a
  turned_level a b (n, d, e) = (n, e, d)

  -- the same where the other ends
  pub level_apart_second : (k : ℕ) (a b w : DeclaredType) → AreLevel tree a b → NoneYet (k + 1) a b → ancestor tree k b ≡ Some w → parent tree w ≡ None →
      (above : StackType) → IsBelow tree (Declared a) above → IsBelow tree (Declared b) above → ⊥
  level_apart_second k a b w level before other last above one two = level_apart k b a w (turned_level a b level) (λ j v l e f. before j v l f e) other last above two one

  -- ---- one is brought to the depth of the other

  no_gap : (k m : ℕ) (a t : DeclaredType) → k ≤ m → ancestor tree m a ≡ Some t → ancestor tree k a ≡ None → ⊥
  no_gap zero m a t h e f = none_is_some a (sym f)
  no_gap (suc k) zero a t h e f = absurd (omega (arith, h))
  no_gap (suc k) (suc m) a t h e f = by_parent (parent tree a) e f (λ p e' f'. no_gap k m p t (omega (arith, h)) e' f')
    where
      by_parent : (o : Option DeclaredType) → option_and_then (ancestor tree m) o ≡ Some t → option_and_then (ancestor tree k) o ≡ None →
          ((p : DeclaredType) → ancestor tree m p ≡ Some t → ancestor tree k p ≡ None → ⊥) → ⊥
      by_parent None e' f' further = none_is_some t e'
      by_parent (Some p) e' f' further = further p e' f'

  pub deep_enough : (m n : ℕ) (a : DeclaredType) → IsDepth tree a m → ancestor tree (m - n) a ≡ None → ⊥
  deep_enough m n a (t, e, f) h = no_gap (m - n) m a t (omega arith) e h

  pub brought_level : (m n : ℕ) (a b c d : DeclaredType) → IsDepth tree a m → IsDepth tree b n → ancestor tree (m - n) a ≡ Some c → ancestor tree (n - m) b ≡ Some d → AreLevel tree c d
  brought_level m n a b c d e f g h =
      let one : (r : ℕ) × (r + (m - n) ≡ m) × IsDepth tree c r = depth_above (m - n) m a c g e in
      let other : (r : ℕ) × (r + (n - m) ≡ n) × IsDepth tree d r = depth_above (n - m) n b d h f in
      let same : other.0 ≡ one.0 = omega (arith, one.1, other.1) in
      (one.0, one.2, subst (λ (r : ℕ). IsDepth tree d r) same other.2)

  -- what is above both is above what they were brought to
  above_brought : (m n : ℕ) (a b c d : DeclaredType) → IsDepth tree a m → IsDepth tree b n → ancestor tree (m - n) a ≡ Some c → ancestor tree (n - m) b ≡ Some d →
      (above : StackType) → IsBelow tree (Declared a) above → IsBelow tree (Declared b) above → IsBelow tree (Declared c) above × IsBelow tree (Declared d) above
  above_brought m n a b c d e f g h (Declared v) (i, one) (j, other) =
      let same : m + j ≡ n + i = common_height m n i j a b v e f one other in
      (on_from tree (m - n) i a c v (omega (arith, same)) g one, on_from tree (n - m) j b d v (omega (arith, same)) h other)
  above_brought m n a b c d e f g h Null one other = declared_is_null a one
  above_brought m n a b c d e f g h NativeInt one other = declared_is_native a one

  -- their merge is the merge
  pub merged_brought : (m n : ℕ) (first second one other : ResolvedType) (merged : Option ResolvedType) → IsDepth tree (type_named tree first) m → IsDepth tree (type_named tree second) n →
      ancestor tree (m - n) (type_named tree first) ≡ Some (type_named tree one) → ancestor tree (n - m) (type_named tree second) ≡ Some (type_named tree other) →
      IsMerged tree (Entry.Declared one) (Entry.Declared other) (option_map Entry.Declared merged) → IsMerged tree (Entry.Declared first) (Entry.Declared second) (option_map Entry.Declared merged)
  merged_brought m n first second one other None d e f g h = λ above under over.
      let both : IsBelow tree (Declared (type_named tree one)) above × IsBelow tree (Declared (type_named tree other)) above =
      above_brought m n (type_named tree first) (type_named tree second) (type_named tree one) (type_named tree other) d e f g above under over in
      h above both.0 both.1
  merged_brought m n first second one other (Some u) d e f g h = record {
    above_first = transitive tree (Declared (type_named tree first)) (Declared (type_named tree one)) (Declared (type_named tree u)) (m - n, f) h.above_first;
    above_second = transitive tree (Declared (type_named tree second)) (Declared (type_named tree other)) (Declared (type_named tree u)) (n - m, g) h.above_second;
    least = λ above under over.
        let both : IsBelow tree (Declared (type_named tree one)) above × IsBelow tree (Declared (type_named tree other)) above =
        above_brought m n (type_named tree first) (type_named tree second) (type_named tree one) (type_named tree other) d e f g above under over in
        h.least above both.0 both.1;
  }
