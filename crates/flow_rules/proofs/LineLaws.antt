-- The lines of elements above classes, as they are made, and types above others.
use Rattle.std.proofs.Common.{◌≡◌, ◌<◌, Option, None, option_and_then, ◌+◌, ◌-◌, ℕ, zero, suc, List, [], ◌∷◌, ◌++◌, length, Some, slice_get, slice_index_or, refl, sym, ap, ◌∙◌, subst, arith}
use Rattle.std.proofs.lemmas.Option.{same_Some, none-some}
use Rattle.cil_model.specs.declared.types.Element.TheVariants as Named
use Rattle.cil_model.specs.declared.trees.Tree.{Tree}
use Rattle.cil_model.specs.declared.types.DeclaredType.{DeclaredType}
use Rattle.cil_model.specs.Chains.{longest_chain}
use Rattle.cil_model.specs.Legality.{IsLegal}
use Rattle.cil_model.specs.TypeTree.{Declared, parent, parent_at, ancestor, IsBelow, IsMerge}
use Rattle.cil_model.proofs.BelowLaws.{typed, climb}
use Rattle.cil_model.proofs.Lists.{none_is_some}
use Rattle.resolved_code.specs.declared.types.ResolvedElement.{ResolvedElement}
use Rattle.resolved_code.specs.declared.types.ResolvedElement.TheVariants.{Object, Class}
use Rattle.resolved_code.specs.declared.types.ResolvedType.{ResolvedType}
use Rattle.flow_rules.specs.StackTypes.{element_named, type_named}
use Rattle.flow_rules.specs.Merging.{IsDepth, IsUp, IsLine, AreLines}
use Rattle.flow_rules.proofs.AncestorChains.{next, closest, type_ends}
use Rattle.flow_rules.proofs.DepthLaws.{common_height}

-- one more item after others
item_more : {X : Type 0} (P : ℕ → X → Type 0) (xs : List X) (y : X) → ((n : ℕ) (x : X) → slice_get xs n ≡ Some x → P n x) → P (length xs) y → (n : ℕ) (x : X) → slice_get (xs ++ y ∷ []) n ≡ Some x → P n x
item_more P [] y h here zero x e = subst (P 0) (same_Some y x e) here
item_more P [] y h here (suc n) x e = absurd (none-some x e)
item_more P (z ∷ zs) y h here zero x e = h zero x e
item_more P (z ∷ zs) y h here (suc n) x e = item_more (λ m. P (suc m)) zs y (λ m. h (suc m)) here n x e

-- one more row after others
row_more : {X : Type 0} (P : ℕ → List X → Type 0) (rows : List (List X)) (row : List X) → ((n : ℕ) → P n (slice_index_or rows n [])) → P (length rows) row → ((n : ℕ) → P n []) → (n : ℕ) → P n (slice_index_or (rows ++ row ∷ []) n [])
row_more P [] row h here none zero = here
row_more P [] row h here none (suc n) = none (suc n)
row_more P (r ∷ rs) row h here none zero = h zero
row_more P (r ∷ rs) row h here none (suc n) = row_more (λ m. P (suc m)) rs row (λ m. h (suc m)) here (λ m. none (suc m)) n

module _ (tree : Tree) where
  pub no_line : (class : ℕ) → IsLine tree class []
  no_line class n above e = absurd (none-some above e)

  pub line_more : (class : ℕ) (line : List ResolvedElement) (above : ResolvedElement) → IsLine tree class line → IsUp tree (Class class) (length line) above → IsLine tree class (line ++ above ∷ [])
  line_more class line above h here = item_more (λ n x. IsUp tree (Class class) n x) line above h here

  pub lines_more : (rows : List (List ResolvedElement)) (row : List ResolvedElement) → AreLines tree rows → IsLine tree (length rows) row → AreLines tree (rows ++ row ∷ [])
  lines_more rows row h here = row_more (λ class line. IsLine tree class line) rows row h here no_line

  pub no_lines : AreLines tree []
  no_lines class = no_line class

  -- one parent more
  pub up_more : (class n : ℕ) (here above : ResolvedElement) → IsUp tree (Class class) n here → ((brackets : ℕ) → parent_at tree (element_named tree here) brackets ≡ Some (typed (element_named tree above) brackets)) → IsUp tree (Class class) (n + 1) above
  up_more class n here above h parent = λ brackets. next tree n (typed (element_named tree (Class class)) brackets) (typed (element_named tree here) brackets) (typed (element_named tree above) brackets) (h brackets) (parent brackets)

  -- ---- types above others

  object_up : (n k m : ℕ) → k ≡ n + m → ancestor tree n (typed Named.Object k) ≡ Some (typed Named.Object m)
  object_up zero k m e = let same : k ≡ m = omega (arith, e) in ap (λ i. Some (typed Named.Object i)) same
  object_up (suc n) zero m e = absurd (omega (arith, e))
  object_up (suc n) (suc k) m e = object_up n k m (omega (arith, e))

  up_from : (class n : ℕ) (above : ResolvedElement) (below : ResolvedType) → below.element ≡ Class class → IsUp tree (Class class) n above → ancestor tree n (type_named tree below) ≡ Some (typed (element_named tree above) below.brackets)
  up_from class n above below e h = ap (λ x. ancestor tree n (typed (element_named tree x) below.brackets)) e ∙ h below.brackets

  pub above_by_class : (class : ℕ) (above below : ResolvedType) → below.element ≡ Class class → (index : ℕ) × IsUp tree (Class class) index above.element → above.brackets ≡ below.brackets → IsBelow tree (Declared (type_named tree below)) (Declared (type_named tree above))
  above_by_class class above below e h same = (h.0, up_from class h.0 above.element below e h.1 ∙ ap (λ k. Some (typed (element_named tree above.element) k)) (sym same))

  pub above_by_brackets : (class : ℕ) (above below : ResolvedType) → below.element ≡ Class class → (index : ℕ) × IsUp tree (Class class) index above.element → above.brackets < below.brackets → above.element ≡ Object → IsBelow tree (Declared (type_named tree below)) (Declared (type_named tree above))
  above_by_brackets class above below e h fewer object =
      let reached : ancestor tree h.0 (type_named tree below) ≡ Some (typed Named.Object below.brackets) = up_from class h.0 above.element below e h.1 ∙ ap (λ x. Some (typed (element_named tree x) below.brackets)) object in
      let further : ancestor tree (below.brackets - above.brackets) (typed Named.Object below.brackets) ≡ Some (typed Named.Object above.brackets) = object_up (below.brackets - above.brackets) below.brackets above.brackets (omega (arith, fewer)) in
      let both : (k : ℕ) × (k ≡ h.0 + (below.brackets - above.brackets)) × (ancestor tree k (type_named tree below) ≡ ancestor tree (below.brackets - above.brackets) (typed Named.Object below.brackets)) =
      climb tree h.0 (below.brackets - above.brackets) (type_named tree below) (typed Named.Object below.brackets) reached in
      (both.0, both.2 ∙ further ∙ ap (λ x. Some (typed (element_named tree x) above.brackets)) (sym object))

  -- the one that is above the other is their merge
  pub merged_first : (a b : ResolvedType) → IsBelow tree (Declared (type_named tree b)) (Declared (type_named tree a)) → IsMerge tree (Declared (type_named tree a)) (Declared (type_named tree b)) (Declared (type_named tree a))
  merged_first a b h = record { above_first = (0, refl); above_second = h; least = λ other k l. k }

  pub merged_second : (a b : ResolvedType) → IsBelow tree (Declared (type_named tree a)) (Declared (type_named tree b)) → IsMerge tree (Declared (type_named tree a)) (Declared (type_named tree b)) (Declared (type_named tree b))
  merged_second a b h = record { above_first = h; above_second = (0, refl); least = λ other k l. l }

  -- ---- the types above one, by its line and beyond it

  pub object_after : (last steps fewer k m : ℕ) (t top : ResolvedType) → ancestor tree last (type_named tree t) ≡ Some (typed (element_named tree top.element) k) →
      ((brackets : ℕ) → parent tree (typed (element_named tree top.element) (brackets + 1)) ≡ Some (typed Named.Object brackets)) → steps ≡ last + fewer → 0 < fewer → m + fewer ≡ k → ancestor tree steps (type_named tree t) ≡ Some (typed Named.Object m)
  object_after last steps fewer k m t top reached none e more less =
      let one : ancestor tree (last + 1) (type_named tree t) ≡ Some (typed Named.Object (k - 1)) =
      next tree last (type_named tree t) (typed (element_named tree top.element) k) (typed Named.Object (k - 1)) reached (let same : k ≡ k - 1 + 1 = omega (arith, more, less) in ap (λ b. parent tree (typed (element_named tree top.element) b)) same ∙ none (k - 1)) in
      let both : (n : ℕ) × (n ≡ last + 1 + (fewer - 1)) × (ancestor tree n (type_named tree t) ≡ ancestor tree (fewer - 1) (typed Named.Object (k - 1))) = climb tree (last + 1) (fewer - 1) (type_named tree t) (typed Named.Object (k - 1)) one in
      let same : both.0 ≡ steps = omega (arith, both.1, e, more) in
      ap (λ n. ancestor tree n (type_named tree t)) (sym same) ∙ both.2 ∙ object_up (fewer - 1) (k - 1) m (omega (arith, more, less))

  -- ---- where two ways meet

  depth_of : (n : ℕ) (a : DeclaredType) → ancestor tree n a ≡ None → (m : ℕ) × IsDepth tree a m
  depth_of zero a e = absurd (none_is_some a (sym e))
  depth_of (suc n) a e = by_parent (parent tree a) refl e (λ p. depth_of n p)
    where
      by_parent : (o : Option DeclaredType) → parent tree a ≡ o → option_and_then (ancestor tree n) o ≡ None → ((p : DeclaredType) → ancestor tree n p ≡ None → (m : ℕ) × IsDepth tree p m) → (m : ℕ) × IsDepth tree a m
      by_parent None h e' further = (0, (a, refl, h))
      by_parent (Some p) h e' further = let it = further p e' in (suc it.0, (it.1.0, ap (option_and_then (ancestor tree it.0)) h ∙ it.1.1, it.1.2))

  -- an ancestor is at one height
  one_height : IsLegal tree → (b u : DeclaredType) (p q : ℕ) → ancestor tree p b ≡ Some u → ancestor tree q b ≡ Some u → p ≡ q
  one_height legal b u p q e f =
      let depth = depth_of (longest_chain tree + b.brackets + 2) b (type_ends tree legal b.element b.brackets (longest_chain tree + b.brackets + 2) (omega arith)) in
      omega (arith, common_height tree depth.0 depth.0 p q b b u depth.1 depth.1 e f)

  pub meets : IsLegal tree → (i j : ℕ) (a b u v w : DeclaredType) → ancestor tree i a ≡ Some v → ancestor tree (i + 1) a ≡ Some u → ancestor tree j b ≡ Some w → ancestor tree (j + 1) b ≡ Some u → (v ≡ w → ⊥) → IsMerge tree (Declared a) (Declared b) (Declared u)
  meets legal i j a b u v w one above other other_above apart = closest tree (i + 1) a b u above (j + 1, other_above) nearer
    where
      nearer : (k : ℕ) (x : DeclaredType) → k < i + 1 → ancestor tree k a ≡ Some x → IsBelow tree (Declared b) (Declared x) → ⊥
      nearer k x l e (m, f) =
          let up : (n : ℕ) × (n ≡ k + (i - k)) × (ancestor tree n a ≡ ancestor tree (i - k) x) = climb tree k (i - k) a x e in
          let to_v : ancestor tree (i - k) x ≡ Some v = let same : i ≡ up.0 = omega (arith, up.1, l) in sym up.2 ∙ ap (λ n. ancestor tree n a) (sym same) ∙ one in
          let up_more : (n : ℕ) × (n ≡ k + (i - k + 1)) × (ancestor tree n a ≡ ancestor tree (i - k + 1) x) = climb tree k (i - k + 1) a x e in
          let to_u : ancestor tree (i - k + 1) x ≡ Some u = let same : i + 1 ≡ up_more.0 = omega (arith, up_more.1, l) in sym up_more.2 ∙ ap (λ n. ancestor tree n a) (sym same) ∙ above in
          let far : (n : ℕ) × (n ≡ m + (i - k + 1)) × (ancestor tree n b ≡ ancestor tree (i - k + 1) x) = climb tree m (i - k + 1) b x f in
          let height : far.0 ≡ j + 1 = one_height legal b u far.0 (j + 1) (far.2 ∙ to_u) other_above in
          let near : (n : ℕ) × (n ≡ m + (i - k)) × (ancestor tree n b ≡ ancestor tree (i - k) x) = climb tree m (i - k) b x f in
          let here : near.0 ≡ j = omega (arith, near.1, far.1, height) in
          apart (same_Some v w (sym to_v ∙ sym near.2 ∙ ap (λ n. ancestor tree n b) here ∙ other))
