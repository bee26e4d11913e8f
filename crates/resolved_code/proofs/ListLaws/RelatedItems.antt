-- Lists whose items are related have related items at each index, and so have the lists of members of resolved classes.
use Rattle.std.proofs.Common.{ℕ, zero, suc, List, [], ◌∷◌, Option, Some, None, option_map, option_and_then, slice_get}
use Rattle.cil_model.specs.declared.types.ClassName.{ClassName}
use Rattle.cil_model.specs.declared.trees.Tree.{Tree}
use Rattle.cil_model.specs.Declarations.{Declaration}
use Rattle.name_tables.specs.Numbers.{declarations, member_at}
use Rattle.resolved_code.specs.declared.classes.ResolvedClass.{ResolvedClass}
use Rattle.resolved_code.specs.ResolvedPrograms.{AllAlike, AreResolved, IsResolvedClass, BothAlike}

pub alike_at : {X Y : Type 0} (R : X → Y → Type 0) (xs : List X) (ys : List Y) → AllAlike R xs ys → (index : ℕ) → BothAlike R (slice_get xs index) (slice_get ys index)
alike_at R [] [] h index = tt
alike_at R (x ∷ xs) (y ∷ ys) h zero = h.0
alike_at R (x ∷ xs) (y ∷ ys) h (suc index) = alike_at R xs ys h.1 index
alike_at _ _ _ h _ = absurd h

module _ (tree : Tree) {X Y : Type 0} (part : Declaration → List X) (resolved_part : ResolvedClass → List Y) (R : X → Y → Type 0)
    (parts : (d : Declaration) (r : ResolvedClass) → IsResolvedClass tree d r → AllAlike R (part d) (resolved_part r)) where
  named_alike : (c : ClassName) (o : Option X) (p : Option Y) → BothAlike R o p → BothAlike (λ (named : ClassName × X) resolved. R named.1 resolved) (option_map (λ x. (c, x)) o) p
  named_alike c None None h = tt
  named_alike c (Some x) (Some y) h = h
  named_alike _ _ _ h = absurd h

  -- a member of a class, looked up in the class
  pub members_alike : (classes : List ResolvedClass) → AreResolved tree classes → (class index : ℕ) →
      BothAlike (λ (named : ClassName × X) resolved. R named.1 resolved) (member_at part tree (class, index)) (option_and_then (λ (r : ResolvedClass). slice_get (resolved_part r) index) (slice_get classes class))
  members_alike classes h class index = by_class (slice_get (declarations tree) class) (slice_get classes class) (alike_at (λ (e : ClassName × Declaration) r. IsResolvedClass tree e.1 r) (declarations tree) classes h class)
    where
      by_class : (o : Option (ClassName × Declaration)) (p : Option ResolvedClass) → BothAlike (λ (e : ClassName × Declaration) r. IsResolvedClass tree e.1 r) o p →
          BothAlike (λ (named : ClassName × X) resolved. R named.1 resolved) (option_and_then (λ (e : ClassName × Declaration). option_map (λ x. (e.0, x)) (slice_get (part e.1) index)) o) (option_and_then (λ (r : ResolvedClass). slice_get (resolved_part r) index) p)
      by_class None None k = tt
      by_class (Some e) (Some r) k = named_alike e.0 (slice_get (part e.1) index) (slice_get (resolved_part r) index) (alike_at R (part e.1) (resolved_part r) (parts e.1 r k) index)
      by_class _ _ k = absurd k
