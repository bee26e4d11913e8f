-- Operands that are taken one after the other.
use Rattle.std.proofs.Common.{◌≡◌, Bool, true, false, if◌then◌else◌, List, [], ◌∷◌, ◌++◌, reverse, Some, None, option_and_then, refl, ap, ◌∙◌}
use Rattle.std.proofs.lemmas.List.{reverse-append}
use Rattle.cil_model.specs.declared.types.DeclaredType.{DeclaredType}
use Rattle.cil_model.specs.declared.trees.Tree.{Tree}
use Rattle.cil_model.specs.TypeTree.{StackType, fits}
use Rattle.cil_model.specs.FlowRules.{take_fitting, take_operands}

module _ (tree : Tree) where
  -- the operands of one list below those of another
  pub fitting_joined : (ts us : List DeclaredType) (st : List StackType) → take_fitting tree (ts ++ us) st ≡ option_and_then (take_fitting tree us) (take_fitting tree ts st)
  fitting_joined (t ∷ ts) us (a ∷ st) = by_test (fits tree a t) (fitting_joined ts us st)
    where
      by_test : (b : Bool) → take_fitting tree (ts ++ us) st ≡ option_and_then (take_fitting tree us) (take_fitting tree ts st) →
          (if b then take_fitting tree (ts ++ us) st else None) ≡ option_and_then (take_fitting tree us) (if b then take_fitting tree ts st else None)
      by_test true further = further
      by_test false further = refl
  fitting_joined _ _ _ = refl

  -- the owner lies below the other operands
  pub owner_below : (o : DeclaredType) (ps : List DeclaredType) (st : List StackType) → take_operands tree (o ∷ ps) st ≡ option_and_then (take_operands tree (o ∷ [])) (take_operands tree ps st)
  owner_below o ps st = ap (λ (ts : List DeclaredType). take_fitting tree ts st) (reverse-append (o ∷ []) ps) ∙ fitting_joined (reverse ps) (o ∷ []) st

  pub owner_next : (o : DeclaredType) (ps : List DeclaredType) (st rest : List StackType) → take_operands tree ps st ≡ Some rest → take_operands tree (o ∷ ps) st ≡ take_operands tree (o ∷ []) rest
  owner_next o ps st rest h = owner_below o ps st ∙ ap (option_and_then (take_operands tree (o ∷ []))) h

  pub owner_late : (o : DeclaredType) (ps : List DeclaredType) (st : List StackType) → take_operands tree ps st ≡ None → take_operands tree (o ∷ ps) st ≡ None
  owner_late o ps st h = owner_below o ps st ∙ ap (option_and_then (take_operands tree (o ∷ []))) h
