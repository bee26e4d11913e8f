-- What the methods of each class do, by the number of the class and the index of the method in it.
use Rattle.std.proofs.Common.{◌≡◌, ℕ, zero, suc, Option, Some, None, option_map, option_and_then, slice_get, refl, sym, ap, subst, ◌∙◌}
use Rattle.std.proofs.lemmas.Option.{slice_get-map}
use Rattle.cil_model.specs.declared.types.ClassName.{ClassName}
use Rattle.cil_model.specs.declared.trees.Tree.{Tree}
use Rattle.cil_model.specs.declared.trees.Class.{Class}
use Rattle.cil_model.specs.declared.trees.Method.{Method}
use Rattle.cil_model.specs.Declarations.{Declaration, source_name, method_members}
use Rattle.name_tables.specs.Numbers.{method_at, source_entry}
use Rattle.name_tables.proofs.NumberLaws.{none_is_some}
use Rattle.reference_machine.specs.BuiltIn.{Action, Construct, Write, action_of}

module _ (tree : Tree) (c : ClassName) (m : Method) where
  -- what a method does that is known
  known : (found : ClassName × Method) (action : Option Action) → Some found ≡ Some (c, m) → action ≡ action_of found.0 found.1 → action ≡ action_of c m
  known found action h e =
      let named : found ≡ (c, m) = cc in
      let P : ClassName × Method → Type 0 = λ y. action ≡ action_of y.0 y.1 in
      subst P named e

  pub of_object : (p : ℕ) → method_at tree (0, p) ≡ Some (c, m) → Some Construct ≡ action_of c m
  of_object zero h = known _ _ h refl
  of_object (suc p) h = absurd (none_is_some (c, m) h)

  pub of_console : (p : ℕ) → method_at tree (2, p) ≡ Some (c, m) → Some Write ≡ action_of c m
  of_console zero h = known _ _ h refl
  of_console (suc zero) h = known _ _ h refl
  of_console (suc (suc zero)) h = known _ _ h refl
  of_console (suc (suc (suc p))) h = absurd (none_is_some (c, m) h)

  pub of_monitor : (p : ℕ) → (p ≡ 0 → ⊥) → (p ≡ 1 → ⊥) → method_at tree (3, p) ≡ Some (c, m) → None ≡ action_of c m
  of_monitor zero a b h = absurd (a refl)
  of_monitor (suc zero) a b h = absurd (b refl)
  of_monitor (suc (suc p)) a b h = absurd (none_is_some (c, m) h)

  pub of_thread : (p : ℕ) → (p ≡ 0 → ⊥) → (p ≡ 2 → ⊥) → (p ≡ 3 → ⊥) → method_at tree (4, p) ≡ Some (c, m) → None ≡ action_of c m
  of_thread zero a b d h = absurd (a refl)
  of_thread (suc zero) a b d h = known _ _ h refl
  of_thread (suc (suc zero)) a b d h = absurd (b refl)
  of_thread (suc (suc (suc zero))) a b d h = absurd (d refl)
  of_thread (suc (suc (suc (suc p)))) a b d h = absurd (none_is_some (c, m) h)

  -- a class of the source is in no assembly, and so is none of those that do something
  of_source : (p : ℕ) (o : Option Class) → option_and_then {U = ClassName × Method} (λ (e : ClassName × Declaration). option_map (λ x. (e.0, x)) (slice_get e.1.methods p)) (option_map source_entry o) ≡ Some (c, m) → None ≡ action_of c m
  of_source p None h = absurd (none_is_some (c, m) h)
  of_source p (Some k) h = by_method (slice_get (method_members k) p) h
    where
      by_method : (o : Option Method) → option_map {U = ClassName × Method} (λ x. (source_name k, x)) o ≡ Some (c, m) → None ≡ action_of c m
      by_method None e = absurd (none_is_some (c, m) e)
      by_method (Some x) e = known (source_name k, x) None e refl

  pub of_others : (n p : ℕ) → (n ≡ 0 → ⊥) → (n ≡ 2 → ⊥) → (n ≡ 3 → ⊥) → (n ≡ 4 → ⊥) → method_at tree (n, p) ≡ Some (c, m) → None ≡ action_of c m
  of_others zero p a b d e h = absurd (a refl)
  of_others (suc zero) p a b d e h = absurd (none_is_some (c, m) h)
  of_others (suc (suc zero)) p a b d e h = absurd (b refl)
  of_others (suc (suc (suc zero))) p a b d e h = absurd (d refl)
  of_others (suc (suc (suc (suc zero)))) p a b d e h = absurd (e refl)
  of_others (suc (suc (suc (suc (suc n))))) p a b d e h =
      of_source p (slice_get tree.classes n)
      (ap (λ (o : Option (ClassName × Declaration)). option_and_then {U = ClassName × Method} (λ (y : ClassName × Declaration). option_map (λ x. (y.0, x)) (slice_get y.1.methods p)) o) (sym (slice_get-map source_entry tree.classes n)) ∙ h)
