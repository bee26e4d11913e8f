-- A method of a number is declared by its class, and has few locals.
use Rattle.std.proofs.Common.{◌≡◌, ◌≤◌, ℕ, [], length, Option, Some, None, option_map, option_and_then, slice_get, refl, sym, ap, ◌∙◌, subst}
use Rattle.std.specs.Option.{option_map_or}
use Rattle.std.proofs.lemmas.Option.{same_Some}
use Rattle.cil_model.specs.declared.limits.TheConstants.{MOST_LOCALS}
use Rattle.cil_model.specs.declared.types.ClassName.{ClassName}
use Rattle.cil_model.specs.declared.trees.Method.{Method}
use Rattle.cil_model.specs.declared.trees.Tree.{Tree}
use Rattle.cil_model.specs.Chains.{methods_declared}
use Rattle.cil_model.specs.Declarations.{Declaration, declaration_of}
use Rattle.cil_model.specs.Legality.{IsLegal}
use Rattle.name_tables.specs.Numbers.{declarations, method_at}
use Rattle.name_tables.proofs.NumberLaws.{declared_at_number}
use Rattle.resolved_code.proofs.Numbers.Classes.{number_of_index}
use Rattle.simulation.specs.loaded_program.LocalKinds.{local_kinds}
use Rattle.simulation.proofs.ProgramSizes.Methods.{locals_few}
use Rattle.simulation.proofs.Memory.InitialValues.{locals_low}
use Rattle.cil_model.proofs.Lists.{none_is_some}

module _ (tree : Tree) (legal : IsLegal tree) (class index : ℕ) where
  -- where its class declares it
  declared_there : (found : ClassName × Method) → method_at tree (class, index) ≡ Some found → slice_get (methods_declared tree found.0) index ≡ Some found.1
  declared_there found is = by_entry (slice_get (declarations tree) class) refl is
    where
      by_method : (e : ClassName × Declaration) → slice_get (declarations tree) class ≡ Some e → (o : Option Method) → slice_get e.1.methods index ≡ o → option_map (λ x. (e.0, x)) o ≡ Some found → slice_get (methods_declared tree found.0) index ≡ Some found.1
      by_method e at None there h = none_is_some found h
      by_method e at (Some m) there h =
          let same : (e.0, m) ≡ found = same_Some (e.0, m) found h in
          let known : declaration_of tree e.0 ≡ Some e.1 = sym (declared_at_number tree e.0 class (number_of_index tree legal class e at)) ∙ ap (option_map (λ (x : ClassName × Declaration). x.1)) at in
          let own : slice_get (methods_declared tree e.0) index ≡ Some m = ap (λ o. slice_get (option_map_or (λ (d : Declaration). d.methods) o []) index) known ∙ there in
          subst (λ (x : ClassName × Method). slice_get (methods_declared tree x.0) index ≡ Some x.1) same own

      by_entry : (o : Option (ClassName × Declaration)) → slice_get (declarations tree) class ≡ o → option_and_then (λ (e : ClassName × Declaration). option_map (λ x. (e.0, x)) (slice_get e.1.methods index)) o ≡ Some found → slice_get (methods_declared tree found.0) index ≡ Some found.1
      by_entry None at h = none_is_some found h
      by_entry (Some e) at h = by_method e at (slice_get e.1.methods index) refl h

  -- its frame has room for the locals
  pub locals_fit : (found : ClassName × Method) → method_at tree (class, index) ≡ Some found → length (local_kinds found.1) ≤ MOST_LOCALS
  locals_fit found is = locals_low found.1 MOST_LOCALS (λ code has. locals_few tree legal found.0 index found.1 (declared_there found is) code has)
