-- What a method by numbers determines of the method that it represents, and classes by numbers of theirs.
use Rattle.std.proofs.Common.{◌≡◌, ◌+◌, ℕ, List, [], ◌∷◌, ◌++◌, length, map, Option, Some, None, option_map, if◌then◌else◌, refl, sym, ap, ◌∙◌, arith}
use Rattle.std.specs.Prelude.{is_some, option_to_list}
use Rattle.std.specs.List.{flat_map}
use Rattle.std.proofs.lemmas.List.{length-map, append-nil}
use Rattle.cil_model.specs.declared.types.ClassName.{ClassName}
use Rattle.cil_model.specs.declared.types.DeclaredType.{DeclaredType}
use Rattle.cil_model.specs.declared.trees.Tree.{Tree}
use Rattle.cil_model.specs.declared.trees.Code.{Code}
use Rattle.cil_model.specs.declared.trees.Method.{Method}
use Rattle.cil_model.specs.declared.trees.MethodKind.{MethodKind}
use Rattle.cil_model.specs.declared.trees.MethodKind.TheVariants as Named
use Rattle.cil_model.specs.Bodies.{code_of, argument_types}
use Rattle.cil_model.specs.Chains.{is_static}
use Rattle.cil_model.specs.Assignable.{type_of_class}
use Rattle.cil_model.specs.Declarations.{Declaration}
use Rattle.cil_model.specs.ValueKinds.{kind_of_type}
use Rattle.resolved_code.specs.ById.{type_at, types_named, AreTypes}
use Rattle.resolved_code.specs.ResolvedPrograms.{AllAlike, IsBody, IsResolvedKind, IsResolvedMethod, IsResolvedClass}
use Rattle.resolved_code.specs.declared.types.ResolvedType.{ResolvedType}
use Rattle.resolved_code.specs.declared.classes.Body.{Body}
use Rattle.resolved_code.specs.declared.classes.ResolvedKind.{ResolvedKind}
use Rattle.resolved_code.specs.declared.classes.ResolvedKind.TheVariants as KindOf
use Rattle.resolved_code.specs.declared.classes.ResolvedMethod.{ResolvedMethod}
use Rattle.resolved_code.specs.declared.classes.ResolvedClass.{ResolvedClass}
use Rattle.loaded_program.specs.AllMethods.{first_numbers}
use Rattle.loaded_program.specs.ResolvedKinds.{resolved_locals, with_object, operand_count, running_counts}
use Rattle.loaded_program.specs.LocalKinds.{local_kinds}
use Rattle.resolved_code.proofs.ListLaws.RelatedLists.{alike_length}
use Rattle.resolved_code.proofs.Numbers.Types.{types_are_named}

module _ (tree : Tree) where
  -- ---- types

  type_count : (ns : List ResolvedType) (ts : List DeclaredType) → AreTypes tree ns ts → length ns ≡ length ts
  type_count ns ts h = sym (length-map ns (type_at tree)) ∙ ap length h ∙ length-map ts Some

  -- ---- methods

  counted : (k : MethodKind) (r : ResolvedKind) (n : ℕ) (t : DeclaredType) (ts : List DeclaredType) → IsResolvedKind tree k r → n ≡ length ts → with_object r n ≡ length (if is_static k then ts else t ∷ ts)
  counted (Named.Static code) (KindOf.Static body) n t ts h e = e
  counted (Named.Instance code) (KindOf.Instance body) n t ts h e = omega arith
  counted (Named.Virtual a code) (KindOf.Virtual b body) n t ts h e = omega arith
  counted (Named.Abstract a) (KindOf.Abstract b) n t ts h e = omega arith
  counted _ _ n t ts h e = absurd h

  body_kinds : (code : Code) (body : Body) → IsBody tree code body → map kind_of_type (types_named tree body.locals) ≡ map kind_of_type (code.locals ++ [])
  body_kinds code body h = ap (map kind_of_type) (types_are_named tree body.locals code.locals h.locals) ∙ ap (map kind_of_type) (sym (append-nil code.locals))

  locals_by : (k : MethodKind) (r : ResolvedKind) → IsResolvedKind tree k r → map kind_of_type (types_named tree (resolved_locals r)) ≡ map kind_of_type (flat_map (λ (code : Code). code.locals) (option_to_list (code_of k)))
  locals_by (Named.Static code) (KindOf.Static body) h = body_kinds code body h
  locals_by (Named.Instance code) (KindOf.Instance body) h = body_kinds code body h
  locals_by (Named.Virtual a code) (KindOf.Virtual b body) h = body_kinds code body h.1
  locals_by (Named.Abstract a) (KindOf.Abstract b) h = refl
  locals_by _ _ h = absurd h

  module _ (m : Method) (r : ResolvedMethod) (is : IsResolvedMethod tree m r) where
    -- how many operands a call takes
    pub arguments_alike : (c : ClassName) → operand_count r ≡ length (argument_types m c)
    arguments_alike c = counted m.kind r.kind (length r.parameters) (type_of_class c) m.signature.parameters is.kind (type_count r.parameters m.signature.parameters is.parameters)

    -- what the locals hold
    pub locals_alike : map kind_of_type (types_named tree (resolved_locals r.kind)) ≡ local_kinds m
    locals_alike = locals_by m.kind r.kind is.kind

    -- whether a call leaves a value
    pub value_alike : is_some r.return_type ≡ is_some m.signature.return_type
    value_alike = by_types r.return_type m.signature.return_type is.return_type
      where
        by_types : (o : Option ResolvedType) (p : Option DeclaredType) → option_map (type_at tree) o ≡ option_map Some p → is_some o ≡ is_some p
        by_types None None h = refl
        by_types (Some n) (Some t) h = refl
        by_types None (Some t) h = cc
        by_types (Some n) None h = cc

  -- ---- classes

  -- the first number of each class, by the counts of their methods
  pub first_alike : (next : ℕ) (es : List (ClassName × Declaration)) (rs : List ResolvedClass) → AllAlike (λ (e : ClassName × Declaration) r. IsResolvedClass tree e.1 r) es rs → running_counts next (map (λ r. length r.methods) rs) ≡ first_numbers next es
  first_alike next [] [] h = refl
  first_alike next (e ∷ es) (r ∷ rs) h =
      let same : length e.1.methods ≡ length r.methods = alike_length (IsResolvedMethod tree) e.1.methods r.methods h.0.methods in
      ap (λ n. next ∷ running_counts (next + n) (map (λ (c : ResolvedClass). length c.methods) rs)) (sym same) ∙ ap (λ ns. next ∷ ns) (first_alike (next + length e.1.methods) es rs h.1)
  first_alike next [] (r ∷ rs) h = absurd h
  first_alike next (e ∷ es) [] h = absurd h
