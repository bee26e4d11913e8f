-- The methods of a legal tree, and the built-in ones, are within the limits of a method; and all code together has few literals.
use Rattle.std.proofs.Common.{◌≡◌, ◌≤◌, ◌<◌, ◌≤ℤ◌, ◌*◌, ℕ, Bool, IsTrue, List, [], length, map, filter_map, Option, Some, None, option_map, slice_get, refl, sym, ap, ◌∙◌, subst, arith}
use Rattle.std.specs.Prelude.{option_to_list}
use Rattle.std.specs.List.{list_all}
use Rattle.std.specs.Option.{option_map_or}
use Rattle.std.proofs.lemmas.Bool.{leb-true}
use Rattle.std.proofs.lemmas.List.{length-map}
use Rattle.std.specs.Int.Signed.{le_z_yes}
use Rattle.std.proofs.lemmas.Float.{T_from_true}
use Rattle.std.proofs.lemmas.Option.{slice_get-map}
use Rattle.interpreter.specs.cil_model.declared.types.ClassName.{ClassName}
use Rattle.interpreter.specs.cil_model.declared.types.DeclaredType.{DeclaredType}
use Rattle.interpreter.specs.cil_model.declared.instructions.Instruction.TheVariants.{NewArray}
use Rattle.interpreter.specs.cil_model.declared.trees.Tree.{Tree}
use Rattle.interpreter.specs.cil_model.declared.trees.Class.{Class}
use Rattle.interpreter.specs.cil_model.declared.trees.Method.{Method}
use Rattle.interpreter.specs.cil_model.declared.trees.Code.{Code}
use Rattle.interpreter.specs.cil_model.declared.trees.Line.{Line}
use Rattle.interpreter.specs.cil_model.declared.limits.TheConstants.{MOST_ARGUMENTS, MOST_BRACKETS, MOST_INSTRUCTIONS, MOST_LOCALS, MOST_METHODS, MOST_STACK}
use Rattle.interpreter.specs.cil_model.Same.{same_class, same_text}
use Rattle.interpreter.specs.cil_model.Declarations.{Declaration, source_name, declared_as, field_members, method_members, built_ins}
use Rattle.interpreter.specs.cil_model.Bodies.{argument_types, code_of, lines_of}
use Rattle.interpreter.specs.cil_model.Chains.{methods_declared, listed_by}
use Rattle.interpreter.specs.cil_model.Mentions.{codes_of, instructions_of, methods_of_tree, instructions_of_tree, literal_of, literals_of}
use Rattle.interpreter.specs.cil_model.Legality.{IsLegal, is_small_instruction, is_small_code, is_small_method, is_small_class}
use Rattle.interpreter.proofs.cil_model.SameLaws.{both_first, both_second, same_class_equal}
use Rattle.simulation.proofs.ListLaws.TestsAndLengths.{item_passes, by_find, all_weaker, all_of_parts, whole_length, given_length, once_length}
use Rattle.resolved_code.proofs.LegalPrograms.Limits.{source_methods_few, source_classes_small}

-- what code the method has is small
abbrev has_small_code : Method → Bool
has_small_code m = list_all is_small_code (codes_of m)

-- small code has few instructions
short_code : (m : Method) → IsTrue (has_small_code m) → length (instructions_of m) ≤ MOST_INSTRUCTIONS
short_code m small = subst (λ n. n ≤ MOST_INSTRUCTIONS) (sym (length-map (lines_of m) (λ (l : Line). l.instruction))) (by_code (code_of m.kind) small)
  where
    by_code : (o : Option Code) → IsTrue (list_all is_small_code (option_to_list o)) → length (option_map_or (λ (code : Code). code.lines) o []) ≤ MOST_INSTRUCTIONS
    by_code None h = omega arith
    by_code (Some code) h = leb-true _ _ (both_first _ _ (both_first _ _ (both_first _ _ (both_first _ _ h))))

module _ (tree : Tree) (legal : IsLegal tree) where
  -- each method that the class of a name declares is small
  methods_small : (o : Option (List ℕ)) (own : List ℕ) → IsTrue (list_all (is_small_method (record { assembly = o; name = own })) (methods_declared tree (record { assembly = o; name = own })))
  methods_small (Some a) own =
      let c : ClassName = record { assembly = Some a; name = own } in
      by_find (λ (e : ClassName × Declaration). same_class e.0 c) (λ (e : ClassName × Declaration). list_all (is_small_method c) e.1.methods)
      (λ o. IsTrue (list_all (is_small_method c) (listed_by (λ (d : Declaration). d.methods) (option_map (λ (e : ClassName × Declaration). e.1) o)))) refl (λ e named small. small) built_ins refl
  methods_small None own =
      let c : ClassName = record { assembly = None; name = own } in
      by_find (λ (x : Class). same_class (source_name x) c) (is_small_class tree)
      (λ o. IsTrue (list_all (is_small_method c) (listed_by (λ (d : Declaration). d.methods) (option_map (λ (x : Class). declared_as x.kind (field_members x) (method_members x)) o)))) refl
      (λ x named small. subst (λ k. IsTrue (list_all (is_small_method k) (method_members x))) (same_class_equal (source_name x) c named) (both_second _ _ small)) tree.classes (source_classes_small tree legal)

  module _ (c : ClassName) (n : ℕ) (m : Method) (declared : slice_get (methods_declared tree c) n ≡ Some m) where
    -- a declared method is small
    small_method : IsTrue (is_small_method c m)
    small_method = item_passes (is_small_method c) (methods_declared tree c) n m (methods_small c.assembly c.name) declared

    -- it has few arguments
    pub arguments_few : length (argument_types m c) ≤ MOST_ARGUMENTS
    arguments_few = leb-true _ _ (both_first _ _ (both_first _ _ small_method))

    module _ (code : Code) (coded : code_of m.kind ≡ Some code) where
      -- its code is small
      small_code : IsTrue (is_small_code code)
      small_code = both_first _ _ (subst (λ o. IsTrue (list_all is_small_code (option_to_list o))) coded (both_second _ _ (both_first _ _ small_method)))

      -- the code has few instructions
      pub instructions_few : length code.lines ≤ MOST_INSTRUCTIONS
      instructions_few = leb-true _ _ (both_first _ _ (both_first _ _ (both_first _ _ small_code)))

      -- the code has few locals
      pub locals_few : length code.locals ≤ MOST_LOCALS
      locals_few = leb-true _ _ (both_second _ _ (both_first _ _ (both_first _ _ small_code)))

      -- the code has a low stack
      pub stack_low : code.max_stack ≤ℤ MOST_STACK
      stack_low = le_z_yes (T_from_true _ (both_second _ _ small_code))

      -- its instructions are small
      small_instructions : IsTrue (list_all is_small_instruction (map (λ (l : Line). l.instruction) code.lines))
      small_instructions = subst (λ o. IsTrue (list_all is_small_instruction (map (λ (l : Line). l.instruction) (option_map_or (λ (x : Code). x.lines) o [])))) coded (both_second _ _ small_method)

      -- the code makes arrays of types with few brackets alone
      pub arrays_shallow : (index : ℕ) (line : Line) → slice_get code.lines index ≡ Some line → (t : DeclaredType) → line.instruction ≡ NewArray t → t.brackets < MOST_BRACKETS
      arrays_shallow index line there t makes =
          let small : IsTrue (is_small_instruction line.instruction) = item_passes is_small_instruction (map (λ (l : Line). l.instruction) code.lines) index line.instruction small_instructions (slice_get-map (λ (l : Line). l.instruction) code.lines index ∙ ap (option_map (λ (l : Line). l.instruction)) there) in
          leb-true _ _ (subst (λ i. IsTrue (is_small_instruction i)) makes small)

  -- each method of the source has small code
  codes_small : IsTrue (list_all has_small_code (methods_of_tree tree))
  codes_small =
      all_of_parts (is_small_class tree) has_small_code method_members
      (λ x small. all_weaker (is_small_method (source_name x)) has_small_code (λ m h. both_second _ _ (both_first _ _ h)) (method_members x) (both_second _ _ small)) tree.classes (source_classes_small tree legal)

  -- there are few literals
  pub literals_few : length (literals_of tree) ≤ MOST_METHODS * MOST_INSTRUCTIONS
  literals_few =
      omega (
        arith,
        once_length same_text (filter_map literal_of (instructions_of_tree tree)),
        given_length literal_of (instructions_of_tree tree),
        whole_length has_small_code instructions_of MOST_INSTRUCTIONS short_code (methods_of_tree tree) codes_small,
        source_methods_few tree legal,
      )
