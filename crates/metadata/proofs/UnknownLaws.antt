-- The parts of the rule on names that refer to nothing, as the code looks at them.
use Rattle.std.proofs.Common.{◌≡◌, ℕ, Bool, true, false, cond, not, ◌&&◌, List, [], ◌∷◌, ◌++◌, Option, Some, None, is_some, option_map, refl, sym, ap, ◌∙◌}
use Rattle.std.specs.Prelude.{flat_map, find}
use Rattle.std.specs.List.{list_any, list_all}
use Rattle.std.specs.Option.{option_map_or}
use Rattle.std.proofs.lemmas.List.Folds.{list_all-append, list_all-map}
use Rattle.cil_model.specs.declared.types.ClassName.{ClassName}
use Rattle.cil_model.specs.declared.types.DeclaredType.{DeclaredType}
use Rattle.cil_model.specs.declared.instructions.Instruction.{Instruction}
use Rattle.cil_model.specs.declared.trees.Tree.{Tree}
use Rattle.cil_model.specs.declared.trees.Class.{Class}
use Rattle.cil_model.specs.declared.trees.Line.{Line}
use Rattle.cil_model.specs.declared.trees.Method.{Method}
use Rattle.cil_model.specs.Same.{same_text, same_class}
use Rattle.cil_model.specs.Declarations.{Declaration, declaration_of, source_class, source_name, declared_as, field_members, method_members, is_interface_kind, interfaces_named}
use Rattle.cil_model.specs.Bodies.{lines_of, labels_of, pc_of}
use Rattle.cil_model.specs.Mentions.{bases_named, class_of_element, owners_of_instruction, instructions_of, types_of_tree, class_types_of_tree, class_names_of_tree, methods_of_tree, instructions_of_tree}
use Rattle.cil_model.specs.Legality.{labels_before, is_known_extern, is_resolved, is_source_interface, is_possible_base, is_possible_type, class_finds, finds_member, finds_labels, lacks_name}
use Rattle.name_tables.proofs.Lists.{option_map_of_map}
use Rattle.name_tables.proofs.FirstIndices.{is_some-position_from}
use Rattle.metadata.specs.NameChecks.{knows_names}
use Rattle.resolved_code.proofs.ListLaws.Tests.{first_fails, second_fails, third_fails, last_two_decide, and_false, and_comm, list_all_congr, list_any-flat_map, list_all_both}
use Rattle.cil_model.proofs.Lists.{list_all-flat_map, list_all-filter_map}

-- ---- classes of the source

find_nothing : {X : Type 0} (test : X → Bool) → ((x : X) → test x ≡ false) → (xs : List X) → find test xs ≡ None
find_nothing test none [] = refl
find_nothing test none (x ∷ xs) = ap (λ b. cond b (Some x) (find test xs)) (none x) ∙ find_nothing test none xs

never : {A : Type 0} → true ≡ false → A
never e = absurd (lost e)
  where
    lost : true ≡ false → ⊥
    lost h = cc

module _ (tree : Tree) where
  -- no class of the source has brackets
  pub bracketed : (o : Option (List ℕ)) (n : List ℕ) → is_some o ≡ true → source_class tree (record { assembly = o; name = n }) ≡ None
  bracketed (Some a) n e = find_nothing (λ (c : Class). same_class (source_name c) (record { assembly = Some a; name = n })) (λ c. refl) tree.classes
  bracketed None n e = never (sym e)

  -- what a declared class of the source is
  pub kind_of_plain : (o : Option (List ℕ)) (n : List ℕ) → is_some o ≡ false →
      option_map (λ (d : Declaration). d.is_interface) (declaration_of tree (record { assembly = o; name = n })) ≡ option_map (λ (c : Class). is_interface_kind c.kind) (source_class tree (record { assembly = o; name = n }))
  kind_of_plain None n e = option_map_of_map (λ (c : Class). declared_as c.kind (field_members c) (method_members c)) (λ (d : Declaration). d.is_interface) (source_class tree (record { assembly = None; name = n }))
  kind_of_plain (Some a) n e = never e

  -- ---- a class's first line

  abbrev named_by : Class → List ClassName
  named_by c = bases_named c.kind ++ interfaces_named c.kind

  abbrev pub is_heading : ClassName → List ClassName → Bool
  is_heading base interfaces = is_resolved tree base && is_possible_base tree base && list_all (λ i. is_resolved tree i && is_source_interface tree i) interfaces

  pub heading : (base : ClassName) (interfaces : List ClassName) →
      list_all (is_resolved tree) (base ∷ interfaces) && (list_all (is_possible_base tree) (base ∷ []) && list_all (is_source_interface tree) interfaces) ≡ is_heading base interfaces
  heading base interfaces = by_cases (is_resolved tree base) (is_possible_base tree base) (list_all (is_resolved tree) interfaces) (list_all_both (is_resolved tree) (is_source_interface tree) interfaces)
    where
      by_cases : (r b rs : Bool) → rs && list_all (is_source_interface tree) interfaces ≡ list_all (λ i. is_resolved tree i && is_source_interface tree i) interfaces →
          (r && rs) && ((b && true) && list_all (is_source_interface tree) interfaces) ≡ r && b && list_all (λ i. is_resolved tree i && is_source_interface tree i) interfaces
      by_cases false b rs e = refl
      by_cases true true rs e = e
      by_cases true false rs e = and_false rs

  -- ---- types

  abbrev pub is_type : DeclaredType → Bool
  is_type t = option_map_or (λ c. is_resolved tree c && is_possible_type tree c) (class_of_element t.element) true

  pub types_known : list_all is_type (types_of_tree tree) ≡ list_all (is_resolved tree) (class_types_of_tree tree) && list_all (is_possible_type tree) (class_types_of_tree tree)
  types_known = sym (list_all-filter_map (λ c. is_resolved tree c && is_possible_type tree c) (λ (t : DeclaredType). class_of_element t.element) (types_of_tree tree)) ∙ sym (list_all_both (is_resolved tree) (is_possible_type tree) (class_types_of_tree tree))

  -- ---- members

  abbrev pub is_instruction : Instruction → Bool
  is_instruction i = list_all (is_resolved tree) (owners_of_instruction i) && finds_member tree i

  pub instructions_known : (is : List Instruction) → list_all is_instruction is ≡ list_all (is_resolved tree) (flat_map owners_of_instruction is) && list_all (finds_member tree) is
  instructions_known is = sym (list_all_both (λ i. list_all (is_resolved tree) (owners_of_instruction i)) (finds_member tree) is) ∙ ap (λ b. b && list_all (finds_member tree) is) (sym (list_all-flat_map (is_resolved tree) owners_of_instruction is))

  -- ---- the whole rule

  abbrev pub is_class : Class → Bool
  is_class c = list_all (is_resolved tree) (bases_named c.kind ++ interfaces_named c.kind) && class_finds tree c

  classes_known : (cs : List Class) → list_all is_class cs ≡ list_all (is_resolved tree) (flat_map named_by cs) && list_all (class_finds tree) cs
  classes_known cs = sym (list_all_both (λ c. list_all (is_resolved tree) (named_by c)) (class_finds tree) cs) ∙ ap (λ b. b && list_all (class_finds tree) cs) (sym (list_all-flat_map (is_resolved tree) named_by cs))

  names_parted : list_all (is_resolved tree) (class_names_of_tree tree) ≡
      list_all (is_resolved tree) (flat_map named_by tree.classes) && list_all (is_resolved tree) (class_types_of_tree tree) && list_all (is_resolved tree) (flat_map owners_of_instruction (instructions_of_tree tree))
  names_parted =
      list_all-append (is_resolved tree) (flat_map named_by tree.classes ++ class_types_of_tree tree) (flat_map owners_of_instruction (instructions_of_tree tree)) ∙
      ap (λ b. b && list_all (is_resolved tree) (flat_map owners_of_instruction (instructions_of_tree tree))) (list_all-append (is_resolved tree) (flat_map named_by tree.classes) (class_types_of_tree tree))

  regroup : (a k t o c p l m : Bool) → a && (k && t && o) && c && p && l && m ≡ a && (k && c) && (t && p) && l && (o && m)
  regroup false k t o c p l m = refl
  regroup true false t o c p l m = refl
  regroup true true false o false p l m = refl
  regroup true true false o true p l m = refl
  regroup true true true false false p l m = refl
  regroup true true true false true false l m = refl
  regroup true true true false true true false m = refl
  regroup true true true false true true true m = refl
  regroup true true true true false p l m = refl
  regroup true true true true true p l m = refl

  -- what the code looks at, in its order
  abbrev pub finds_all : Bool
  finds_all = list_all is_known_extern tree.externs && list_all is_class tree.classes && (list_all (is_resolved tree) (class_types_of_tree tree) && list_all (is_possible_type tree) (class_types_of_tree tree)) && list_all finds_labels (methods_of_tree tree) &&
      (list_all (is_resolved tree) (flat_map owners_of_instruction (instructions_of_tree tree)) && list_all (finds_member tree) (instructions_of_tree tree))

  pub lacks : lacks_name tree ≡ not finds_all
  lacks =
      ap (λ b. not (list_all is_known_extern tree.externs && b && list_all (class_finds tree) tree.classes && list_all (is_possible_type tree) (class_types_of_tree tree) && list_all finds_labels (methods_of_tree tree) && list_all (finds_member tree) (instructions_of_tree tree))) names_parted ∙
      ap not (regroup (list_all is_known_extern tree.externs) (list_all (is_resolved tree) (flat_map named_by tree.classes)) (list_all (is_resolved tree) (class_types_of_tree tree)) (list_all (is_resolved tree) (flat_map owners_of_instruction (instructions_of_tree tree))) (list_all (class_finds tree) tree.classes) (list_all (is_possible_type tree) (class_types_of_tree tree)) (list_all finds_labels (methods_of_tree tree)) (list_all (finds_member tree) (instructions_of_tree tree))) ∙
      sym (ap (λ b. not (list_all is_known_extern tree.externs && b && (list_all (is_resolved tree) (class_types_of_tree tree) && list_all (is_possible_type tree) (class_types_of_tree tree)) && list_all finds_labels (methods_of_tree tree) && (list_all (is_resolved tree) (flat_map owners_of_instruction (instructions_of_tree tree)) && list_all (finds_member tree) (instructions_of_tree tree)))) (classes_known tree.classes))

  abbrev externs_known : Bool
  externs_known = list_all is_known_extern tree.externs

  abbrev types_all : Bool
  types_all = list_all (is_resolved tree) (class_types_of_tree tree) && list_all (is_possible_type tree) (class_types_of_tree tree)

  abbrev members_all : Bool
  members_all = list_all (is_resolved tree) (flat_map owners_of_instruction (instructions_of_tree tree)) && list_all (finds_member tree) (instructions_of_tree tree)

  abbrev labels_all : Bool
  labels_all = list_all finds_labels (methods_of_tree tree)

  pub externs_fail : externs_known ≡ false → true ≡ lacks_name tree
  externs_fail h = sym (lacks ∙ ap not (first_fails externs_known (list_all is_class tree.classes) types_all labels_all members_all h))

  pub classes_fail : list_all is_class tree.classes ≡ false → true ≡ lacks_name tree
  classes_fail h = sym (lacks ∙ ap not (second_fails externs_known (list_all is_class tree.classes) types_all labels_all members_all h))

  pub types_fail : types_all ≡ false → true ≡ lacks_name tree
  types_fail h = sym (lacks ∙ ap not (third_fails externs_known (list_all is_class tree.classes) types_all labels_all members_all h))

  -- the owners, the members and the labels that methods name
  code_known : list_all (λ (c : Class). list_all (knows_names tree) (method_members c)) tree.classes ≡ labels_all && members_all
  code_known =
      sym (list_all-flat_map (knows_names tree) method_members tree.classes) ∙
      sym (list_all_both (λ m. list_all is_instruction (instructions_of m)) finds_labels (methods_of_tree tree)) ∙
      ap (λ b. b && labels_all) (sym (list_all-flat_map is_instruction instructions_of (methods_of_tree tree)) ∙ instructions_known (instructions_of_tree tree)) ∙
      and_comm members_all labels_all

  pub code_decides : (b : Bool) → externs_known ≡ true → list_all is_class tree.classes ≡ true → types_all ≡ true → b ≡ list_all (λ (c : Class). list_all (knows_names tree) (method_members c)) tree.classes → not b ≡ lacks_name tree
  code_decides b h i j e = sym (lacks ∙ ap not (last_two_decide externs_known (list_all is_class tree.classes) types_all labels_all members_all h i j ∙ sym (e ∙ code_known)))

-- ---- labels

-- a label is before some line
pub label_is_found : (m : Method) (label : List ℕ) → list_any (same_text label) (labels_before m) ≡ is_some (pc_of label (lines_of m))
label_is_found m label = list_any-flat_map (same_text label) (λ (l : Line). l.labels) (lines_of m) ∙ sym (is_some-position_from (λ (l : Line). list_any (same_text label) l.labels) 0 (lines_of m))

abbrev pub are_labels : List (List ℕ) → Instruction → Bool
are_labels labels i = list_all (λ w. list_any (same_text w) labels) (labels_of i)

pub labels_found : (m : Method) → list_all (λ (l : Line). are_labels (labels_before m) l.instruction) (lines_of m) ≡ finds_labels m
labels_found m =
    list_all_congr (λ (l : Line). are_labels (labels_before m) l.instruction) (λ (l : Line). list_all (λ w. is_some (pc_of w (lines_of m))) (labels_of l.instruction)) (λ l. list_all_congr _ _ (label_is_found m) (labels_of l.instruction)) (lines_of m) ∙
    sym (list_all-map (λ i. list_all (λ w. is_some (pc_of w (lines_of m))) (labels_of i)) (λ (l : Line). l.instruction) (lines_of m))

-- what the lines of a method name
pub method_known : (tree : Tree) (m : Method) → list_all (λ (l : Line). is_instruction tree l.instruction && are_labels (labels_before m) l.instruction) (lines_of m) ≡ knows_names tree m
method_known tree m =
    sym (list_all_both (λ (l : Line). is_instruction tree l.instruction) (λ (l : Line). are_labels (labels_before m) l.instruction) (lines_of m)) ∙
    ap (λ b. b && list_all (λ (l : Line). are_labels (labels_before m) l.instruction) (lines_of m)) (sym (list_all-map (is_instruction tree) (λ (l : Line). l.instruction) (lines_of m))) ∙
    ap (λ b. list_all (is_instruction tree) (instructions_of m) && b) (labels_found m)
