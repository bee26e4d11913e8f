-- Every name in a legal tree is found.
use Rattle.std.proofs.Common.{◌≡◌, ℕ, Bool, true, false, not, ◌&&◌, ◌||◌, is_some, List, [], ◌∷◌, ◌++◌, map, option_map, option_and_then, Option, Some, None, refl, sym, ap, ◌∙◌}
use Rattle.std.specs.Prelude.{flat_map, filter_map, option_to_list}
use Rattle.std.specs.List.{list_all, list_any, cons_option, position_from}
use Rattle.std.specs.Option.{option_map_or}
use Rattle.std.proofs.lemmas.List.Folds.{list_all-append, list_all-map}
use Rattle.std.proofs.lemmas.Bool.{not-false, and_from}
use Rattle.cil_model.specs.declared.types.ClassName.{ClassName}
use Rattle.cil_model.specs.declared.types.Element.{Element}
use Rattle.cil_model.specs.declared.types.Element.TheVariants.{Class as ClassElement}
use Rattle.cil_model.specs.declared.types.DeclaredType.{DeclaredType}
use Rattle.cil_model.specs.declared.instructions.MethodName.{MethodName}
use Rattle.cil_model.specs.declared.instructions.MethodName.TheVariants.{Constructor, Named as NamedMethod}
use Rattle.cil_model.specs.declared.instructions.FieldReference.{FieldReference}
use Rattle.cil_model.specs.declared.instructions.MethodReference.{MethodReference}
use Rattle.cil_model.specs.declared.instructions.Instruction.{Instruction}
use Rattle.cil_model.specs.declared.instructions.Instruction.TheVariants as Named
use Rattle.cil_model.specs.declared.trees.Tree.{Tree}
use Rattle.cil_model.specs.declared.trees.Class.{Class}
use Rattle.cil_model.specs.declared.trees.ClassKind.{ClassKind}
use Rattle.cil_model.specs.declared.trees.ClassKind.TheVariants.{Interface, Class as PlainClass}
use Rattle.cil_model.specs.declared.trees.Field.{Field}
use Rattle.cil_model.specs.declared.trees.Method.{Method}
use Rattle.cil_model.specs.declared.trees.MethodKind.{MethodKind}
use Rattle.cil_model.specs.declared.trees.MethodKind.TheVariants as NamedKind
use Rattle.cil_model.specs.declared.trees.Code.{Code}
use Rattle.cil_model.specs.declared.trees.Line.{Line}
use Rattle.cil_model.specs.Same.{same_text}
use Rattle.cil_model.specs.Declarations.{Declaration, built_ins, declaration_of, source_class, declared_as, field_members, method_members, fields_unless_interface, base_named, interfaces_named, is_interface_kind}
use Rattle.cil_model.specs.Bodies.{code_of, lines_of, labels_of, pc_of, virtual_reference, constructor_reference}
use Rattle.cil_model.specs.Chains.{find_field, find_method, longest_chain, classes_searched}
use Rattle.cil_model.specs.Mentions.{bases_named, literal_of, literals_of, types_of_instruction, types_of_method, types_of_signature, types_of_tree, instructions_of, instructions_of_tree, methods_of_tree, class_of_element, class_types_of_tree, class_names_of_tree, owners_of_instruction}
use Rattle.cil_model.specs.Legality.{IsLegal, is_known_extern, is_resolved, class_finds, is_possible_base, is_possible_type, is_source_interface, passes_source, finds_labels, finds_member}
use Rattle.cil_model.proofs.Lists.{list_all-flat_map, list_all-filter_map}
use Rattle.cil_model.proofs.SameLaws.{both_first, both_second, never}
use Rattle.cil_model.proofs.Legal.{names_found}
use Rattle.name_tables.specs.Sameness.{same_field, same_call_identity, call_identity_of}
use Rattle.name_tables.specs.Numbers.{class_number, index_in, nearest_number, field_number, method_number, field_at, method_at, declarations, source_entry}
use Rattle.name_tables.proofs.FirstIndices.{is_some-position_from}
use Rattle.name_tables.proofs.NumberLaws.{declared_at_none, field_has_id, method_has_id, numbers_of_unknown}
use Rattle.name_tables.specs.declared.ids.FieldId.{FieldId}
use Rattle.name_tables.specs.declared.ids.MethodId.{MethodId}
use Rattle.resolved_code.specs.declared.operations.Operation.{Operation}
use Rattle.resolved_code.specs.Rules.{all_some, if_named, element_rule, type_rule, types_rule, field_id, method_id, with_owner, operation_rule, operations_rule, body_rule, kind_rule, resolved_method_rule, resolved_field_rule, class_rule, classes_rule}
use Rattle.resolved_code.proofs.ListLaws.Tests.{found_alike}
use Rattle.resolved_code.proofs.Numbers.Literals.{all_among_once}

-- ---- tests

kept : {X Y : Type 0} (f : X → Y) (o : Option X) → is_some o ≡ true → is_some (option_map f o) ≡ true
kept f None h = never h
kept f (Some x) h = refl

-- what a test needs is there where the test passes
there_by : {X : Type 0} (o : Option X) (passes : Bool) → (o ≡ None → passes ≡ false) → passes ≡ true → is_some o ≡ true
there_by None passes fails h = never (sym (fails refl) ∙ h)
there_by (Some x) passes fails h = refl

then_kept : {X Y : Type 0} (f : X → Option Y) (o : Option X) → is_some o ≡ true → ((x : X) → is_some (f x) ≡ true) → is_some (option_and_then f o) ≡ true
then_kept f None h each = never h
then_kept f (Some x) h each = each x

all_kept : {X : Type 0} (p q : X → Bool) → ((x : X) → p x ≡ true → q x ≡ true) → (xs : List X) → list_all p xs ≡ true → list_all q xs ≡ true
all_kept p q each [] h = refl
all_kept p q each (x ∷ xs) h = and_from _ _ (each x (both_first _ _ h)) (all_kept p q each xs (both_second _ _ h))

all_four : {X : Type 0} (p q r s t : X → Bool) → ((x : X) → p x ≡ true → q x ≡ true → r x ≡ true → s x ≡ true → t x ≡ true) →
    (xs : List X) → list_all p xs ≡ true → list_all q xs ≡ true → list_all r xs ≡ true → list_all s xs ≡ true → list_all t xs ≡ true
all_four p q r s t each [] h i j k = refl
all_four p q r s t each (x ∷ xs) h i j k =
    and_from _ _ (each x (both_first _ _ h) (both_first _ _ i) (both_first _ _ j) (both_first _ _ k)) (all_four p q r s t each xs (both_second _ _ h) (both_second _ _ i) (both_second _ _ j) (both_second _ _ k))

all_first : {X : Type 0} (p : X → Bool) (xs ys : List X) → list_all p (xs ++ ys) ≡ true → list_all p xs ≡ true
all_first p xs ys h = both_first _ _ (sym (list_all-append p xs ys) ∙ h)

all_second : {X : Type 0} (p : X → Bool) (xs ys : List X) → list_all p (xs ++ ys) ≡ true → list_all p ys ≡ true
all_second p xs ys h = both_second _ _ (sym (list_all-append p xs ys) ∙ h)

all_there : {X Y : Type 0} (rule : X → Option Y) (xs : List X) → list_all (λ x. is_some (rule x)) xs ≡ true → is_some (all_some (map rule xs)) ≡ true
all_there rule [] h = refl
all_there rule (x ∷ xs) h = then_kept _ (rule x) (both_first _ _ h) (λ y. kept _ (all_some (map rule xs)) (all_there rule xs (both_second _ _ h)))

named_there : {X Y : Type 0} (rule : X → Option Y) (o : Option X) → list_all (λ x. is_some (rule x)) (option_to_list o) ≡ true → is_some (if_named rule o) ≡ true
named_there rule None h = refl
named_there rule (Some x) h = kept Some (rule x) (both_first _ _ h)

module _ (tree : Tree) where
  abbrev is_known : ClassName → Bool
  is_known c = is_some (class_number tree c)

  -- ---- classes

  declared_known : (c : ClassName) → is_some (declaration_of tree c) ≡ true → is_known c ≡ true
  declared_known c h = there_by (class_number tree c) (is_some (declaration_of tree c)) (λ e. ap is_some (declared_at_none tree c e)) h

  abbrev is_class : ClassKind → Bool
  is_class k = not (is_interface_kind k)

  -- a name that resolves and passes a test that only declared names pass has a number
  known_at : (test : ClassName → Bool) → ((n : List ℕ) → source_class tree (record { assembly = None; name = n }) ≡ None → test (record { assembly = None; name = n }) ≡ false) →
      (o : Option (List ℕ)) (n : List ℕ) → is_resolved tree (record { assembly = o; name = n }) ≡ true → test (record { assembly = o; name = n }) ≡ true → is_known (record { assembly = o; name = n }) ≡ true
  known_at test fails (Some a) n r p = declared_known (record { assembly = Some a; name = n }) (both_second _ _ r)
  known_at test fails None n r p = let c : ClassName = record { assembly = None; name = n } in declared_known c (kept _ (source_class tree c) (there_by (source_class tree c) (test c) (fails n) p))

  type_known : (c : ClassName) → is_resolved tree c ≡ true → is_possible_type tree c ≡ true → is_known c ≡ true
  type_known c = known_at (is_possible_type tree) (λ n. ap (λ s. (passes_source is_class s || passes_source is_interface_kind s) || false)) c.assembly c.name

  base_known : (c : ClassName) → is_resolved tree c ≡ true → is_possible_base tree c ≡ true → is_known c ≡ true
  base_known c = known_at (is_possible_base tree) (λ n. ap (λ s. (passes_source is_class s || false) || false)) c.assembly c.name

  interface_known : (c : ClassName) → is_resolved tree c ≡ true → is_source_interface tree c ≡ true → is_known c ≡ true
  interface_known c = known_at (is_source_interface tree) (λ n. ap (passes_source is_interface_kind)) c.assembly c.name

  -- ---- types

  abbrev is_type_found : DeclaredType → Bool
  is_type_found t = is_some (type_rule tree t)

  abbrev type_test : DeclaredType → Bool
  type_test t = option_map_or (λ c. is_resolved tree c && is_possible_type tree c) (class_of_element t.element) true

  type_found : (t : DeclaredType) → type_test t ≡ true → is_type_found t ≡ true
  type_found t h = kept _ (element_rule tree t.element) (by_element t.element h)
    where
      by_element : (e : Element) → option_map_or (λ c. is_resolved tree c && is_possible_type tree c) (class_of_element e) true ≡ true → is_some (element_rule tree e) ≡ true
      by_element (ClassElement c) k = kept _ (class_number tree c) (type_known c (both_first _ _ k) (both_second _ _ k))
      by_element _ _ = refl

  -- ---- members

  field_there : (is_static : Bool) (r : FieldReference) → is_some (find_field tree is_static r) ≡ true → is_some (field_number tree is_static r) ≡ true
  field_there is_static r h = found_alike (field_at tree) Some (field_number tree is_static r) (find_field tree is_static r) (field_has_id tree is_static r) ∙ h

  field_owner : (is_static : Bool) (r : FieldReference) → is_some (field_number tree is_static r) ≡ true → is_known r.owner ≡ true
  field_owner is_static r h = there_by (class_number tree r.owner) (is_some (field_number tree is_static r)) (λ e. ap (λ ns. is_some (nearest_number (index_in (λ d. d.fields) (same_field (record { is_static = is_static; field_type = r.field_type; name = r.name })) tree) ns)) (numbers_of_unknown tree (longest_chain tree) r.owner e)) h

  method_there : (is_instance : Bool) (r : MethodReference) → is_some (find_method tree is_instance r) ≡ true → is_some (method_number tree is_instance r) ≡ true
  method_there is_instance r h = found_alike (method_at tree) Some (method_number tree is_instance r) (find_method tree is_instance r) (method_has_id tree is_instance r) ∙ h

  none_searched : (name : MethodName) (owner : ClassName) → class_number tree owner ≡ None → filter_map (class_number tree) (classes_searched tree name owner) ≡ []
  none_searched Constructor owner e = ap (λ o. cons_option o []) e
  none_searched (NamedMethod name) owner e = numbers_of_unknown tree (longest_chain tree) owner e

  method_owner : (is_instance : Bool) (r : MethodReference) → is_some (method_number tree is_instance r) ≡ true → is_known r.owner ≡ true
  method_owner is_instance r h = there_by (class_number tree r.owner) (is_some (method_number tree is_instance r)) (λ e. ap (λ ns. is_some (nearest_number (index_in (λ d. d.methods) (λ m. same_call_identity (record { name = r.name; signature = r.signature }, not is_instance) (call_identity_of m)) tree) ns)) (none_searched r.name r.owner e)) h

  -- ---- instructions

  abbrev is_literal_there : List ℕ → Bool
  is_literal_there s = is_some (position_from (same_text s) 0 (literals_of tree))

  abbrev literal_test : Instruction → Bool
  literal_test i = option_map_or is_literal_there (literal_of i) true

  abbrev label_test : List Line → Instruction → Bool
  label_test lines i = list_all (λ label. is_some (pc_of label lines)) (labels_of i)

  abbrev operand_test : Instruction → Bool
  operand_test i = list_all is_type_found (types_of_instruction i)

  on_field : (lines : List Line) (make : ℕ → FieldId → Operation) (r : FieldReference) (is_static : Bool) → is_some (find_field tree is_static r) ≡ true → is_some (with_owner tree r.owner make (option_map field_id (field_number tree is_static r))) ≡ true
  on_field lines make r is_static h =
      let n = field_there is_static r h in
      then_kept _ (class_number tree r.owner) (field_owner is_static r n) (λ owner. kept _ (option_map field_id (field_number tree is_static r)) (kept _ (field_number tree is_static r) n))

  on_method : (make : ℕ → MethodId → Operation) (r : MethodReference) (is_instance : Bool) → is_some (find_method tree is_instance r) ≡ true → is_some (with_owner tree r.owner make (option_map method_id (method_number tree is_instance r))) ≡ true
  on_method make r is_instance h =
      let n = method_there is_instance r h in
      then_kept _ (class_number tree r.owner) (method_owner is_instance r n) (λ owner. kept _ (option_map method_id (method_number tree is_instance r)) (kept _ (method_number tree is_instance r) n))

  module _ (lines : List Line) where
    abbrev is_operation_found : Instruction → Bool
    is_operation_found i = is_some (operation_rule tree lines i)

    operation_found : (i : Instruction) → operand_test i ≡ true → label_test lines i ≡ true → finds_member tree i ≡ true → literal_test i ≡ true → is_operation_found i ≡ true
    operation_found (Named.LoadString c) t l m s = kept _ (position_from (same_text c) 0 (literals_of tree)) s
    operation_found (Named.Branch condition label) t l m s = kept _ (pc_of label lines) (both_first _ _ l)
    operation_found (Named.Switch labels) t l m s = kept _ (all_some (map (λ label. pc_of label lines) labels)) (all_there (λ label. pc_of label lines) labels l)
    operation_found (Named.LoadField r) t l m s = on_field lines _ r false m
    operation_found (Named.StoreField r) t l m s = on_field lines _ r false m
    operation_found (Named.LoadStaticField r) t l m s = kept _ (option_map field_id (field_number tree true r)) (kept _ (field_number tree true r) (field_there true r m))
    operation_found (Named.StoreStaticField r) t l m s = kept _ (option_map field_id (field_number tree true r)) (kept _ (field_number tree true r) (field_there true r m))
    operation_found (Named.NewArray d) t l m s = kept _ (type_rule tree d) (both_first _ _ t)
    operation_found (Named.CastClass d) t l m s = kept _ (type_rule tree d) (both_first _ _ t)
    operation_found (Named.IsInstance d) t l m s = kept _ (type_rule tree d) (both_first _ _ t)
    operation_found (Named.Call i r) t l m s = on_method _ r i m
    operation_found (Named.CallVirtual c name signature) t l m s = on_method _ (virtual_reference c name signature) true m
    operation_found (Named.NewObject c ps) t l m s =
        kept _ (option_map method_id (method_number tree true (constructor_reference c ps))) (kept _ (method_number tree true (constructor_reference c ps)) (method_there true (constructor_reference c ps) m))
    operation_found _ _ _ _ _ = refl

    operations_found : (ls : List Line) → list_all is_type_found (flat_map types_of_instruction (map (λ (x : Line). x.instruction) ls)) ≡ true → list_all (label_test lines) (map (λ (x : Line). x.instruction) ls) ≡ true →
        list_all (finds_member tree) (map (λ (x : Line). x.instruction) ls) ≡ true → list_all literal_test (map (λ (x : Line). x.instruction) ls) ≡ true → is_some (all_some (map (λ (x : Line). operation_rule tree lines x.instruction) ls)) ≡ true
    operations_found ls t l m s =
        let is = map (λ (x : Line). x.instruction) ls in
        all_there (λ (x : Line). operation_rule tree lines x.instruction) ls (
        sym (list_all-map is_operation_found (λ (x : Line). x.instruction) ls) ∙
        all_four operand_test (label_test lines) (finds_member tree) literal_test is_operation_found operation_found is (sym (list_all-flat_map is_type_found types_of_instruction is) ∙ t) l m s)

  -- ---- methods

  body_found : (code : Code) → list_all is_type_found code.locals ≡ true → is_some (operations_rule tree code.lines) ≡ true → is_some (body_rule tree code) ≡ true
  body_found code t o = then_kept _ (types_rule tree code.locals) (all_there (type_rule tree) code.locals t) (λ locals. kept _ (operations_rule tree code.lines) o)

  abbrev locals_at : Option Code → List DeclaredType
  locals_at o = flat_map (λ (c : Code). c.locals) (option_to_list o)

  abbrev lines_at : Option Code → List Line
  lines_at o = option_map_or (λ (c : Code). c.lines) o []

  kind_found : (k : MethodKind) → list_all is_type_found (locals_at (code_of k)) ≡ true → is_some (operations_rule tree (lines_at (code_of k))) ≡ true → is_some (kind_rule tree k) ≡ true
  kind_found (NamedKind.Static code) t o = kept _ (body_rule tree code) (body_found code (all_first is_type_found code.locals [] t) o)
  kind_found (NamedKind.Instance code) t o = kept _ (body_rule tree code) (body_found code (all_first is_type_found code.locals [] t) o)
  kind_found (NamedKind.Virtual s code) t o = kept _ (body_rule tree code) (body_found code (all_first is_type_found code.locals [] t) o)
  kind_found (NamedKind.Abstract s) t o = refl

  abbrev is_method_found : Method → Bool
  is_method_found m = is_some (resolved_method_rule tree m)

  method_found : (m : Method) → list_all is_type_found (types_of_method m) ≡ true → finds_labels m ≡ true → list_all (finds_member tree) (instructions_of m) ≡ true → list_all literal_test (instructions_of m) ≡ true → is_method_found m ≡ true
  method_found m t l n s =
      let before = all_first is_type_found (types_of_signature m.signature ++ locals_at (code_of m.kind)) (flat_map types_of_instruction (instructions_of m)) t in
      let within = all_second is_type_found (types_of_signature m.signature ++ locals_at (code_of m.kind)) (flat_map types_of_instruction (instructions_of m)) t in
      let signature = all_first is_type_found (types_of_signature m.signature) (locals_at (code_of m.kind)) before in
      let locals = all_second is_type_found (types_of_signature m.signature) (locals_at (code_of m.kind)) before in
      then_kept _ (types_rule tree m.signature.parameters) (all_there (type_rule tree) m.signature.parameters (all_first is_type_found m.signature.parameters (option_to_list m.signature.return_type) signature)) (λ parameters.
      then_kept _ (if_named (type_rule tree) m.signature.return_type) (named_there (type_rule tree) m.signature.return_type (all_second is_type_found m.signature.parameters (option_to_list m.signature.return_type) signature)) (λ return_type.
      kept _ (kind_rule tree m.kind) (kind_found m.kind locals (operations_found (lines_of m) (lines_of m) within l n s))))

  -- ---- classes

  abbrev is_class_found : Declaration → Bool
  is_class_found d = is_some (class_rule tree d)

  fields_found : (k : ClassKind) (fs : List Field) → list_all is_type_found (map (λ (f : Field). f.field_type) fs) ≡ true → is_some (all_some (map (resolved_field_rule tree) (fields_unless_interface k fs))) ≡ true
  fields_found Interface fs h = refl
  fields_found (PlainClass a b i) fs h =
      all_there (resolved_field_rule tree) fs (all_kept (λ (f : Field). is_type_found f.field_type) (λ f. is_some (resolved_field_rule tree f)) (λ f e. kept _ (type_rule tree f.field_type) e) fs (sym (list_all-map is_type_found (λ (f : Field). f.field_type) fs) ∙ h))

  abbrev heading : Class → List ClassName
  heading c = bases_named c.kind ++ interfaces_named c.kind

  known_both : (p : ClassName → Bool) → ((c : ClassName) → is_resolved tree c ≡ true → p c ≡ true → is_known c ≡ true) → (cs : List ClassName) → list_all (is_resolved tree) cs ≡ true → list_all p cs ≡ true → list_all is_known cs ≡ true
  known_both p each [] r h = refl
  known_both p each (c ∷ cs) r h = and_from _ _ (each c (both_first _ _ r) (both_first _ _ h)) (known_both p each cs (both_second _ _ r) (both_second _ _ h))

  class_found : (c : Class) → list_all (is_resolved tree) (heading c) ≡ true → class_finds tree c ≡ true → list_all is_type_found (map (λ (f : Field). f.field_type) (field_members c)) ≡ true → list_all is_method_found (method_members c) ≡ true →
      is_class_found (declared_as c.kind (field_members c) (method_members c)) ≡ true
  class_found c r k f m =
      let bases = known_both (is_possible_base tree) base_known (bases_named c.kind) (all_first (is_resolved tree) (bases_named c.kind) (interfaces_named c.kind) r) (both_first _ _ k) in
      let interfaces = known_both (is_source_interface tree) interface_known (interfaces_named c.kind) (all_second (is_resolved tree) (bases_named c.kind) (interfaces_named c.kind) r) (both_second _ _ k) in
      then_kept _ (if_named (class_number tree) (base_named c.kind)) (named_there (class_number tree) (base_named c.kind) bases) (λ base.
      then_kept _ (all_some (map (class_number tree) (interfaces_named c.kind))) (all_there (class_number tree) (interfaces_named c.kind) interfaces) (λ found.
      then_kept _ (all_some (map (resolved_field_rule tree) (fields_unless_interface c.kind (field_members c)))) (fields_found c.kind (field_members c) f) (λ fields.
      kept _ (all_some (map (resolved_method_rule tree) (method_members c))) (all_there (resolved_method_rule tree) (method_members c) m))))

  built_ins_found : list_all (λ (e : ClassName × Declaration). is_class_found e.1) built_ins ≡ true
  built_ins_found = refl

  -- ---- the whole tree

  literals_there : list_all is_literal_there (filter_map literal_of (instructions_of_tree tree)) ≡ true
  literals_there =
      let found = filter_map literal_of (instructions_of_tree tree) in
      all_kept (λ s. list_any (same_text s) (literals_of tree)) is_literal_there (λ s e. is_some-position_from (same_text s) 0 (literals_of tree) ∙ e) found (all_among_once found)

  module _ (legal : IsLegal tree) where
    named : (list_all is_known_extern tree.externs && list_all (is_resolved tree) (class_names_of_tree tree) && list_all (class_finds tree) tree.classes && list_all (is_possible_type tree) (class_types_of_tree tree) && list_all finds_labels (methods_of_tree tree) && list_all (finds_member tree) (instructions_of_tree tree)) ≡ true
    named = not-false _ (names_found tree legal)

    abbrev headings : List ClassName
    headings = flat_map heading tree.classes

    abbrev owners : List ClassName
    owners = flat_map owners_of_instruction (instructions_of_tree tree)

    resolved : list_all (is_resolved tree) (class_names_of_tree tree) ≡ true
    resolved = both_second _ _ (both_first _ _ (both_first _ _ (both_first _ _ (both_first _ _ named))))

    resolved_types : list_all (is_resolved tree) (class_types_of_tree tree) ≡ true
    resolved_types = all_second (is_resolved tree) headings (class_types_of_tree tree) (all_first (is_resolved tree) (headings ++ class_types_of_tree tree) owners resolved)

    resolved_headings : list_all (is_resolved tree) headings ≡ true
    resolved_headings = all_first (is_resolved tree) headings (class_types_of_tree tree) (all_first (is_resolved tree) (headings ++ class_types_of_tree tree) owners resolved)

    two : (cs : List ClassName) → list_all (is_resolved tree) cs ≡ true → list_all (is_possible_type tree) cs ≡ true → list_all (λ c. is_resolved tree c && is_possible_type tree c) cs ≡ true
    two [] h k = refl
    two (c ∷ cs) h k =
        let r = is_resolved tree c in
        let p = is_possible_type tree c in
        and_from (r && p) (list_all (λ x. is_resolved tree x && is_possible_type tree x) cs) (and_from r p (both_first r (list_all (is_resolved tree) cs) h) (both_first p (list_all (is_possible_type tree) cs) k))
        (two cs (both_second r (list_all (is_resolved tree) cs) h) (both_second p (list_all (is_possible_type tree) cs) k))

    types_found : list_all is_type_found (types_of_tree tree) ≡ true
    types_found =
        all_kept type_test is_type_found type_found (types_of_tree tree) (
        sym (list_all-filter_map (λ c. is_resolved tree c && is_possible_type tree c) (λ (t : DeclaredType). class_of_element t.element) (types_of_tree tree)) ∙
        two (class_types_of_tree tree) resolved_types (both_second _ _ (both_first _ _ (both_first _ _ named))))

    abbrev field_types : Class → List DeclaredType
    field_types c = map (λ (f : Field). f.field_type) (field_members c)

    methods_found : list_all is_method_found (methods_of_tree tree) ≡ true
    methods_found =
        all_four (λ m. list_all is_type_found (types_of_method m)) finds_labels (λ m. list_all (finds_member tree) (instructions_of m)) (λ m. list_all literal_test (instructions_of m)) is_method_found method_found (methods_of_tree tree)
        (sym (list_all-flat_map is_type_found types_of_method (methods_of_tree tree)) ∙ all_second is_type_found (flat_map field_types tree.classes) (flat_map types_of_method (methods_of_tree tree)) types_found)
        (both_second _ _ (both_first _ _ named))
        (sym (list_all-flat_map (finds_member tree) instructions_of (methods_of_tree tree)) ∙ both_second _ _ named)
        (sym (list_all-flat_map literal_test instructions_of (methods_of_tree tree)) ∙ sym (list_all-filter_map is_literal_there literal_of (instructions_of_tree tree)) ∙ literals_there)

    pub classes_found : is_some (classes_rule tree) ≡ true
    classes_found =
        let of_source = all_four (λ c. list_all (is_resolved tree) (heading c)) (class_finds tree) (λ c. list_all is_type_found (field_types c)) (λ c. list_all is_method_found (method_members c)) (λ c. is_class_found (declared_as c.kind (field_members c) (method_members c))) class_found tree.classes
        (sym (list_all-flat_map (is_resolved tree) heading tree.classes) ∙ resolved_headings)
        (both_second _ _ (both_first _ _ (both_first _ _ (both_first _ _ named))))
        (sym (list_all-flat_map is_type_found field_types tree.classes) ∙ all_first is_type_found (flat_map field_types tree.classes) (flat_map types_of_method (methods_of_tree tree)) types_found)
        (sym (list_all-flat_map is_method_found method_members tree.classes) ∙ methods_found) in
        all_there (λ (e : ClassName × Declaration). class_rule tree e.1) (declarations tree) (
        list_all-append (λ (e : ClassName × Declaration). is_class_found e.1) built_ins (map source_entry tree.classes) ∙
        and_from _ _ built_ins_found (list_all-map (λ (e : ClassName × Declaration). is_class_found e.1) source_entry tree.classes ∙ of_source))
