-- A legal tree by numbers: its classes, its literals and its entry point.
use Rattle.std.specs.Prelude.{◌≡◌, ℕ, suc, List, [], ◌∷◌, Option, Some, None, option_to_list}
use Rattle.std.specs.Option.{option_map_or}
use Rattle.std.specs.List.{position_from}
use Rattle.cil_model.specs.declared.types.ClassName.{ClassName}
use Rattle.cil_model.specs.declared.trees.Tree.{Tree}
use Rattle.cil_model.specs.declared.trees.Field.{Field}
use Rattle.cil_model.specs.declared.trees.Method.{Method}
use Rattle.cil_model.specs.Bodies.{is_entry_point, entry_points}
use Rattle.cil_model.specs.Declarations.{Declaration}
use Rattle.cil_model.specs.Mentions.{literals_of}
use Rattle.name_tables.specs.declared.ids.FieldId.{FieldId}
use Rattle.name_tables.specs.declared.ids.MethodId.{MethodId}
use Rattle.name_tables.specs.Numbers.{field_at, method_at}
use Rattle.resolved_code.specs.declared.classes.ResolvedField.{ResolvedField}
use Rattle.resolved_code.specs.declared.classes.ResolvedMethod.{ResolvedMethod}
use Rattle.resolved_code.specs.ResolvedPrograms.{AreResolved, BothAlike, IsResolvedField, IsResolvedMethod}
use Rattle.resolved_code.specs.declared.contents.Contents.{Contents}

-- the field that a number refers to, its type by number; none where the number refers to none (II.16)
abbrev pub IsFieldOf : Tree → FieldId → Option ResolvedField → Type 0
IsFieldOf tree number field = BothAlike (λ (named : ClassName × Field) resolved. IsResolvedField tree named.1 resolved) (field_at tree (number.class, number.index)) field

-- the method that a number refers to, by numbers; none where the number refers to none (II.15)
abbrev pub IsMethodOf : Tree → MethodId → Option ResolvedMethod → Type 0
IsMethodOf tree number method = BothAlike (λ (named : ClassName × Method) resolved. IsResolvedMethod tree named.1 resolved) (method_at tree (number.class, number.index)) method

-- the number of the one method with an entry point (II.15.4.1.2)
abbrev pub IsEntryPoint : Tree → MethodId → Type 0
IsEntryPoint tree number = entry_points tree ≡ option_to_list (method_at tree (number.class, number.index))

-- the class and the index of the first method with an entry point, where the first class has a number (II.15.4.1.2)
abbrev pub entry_from : ℕ → List (ClassName × Declaration) → Option (ℕ × ℕ)
entry_from class [] = None
entry_from class (e ∷ es) = option_map_or (λ index. Some (class, index)) (position_from is_entry_point 0 e.1.methods) (entry_from (suc class) es)

-- the classes, the literals and the entry point of a tree
pub record IsContents (tree : Tree) (contents : Contents) : Type 0 where
  pub classes : AreResolved tree contents.classes
  pub literals : contents.literals ≡ literals_of tree
  pub entry_point : IsEntryPoint tree contents.entry_point
