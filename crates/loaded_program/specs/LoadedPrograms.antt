-- What a loaded program holds.
use Rattle.std.specs.Prelude.{◌≡◌, ◌<◌, ◌^◌, ℕ, Bool, if◌then◌else◌, List, [], length, is_some, Option, Some, None, option_map, option_and_then, slice_get}
use Rattle.cil_model.specs.declared.types.ClassName.{ClassName}
use Rattle.cil_model.specs.declared.trees.Tree.{Tree}
use Rattle.cil_model.specs.declared.trees.Line.{Line}
use Rattle.cil_model.specs.declared.trees.Method.{Method}
use Rattle.cil_model.specs.Bodies.{argument_types, lines_of}
use Rattle.cil_model.specs.Chains.{is_virtual}
use Rattle.cil_model.specs.Slots.{target}
use Rattle.name_tables.specs.Numbers.{declarations, method_at}
use Rattle.reference_machine.specs.BuiltIn.{action_of}
use Rattle.resolved_code.specs.ResolvedPrograms.{AllAlike, IsOperation}
use Rattle.resolved_code.specs.ById.{class_name}
use Rattle.resolved_code.specs.declared.classes.ResolvedKind.{ResolvedKind}
use Rattle.resolved_code.specs.declared.classes.ResolvedKind.TheVariants.{Static, Instance, Virtual, Abstract}
use Rattle.resolved_code.specs.declared.operations.Operation.{Operation}
use Rattle.class_layout.specs.declared.layout.Layout.{Layout}
use Rattle.class_layout.specs.Layouts.{IsLayout}
use Rattle.loaded_program.specs.AllMethods.{all_methods, first_numbers}
use Rattle.loaded_program.specs.LocalKinds.{action_named, local_kinds}
use Rattle.loaded_program.specs.declared.numbers.MethodNumbers.{MethodNumbers}
use Rattle.loaded_program.specs.declared.instructions.LinkedInstruction.{LinkedInstruction}
use Rattle.loaded_program.specs.declared.linker.Linker.{Linker}
use Rattle.loaded_program.specs.declared.loaded_methods.LoadedMethod.{LoadedMethod}
use Rattle.loaded_program.specs.Operands.{HasSmallConstant}
use Rattle.loaded_program.specs.Links.{IsLinked}

-- the flat numbers of a tree's methods, which have 32 bits, by those of each class's first one
pub record AreMethodNumbers (tree : Tree) (numbers : MethodNumbers) : Type 0 where
  pub first : numbers.first.items ≡ first_numbers 0 (declarations tree)
  pub few : length (all_methods tree) < 2 ^ 32

-- what instructions are linked by is of one program
pub record CanLink (linker : Linker) : Type 0 where
  pub layout_is : IsLayout linker.program.now linker.layout.now
  pub flat_numbers : AreMethodNumbers linker.program.now linker.numbers.now

-- the resolved instructions of a method; none where it has no code (II.15.4.2)
abbrev pub operations_of : ResolvedKind → List Operation
operations_of (Static body) = body.operations
operations_of (Instance body) = body.operations
operations_of (Virtual is_new_slot body) = body.operations
operations_of (Abstract is_new_slot) = []

-- whether a method returns a value (II.15.3)
abbrev pub has_value : ClassName × Method → Bool
has_value found = is_some found.1.signature.return_type

-- a resolved instruction, linked
pub record IsLinkedOperation (tree : Tree) (has_value : Bool) (operation : Operation) (linked : LinkedInstruction) : Type 0 where
  pub constant : HasSmallConstant operation
  pub is : IsLinked tree has_value operation linked

-- the resolved instruction that represents a line of a method, linked
pub record IsLinkedLine (tree : Tree) (found : ClassName × Method) (line : Line) (linked : LinkedInstruction) : Type 0 where
  pub operation : Operation
  pub refines : IsOperation tree (lines_of found.1) line.instruction operation
  pub links : IsLinkedOperation tree (has_value found) operation linked

-- a method of a class, loaded
pub record IsLoadedMethod (tree : Tree) (found : ClassName × Method) (loaded : LoadedMethod) : Type 0 where
  pub member : method_at tree (loaded.member.class, loaded.member.index) ≡ Some found
  pub arguments : loaded.arguments ≡ length (argument_types found.1 found.0)
  pub locals : loaded.locals.items ≡ local_kinds found.1
  pub has_value : loaded.has_value ≡ is_some found.1.signature.return_type
  pub action : option_map action_named loaded.action ≡ action_of found.0 found.1
  pub code : AllAlike (IsLinkedLine tree found) (lines_of found.1) loaded.code.items

-- a loaded program
pub record IsLoaded (tree : Tree) (layout : Layout) (numbers : MethodNumbers) (methods : List LoadedMethod) : Type 0 where
  pub layout_is : IsLayout tree layout
  pub flat_numbers : AreMethodNumbers tree numbers
  pub loaded : AllAlike (IsLoadedMethod tree) (all_methods tree) methods

-- ---- what is found

-- the line at a pc of the method with a flat number
abbrev pub line_in : Tree → ℕ → ℕ → Option Line
line_in tree method index = option_and_then (λ (found : ClassName × Method). slice_get (lines_of found.1) index) (slice_get (all_methods tree) method)

-- the linked instruction there
pub record IsLinkedAt (tree : Tree) (method index : ℕ) (instruction : LinkedInstruction) : Type 0 where
  pub found : ClassName × Method
  pub line : Line
  pub found_is : slice_get (all_methods tree) method ≡ Some found
  pub line_is : slice_get (lines_of found.1) index ≡ Some line
  pub linked : IsLinkedLine tree found line instruction

-- the linked instructions of the method with a flat number, one for each of its lines
pub record IsCode (tree : Tree) (method : ℕ) (code : List LinkedInstruction) : Type 0 where
  pub found : ClassName × Method
  pub found_is : slice_get (all_methods tree) method ≡ Some found
  pub lines : AllAlike (IsLinkedLine tree found) (lines_of found.1) code

-- the method that runs in place of another on an object of the class of a number, or on an array, which has none: a method that is not virtual
-- runs itself (III.4.2)
abbrev pub chosen_by : Tree → ClassName × Method → Option ℕ → Option (ClassName × Method)
chosen_by tree found (Some n) = option_and_then (λ d. target tree d found.0 found.1) (class_name tree n)
chosen_by tree found None = if is_virtual found.1.kind then None else Some found

-- the same of the method of a flat number
abbrev pub target_in : Tree → ℕ → Option ℕ → Option (ClassName × Method)
target_in tree method class = option_and_then (λ found. chosen_by tree found class) (slice_get (all_methods tree) method)
