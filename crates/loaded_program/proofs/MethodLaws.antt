-- Loaded methods.
use Rattle.std.proofs.Common.{◌≡◌, ◌<◌, ℕ, zero, suc, List, [], ◌∷◌, length, Option, Some, None, slice_get, refl, sym, ap, subst, ◌∙◌}
use Rattle.std.specs.Prelude.{IsSome, is_some, option_and_then}
use Rattle.cil_model.specs.declared.types.ClassName.{ClassName}
use Rattle.cil_model.specs.declared.trees.Tree.{Tree}
use Rattle.cil_model.specs.declared.trees.Line.{Line}
use Rattle.cil_model.specs.declared.trees.Method.{Method}
use Rattle.cil_model.specs.declared.trees.MethodKind.{MethodKind}
use Rattle.cil_model.specs.declared.trees.MethodKind.TheVariants as NamedKind
use Rattle.cil_model.specs.declared.trees.Code.{Code}
use Rattle.cil_model.specs.Bodies.{code_of, lines_of}
use Rattle.std.specs.Option.{option_map_or}
use Rattle.resolved_code.specs.ResolvedPrograms.{AllAlike, IsOperation, IsResolvedKind}
use Rattle.resolved_code.specs.declared.classes.ResolvedKind.{ResolvedKind}
use Rattle.resolved_code.specs.declared.classes.ResolvedKind.TheVariants as KindOf
use Rattle.resolved_code.specs.declared.operations.Operation.{Operation}
use Rattle.loaded_program.specs.declared.instructions.LinkedInstruction.{LinkedInstruction}
use Rattle.std.proofs.lemmas.Option.{same_Some, slice_get_within}
use Rattle.loaded_program.specs.AllMethods.{all_methods}
use Rattle.loaded_program.specs.LoadedPrograms.{IsCode, IsLinkedAt, IsLinkedOperation, IsLinkedLine, chosen_by, has_value, line_in, operations_of, target_in}
use Rattle.loaded_program.proofs.OperandLaws.{then_some}

-- the item of the second list at an index of the first
pub alike_from : {X Y : Type 0} (R : X → Y → Type 0) (xs : List X) (ys : List Y) (n : ℕ) (x : X) → AllAlike R xs ys → slice_get xs n ≡ Some x → (y : Y) × (slice_get ys n ≡ Some y) × R x y
alike_from R [] ys n x alike at = absurd (cc at)
alike_from R (z ∷ xs) [] n x alike at = absurd alike
alike_from R (z ∷ xs) (y ∷ ys) zero x alike at = let same : z ≡ x = cc in (y, refl, subst (λ w. R w y) same alike.0)
alike_from R (z ∷ xs) (y ∷ ys) (suc n) x alike at = alike_from R xs ys n x alike.1 at

-- the lines of what a method is
abbrev lines_in : MethodKind → List Line
lines_in k = option_map_or (λ (code : Code). code.lines) (code_of k) []

lines_alike : (tree : Tree) (k : MethodKind) (r : ResolvedKind) → IsResolvedKind tree k r → AllAlike (λ (line : Line) operation. IsOperation tree (lines_in k) line.instruction operation) (lines_in k) (operations_of r)
lines_alike tree (NamedKind.Static code) (KindOf.Static body) is = is.operations
lines_alike tree (NamedKind.Instance code) (KindOf.Instance body) is = is.operations
lines_alike tree (NamedKind.Virtual b code) (KindOf.Virtual d body) is = is.1.operations
lines_alike tree (NamedKind.Abstract b) (KindOf.Abstract d) is = tt
lines_alike tree _ _ is = absurd is

-- the lines of a method, linked
module _ (tree : Tree) (found : ClassName × Method) where
  through : (lines : List Line) (operations : List Operation) (code : List LinkedInstruction) → AllAlike (λ (line : Line) operation. IsOperation tree (lines_of found.1) line.instruction operation) lines operations
      → AllAlike (IsLinkedOperation tree (has_value found)) operations code → AllAlike (IsLinkedLine tree found) lines code
  through [] [] [] resolved linked = tt
  through (line ∷ lines) (operation ∷ operations) (l ∷ code) resolved linked =
      (record { operation = operation; refines = resolved.0; links = linked.0 }, through lines operations code resolved.1 linked.1)
  through [] (operation ∷ operations) code resolved linked = absurd resolved
  through (line ∷ lines) [] code resolved linked = absurd resolved
  through [] [] (l ∷ code) resolved linked = absurd linked
  through (line ∷ lines) (operation ∷ operations) [] resolved linked = absurd linked

  pub linked_lines : (r : ResolvedKind) (code : List LinkedInstruction) → IsResolvedKind tree found.1.kind r → AllAlike (IsLinkedOperation tree (has_value found)) (operations_of r) code → AllAlike (IsLinkedLine tree found) (lines_of found.1) code
  linked_lines r code is linked = through (lines_of found.1) (operations_of r) code (lines_alike tree found.1.kind r is) linked

-- ---- what is found

pub some_of : {X : Type 0} (o : Option X) → IsSome o → (x : X) × (o ≡ Some x)
some_of (Some x) there = (x, refl)
some_of None there = absurd cc

-- the line at a pc of the method of a flat number, linked
module _ (tree : Tree) (number index : ℕ) (there : IsSome (line_in tree number index)) where
  lined : (line : Line) × (line_in tree number index ≡ Some line)
  lined = some_of (line_in tree number index) there

  -- there is such a method
  pub has_code : IsSome (slice_get (all_methods tree) number)
  has_code = ap is_some (then_some (λ (found : ClassName × Method). slice_get (lines_of found.1) index) (slice_get (all_methods tree) number) lined.0 lined.1).1

  module _ (code : List LinkedInstruction) (is : IsCode tree number code) where
    line_at : slice_get (lines_of is.found.1) index ≡ Some lined.0
    line_at = sym (ap (option_and_then (λ (found : ClassName × Method). slice_get (lines_of found.1) index)) is.found_is) ∙ lined.1

    here : (l : LinkedInstruction) × (slice_get code index ≡ Some l) × IsLinkedLine tree is.found lined.0 l
    here = alike_from (IsLinkedLine tree is.found) (lines_of is.found.1) code index lined.0 is.lines line_at

    -- the pc is within the code
    pub within_code : index < length code
    within_code = slice_get_within code index here.0 here.1

    pub is_linked_at : (l : LinkedInstruction) → slice_get code index ≡ Some l → IsLinkedAt tree number index l
    is_linked_at l l_is = record { found = is.found; line = lined.0; found_is = is.found_is; line_is = line_at; linked = subst (IsLinkedLine tree is.found lined.0) (same_Some here.0 l (sym here.1 ∙ l_is)) here.2 }

-- ---- what runs

module _ (tree : Tree) (number : ℕ) where
  -- a method, and what runs in its place
  pub record Chosen (class : Option ℕ) : Type 0 where
    pub found : ClassName × Method
    pub run : ClassName × Method
    pub found_is : slice_get (all_methods tree) number ≡ Some found
    pub run_is : chosen_by tree found class ≡ Some run
    pub target_is : target_in tree number class ≡ Some run

  pub chosen : (class : Option ℕ) → IsSome (target_in tree number class) → Chosen class
  chosen class there =
      let run = some_of (target_in tree number class) there in
      let found = then_some (λ (found : ClassName × Method). chosen_by tree found class) (slice_get (all_methods tree) number) run.0 run.1 in
      record { found = found.0; run = run.0; found_is = found.1; run_is = found.2; target_is = run.1 }
