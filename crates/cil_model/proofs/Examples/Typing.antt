-- The example is an accepted program.
use Rattle.std.proofs.Common.{◌≡◌, ℕ, zero, suc, pos, ◌≤ℤ◌, true, false, List, [], ◌∷◌, length, Some, None, refl, subst, Contains, slice_get, arith}
use Rattle.std.specs.Int.Signed.{le_z_yes}
use Rattle.std.proofs.lemmas.Option.{same_Some}
use Rattle.cil_model.specs.declared.types.ClassName.{ClassName}
use Rattle.cil_model.specs.declared.instructions.BinaryOperation.TheVariants.{Add}
use Rattle.cil_model.specs.declared.instructions.Instruction.TheVariants.{LoadInt32, Binary, Return}
use Rattle.cil_model.specs.declared.trees.Method.{Method}
use Rattle.cil_model.specs.declared.trees.Line.{Line}
use Rattle.cil_model.specs.Declarations.{source_name}
use Rattle.cil_model.specs.TypeTree.{StackType, i4}
use Rattle.cil_model.specs.FlowRules.{flow}
use Rattle.cil_model.specs.Bodies.{source_methods}
use Rattle.cil_model.specs.Typings.{Typing, FlowsOn, IsCodeTyping, IsTyping, IsAccepted}
use Rattle.cil_model.specs.Examples.{sum_program, sum_class, sum_method, sum_code, write_line, unlabelled_line}
use Rattle.cil_model.proofs.Lists.{none_is_some}
use Rattle.cil_model.proofs.Examples.LeastBrokenRule.{sum_legal}

no_label : {A : Type 0} (label : List ℕ) → Contains [] label → A
no_label {A} label (k, below, at) = absurd (grind (below, arith))

abbrev sum_typing : Typing
sum_typing = Some [] ∷ Some (i4 ∷ []) ∷ Some (i4 ∷ i4 ∷ []) ∷ Some (i4 ∷ []) ∷ Some [] ∷ []

-- the claim at one pc
abbrev Fine : ℕ → Line → List StackType → Type 0
Fine pc line stack = (after : List StackType) × (flow sum_program [] [] None line.instruction stack ≡ Some after) × FlowsOn sum_program sum_code sum_typing pc line after

moved : (pc : ℕ) (l line : Line) (s stack : List StackType) → Some l ≡ Some line → Some (Some s) ≡ Some (Some stack) → Fine pc l s → Fine pc line stack
moved pc l line s stack e f fine =
    let at_line : Fine pc line s = (let P : Line → Type 0 = λ x. Fine pc x s in subst P (same_Some l line e) fine) in
    let P : List StackType → Type 0 = λ x. Fine pc line x in
    subst P (same_Some s stack (same_Some (Some s) (Some stack) f)) at_line

each : (pc : ℕ) (line : Line) (stack : List StackType) → slice_get sum_code.lines pc ≡ Some line → slice_get sum_typing pc ≡ Some (Some stack) → Fine pc line stack
each zero line stack e f =
    moved 0 (unlabelled_line (LoadInt32 (pos 2))) line [] stack e f (i4 ∷ [], refl, record { falls = λ t. (i4 ∷ [], refl, ((0, refl), tt)); branches = λ label c. no_label label c })
each (suc zero) line stack e f =
    moved 1 (unlabelled_line (LoadInt32 (pos 3))) line (i4 ∷ []) stack e f (i4 ∷ i4 ∷ [], refl, record { falls = λ t. (i4 ∷ i4 ∷ [], refl, ((0, refl), ((0, refl), tt))); branches = λ label c. no_label label c })
each (suc (suc zero)) line stack e f =
    moved 2 (unlabelled_line (Binary Add)) line (i4 ∷ i4 ∷ []) stack e f (i4 ∷ [], refl, record { falls = λ t. (i4 ∷ [], refl, ((0, refl), tt)); branches = λ label c. no_label label c })
each (suc (suc (suc zero))) line stack e f =
    moved 3 (unlabelled_line write_line) line (i4 ∷ []) stack e f ([], refl, record { falls = λ t. ([], refl, tt); branches = λ label c. no_label label c })
each (suc (suc (suc (suc zero)))) line stack e f =
    moved 4 (unlabelled_line Return) line [] stack e f ([], refl, record { falls = λ t. nothing_falls t; branches = λ label c. no_label label c })
  where
    nothing_falls : {A : Type 0} → false ≡ true → A
    nothing_falls h = absurd (cc h)
each (suc (suc (suc (suc (suc n))))) line stack e f = none_is_some line e

low : (s stack : List StackType) → Some (Some s) ≡ Some (Some stack) → pos (length s) ≤ℤ pos 2 → pos (length stack) ≤ℤ pos 2
low s stack f h = let P : List StackType → Type 0 = λ x. pos (length x) ≤ℤ pos 2 in subst P (same_Some s stack (same_Some (Some s) (Some stack) f)) h

height : (pc : ℕ) (stack : List StackType) → slice_get sum_typing pc ≡ Some (Some stack) → pos (length stack) ≤ℤ pos 2
height (suc zero) stack f = low (i4 ∷ []) stack f (le_z_yes tt)
height (suc (suc zero)) stack f = low (i4 ∷ i4 ∷ []) stack f (le_z_yes tt)
height (suc (suc (suc zero))) stack f = low (i4 ∷ []) stack f (le_z_yes tt)
height (suc (suc (suc (suc (suc n))))) stack f = none_is_some (Some stack) f
height _ stack f = low [] stack f (le_z_yes tt)

code_typed : IsCodeTyping sum_program [] None sum_code sum_typing
code_typed = record { whole = refl; start = refl; height = height; each = each }

typed : (n : ℕ) (owner : ClassName) (m : Method) → slice_get (source_methods sum_program) n ≡ Some (owner, m) → (typing : Typing) × IsTyping sum_program owner m typing
typed zero owner m e =
    let P : ClassName × Method → Type 0 = λ x. (typing : Typing) × IsTyping sum_program x.0 x.1 typing in
    subst P (same_Some (source_name sum_class, sum_method) (owner, m) e) (sum_typing, code_typed)
typed (suc n) owner m e = none_is_some (owner, m) e

pub sum_accepted : IsAccepted sum_program
sum_accepted = record { legal = sum_legal; typed = typed }
