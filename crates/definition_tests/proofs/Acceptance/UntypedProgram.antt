-- A program that prints null as a number has no typing.
use Rattle.std.proofs.Common.{◌≡◌, List, [], ◌∷◌, map, Some, None, refl, sym, subst}
use Rattle.std.proofs.lemmas.Option.{same_Some}
use Rattle.cil_model.specs.declared.instructions.Instruction.TheVariants.{LoadNull, Return}
use Rattle.cil_model.specs.declared.trees.Line.{Line}
use Rattle.cil_model.specs.declared.trees.Tree.{Tree}
use Rattle.cil_model.specs.TypeTree.{StackType, Null}
use Rattle.cil_model.specs.FlowRules.{flow}
use Rattle.cil_model.specs.Typings.{Typing, AreBelow, Reaches, FlowsOn, IsCodeTyping}
use Rattle.cil_model.specs.Legality.{IsLegal}
use Rattle.cil_model.specs.Examples.{program_of, main_code, unlabelled_line, write_line}
use Rattle.cil_model.proofs.Lists.{none_is_some}
use Rattle.cil_model.proofs.FlowLaws.{flow_down}

abbrev null_lines : List Line
null_lines = map unlabelled_line (LoadNull ∷ write_line ∷ Return ∷ [])

abbrev null_program : Tree
null_program = program_of null_lines

null_legal : IsLegal null_program
null_legal = refl

abbrev After : Line → List StackType → List StackType → Type 0
After line stack after = flow null_program [] [] None line.instruction stack ≡ Some after

null_untyped : (typing : Typing) → IsCodeTyping null_program [] None (main_code null_lines) typing → ⊥
null_untyped typing h =
    let first : (after : List StackType) × After (unlabelled_line LoadNull) [] after × FlowsOn null_program (main_code null_lines) typing 0 (unlabelled_line LoadNull) after = h.each 0 (unlabelled_line LoadNull) [] refl h.start in
    let reached : Reaches null_program typing first.0 1 = first.2.falls refl in
    let second : (after : List StackType) × After (unlabelled_line write_line) reached.0 after × FlowsOn null_program (main_code null_lines) typing 1 (unlabelled_line write_line) after = h.each 1 (unlabelled_line write_line) reached.0 refl reached.1 in
    let P : List StackType → Type 0 = λ x. AreBelow null_program x reached.0 in
    let below : AreBelow null_program (Null ∷ []) reached.0 = subst P (sym (same_Some (Null ∷ []) first.0 first.1)) reached.2 in
    let own : (after : List StackType) × After (unlabelled_line write_line) (Null ∷ []) after × AreBelow null_program after second.0 = flow_down null_program null_legal [] [] None write_line (Null ∷ []) reached.0 second.0 below second.1 in
    none_is_some own.0 own.1
