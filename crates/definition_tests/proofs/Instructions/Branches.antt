-- Where each instruction continues: the frame's pc is 1, label A is before 0, and labels B and C are before 2.
use Rattle.std.proofs.Common.{◌≡◌, pos, [], ◌∷◌, Some, refl, codes}
use Rattle.cil_model.specs.declared.instructions.BranchComparison.TheVariants.{Equal, NotEqual, GreaterOrEqual, Greater, LessOrEqual, Less}
use Rattle.cil_model.specs.declared.instructions.BranchCondition.TheVariants as conditions
use Rattle.cil_model.specs.declared.instructions.Instruction.TheVariants.{NoOperation, Branch, Switch}
use Rattle.reference_machine.specs.Values.{Native, Null}
use Rattle.definition_tests.proofs.Samples.Tables.{PairAnswers}
use Rattle.definition_tests.proofs.Samples.FarmProgram.{int, minus, long, object, Leaves, NoMeaning, does, pc_after}

-- ---- without a condition

unconditional_branches : PairAnswers pc_after (
    (codes "continues", NoOperation, [], Some 2) ∷
    (codes "branches", Branch conditions.Always (codes "A"), int 1 ∷ [], Some 0) ∷
    (codes "second label", Branch conditions.Always (codes "C"), [], Some 2) ∷
    [])
unconditional_branches = refl

keeps_stack : does (Branch conditions.Always (codes "A")) (int 1 ∷ []) ≡ Leaves (int 1 ∷ [])
keeps_stack = refl

no_label : does (Branch conditions.Always (codes "D")) [] ≡ NoMeaning
no_label = refl

-- ---- on one operand

branches_on_one_operand : PairAnswers pc_after (
    (codes "true five", Branch conditions.IfTrue (codes "A"), int 5 ∷ [], Some 0) ∷
    (codes "false five", Branch conditions.IfFalse (codes "A"), int 5 ∷ [], Some 2) ∷
    (codes "true zero", Branch conditions.IfTrue (codes "A"), int 0 ∷ [], Some 2) ∷
    (codes "false zero", Branch conditions.IfFalse (codes "A"), int 0 ∷ [], Some 0) ∷
    (codes "true long zero", Branch conditions.IfTrue (codes "A"), long 0 ∷ [], Some 2) ∷
    (codes "false long zero", Branch conditions.IfFalse (codes "A"), long 0 ∷ [], Some 0) ∷
    (codes "true long one", Branch conditions.IfTrue (codes "A"), long 1 ∷ [], Some 0) ∷
    (codes "false long one", Branch conditions.IfFalse (codes "A"), long 1 ∷ [], Some 2) ∷
    (codes "true null", Branch conditions.IfTrue (codes "A"), Null ∷ [], Some 2) ∷
    (codes "false null", Branch conditions.IfFalse (codes "A"), Null ∷ [], Some 0) ∷
    (codes "true object", Branch conditions.IfTrue (codes "A"), object 1 ∷ [], Some 0) ∷
    (codes "false object", Branch conditions.IfFalse (codes "A"), object 1 ∷ [], Some 2) ∷
    [])
branches_on_one_operand = refl

true_native : does (Branch conditions.IfTrue (codes "A")) (Native (pos 1) ∷ []) ≡ NoMeaning
true_native = refl

takes_operand : does (Branch conditions.IfTrue (codes "A")) (long 1 ∷ int 0 ∷ []) ≡ Leaves (long 1 ∷ [])
takes_operand = refl

-- ---- on two operands

branches_on_two_operands : PairAnswers pc_after (
    (codes "equal below", Branch (conditions.Compare Equal) (codes "A"), minus 1 ∷ int 0 ∷ [], Some 2) ∷
    (codes "equal same", Branch (conditions.Compare Equal) (codes "A"), int 4 ∷ int 4 ∷ [], Some 0) ∷
    (codes "equal above", Branch (conditions.Compare Equal) (codes "A"), long 5 ∷ long 4 ∷ [], Some 2) ∷
    (codes "notequal below", Branch (conditions.Compare NotEqual) (codes "A"), minus 1 ∷ int 0 ∷ [], Some 0) ∷
    (codes "notequal same", Branch (conditions.Compare NotEqual) (codes "A"), int 4 ∷ int 4 ∷ [], Some 2) ∷
    (codes "notequal above", Branch (conditions.Compare NotEqual) (codes "A"), long 5 ∷ long 4 ∷ [], Some 0) ∷
    (codes "greaterorequal below", Branch (conditions.Compare GreaterOrEqual) (codes "A"), minus 1 ∷ int 0 ∷ [], Some 2) ∷
    (codes "greaterorequal same", Branch (conditions.Compare GreaterOrEqual) (codes "A"), int 4 ∷ int 4 ∷ [], Some 0) ∷
    (codes "greaterorequal above", Branch (conditions.Compare GreaterOrEqual) (codes "A"), long 5 ∷ long 4 ∷ [], Some 0) ∷
    (codes "greater below", Branch (conditions.Compare Greater) (codes "A"), minus 1 ∷ int 0 ∷ [], Some 2) ∷
    (codes "greater same", Branch (conditions.Compare Greater) (codes "A"), int 4 ∷ int 4 ∷ [], Some 2) ∷
    (codes "greater above", Branch (conditions.Compare Greater) (codes "A"), long 5 ∷ long 4 ∷ [], Some 0) ∷
    (codes "lessorequal below", Branch (conditions.Compare LessOrEqual) (codes "A"), minus 1 ∷ int 0 ∷ [], Some 0) ∷
    (codes "lessorequal same", Branch (conditions.Compare LessOrEqual) (codes "A"), int 4 ∷ int 4 ∷ [], Some 0) ∷
    (codes "lessorequal above", Branch (conditions.Compare LessOrEqual) (codes "A"), long 5 ∷ long 4 ∷ [], Some 2) ∷
    (codes "less below", Branch (conditions.Compare Less) (codes "A"), minus 1 ∷ int 0 ∷ [], Some 0) ∷
    (codes "less same", Branch (conditions.Compare Less) (codes "A"), int 4 ∷ int 4 ∷ [], Some 2) ∷
    (codes "less above", Branch (conditions.Compare Less) (codes "A"), long 5 ∷ long 4 ∷ [], Some 2) ∷
    (codes "equal objects", Branch (conditions.Compare Equal) (codes "A"), object 1 ∷ object 1 ∷ [], Some 0) ∷
    (codes "unequal null", Branch (conditions.Compare NotEqual) (codes "A"), object 1 ∷ Null ∷ [], Some 0) ∷
    [])
branches_on_two_operands = refl

ordered_objects : does (Branch (conditions.Compare Less) (codes "A")) (object 1 ∷ object 2 ∷ []) ≡ NoMeaning
ordered_objects = refl

mixed_operands : does (Branch (conditions.Compare Equal) (codes "A")) (int 1 ∷ long 1 ∷ []) ≡ NoMeaning
mixed_operands = refl

-- ---- by number

switches : PairAnswers pc_after (
    (codes "switch first", Switch (codes "A" ∷ codes "B" ∷ []), int 0 ∷ [], Some 0) ∷
    (codes "switch second", Switch (codes "A" ∷ codes "B" ∷ []), int 1 ∷ [], Some 2) ∷
    (codes "switch past", Switch (codes "A" ∷ codes "B" ∷ []), int 2 ∷ [], Some 2) ∷
    (codes "switch negative", Switch (codes "A" ∷ codes "B" ∷ []), minus 1 ∷ [], Some 2) ∷
    (codes "switch without labels", Switch [], int 0 ∷ [], Some 2) ∷
    [])
switches = refl

switch_on_long : does (Switch (codes "A" ∷ codes "B" ∷ [])) (long 0 ∷ []) ≡ NoMeaning
switch_on_long = refl
