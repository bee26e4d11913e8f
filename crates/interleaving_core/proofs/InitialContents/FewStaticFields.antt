-- A machine that represents a state has few static fields.
use Rattle.std.proofs.Common.{◌≡◌, ◌<◌, ◌^◌, suc, List, [], ◌∷◌, length, refl, ap, arith}
use Rattle.cil_model.specs.declared.trees.Tree.{Tree}
use Rattle.cil_model.specs.declared.types.DeclaredType.{DeclaredType}
use Rattle.cil_model.specs.Fields.{FieldKey, static_fields}
use Rattle.reference_machine.specs.States.{State}
use Rattle.reference_machine.specs.Values.{Value as StateValue}
use Rattle.simulation.specs.reference_machine.TypedStates.{HaveFieldTypes}
use Rattle.simulation.specs.MachineStates.{MachineState}
use Rattle.simulation.specs.Refines.{IsValue, Represents}
use Rattle.simulation.proofs.ListLaws.AgreeingLists.{agree_length}
use Rattle.simulation.proofs.ProgramSizes.ClassesAndFields.{static_fields_small}

same_length : (tree : Tree) (s : State) (es : List (FieldKey × StateValue)) (fs : List (FieldKey × DeclaredType)) → HaveFieldTypes tree s es fs → length es ≡ length fs
same_length tree s [] [] h = refl
same_length tree s (e ∷ es) (f ∷ fs) h = ap suc (same_length tree s es fs h.2)
same_length tree s [] (f ∷ fs) h = elim h [ ]
same_length tree s (e ∷ es) [] h = elim h [ ]

pub statics_few : (c : MachineState) (s : State) → Represents c s → length c.statics < 2 ^ 32
statics_few c s r =
    let values = agree_length (λ v (f : FieldKey × StateValue). IsValue r.refines.name v f.1) c.statics s.statics r.refines.by.memory.static_values in
    let fields = same_length c.tree s s.statics (static_fields c.tree) r.typed.statics in
    omega (arith, values, fields, static_fields_small c.tree r.accepted.legal)
