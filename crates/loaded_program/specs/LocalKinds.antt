-- What a loaded program says of the locals and the action of a method.
use Rattle.std.specs.Prelude.{List, map, flat_map}
use Rattle.cil_model.specs.declared.trees.Method.{Method}
use Rattle.cil_model.specs.Mentions.{codes_of}
use Rattle.cil_model.specs.ValueKinds.{kind_of_type}
use Rattle.reference_machine.specs.BuiltIn as BuiltIn
use Rattle.cil_model.specs.declared.values.ValueKind.{ValueKind}
use Rattle.loaded_program.specs.declared.actions.Action.{Action}
use Rattle.loaded_program.specs.declared.actions.Action.TheVariants.{Construct, Write, Enter, Exit, Start, Join}

-- what the locals of a method hold; none where it has no code (II.15.4.1.3)
abbrev pub local_kinds : Method → List ValueKind
local_kinds m = map kind_of_type (flat_map (λ code. code.locals) (codes_of m))

-- an action of a loaded method, as the definition names it
abbrev pub action_named : Action → BuiltIn.Action
action_named Construct = BuiltIn.Construct
action_named Write = BuiltIn.Write
action_named Enter = BuiltIn.Enter
action_named Exit = BuiltIn.Exit
action_named Start = BuiltIn.Start
action_named Join = BuiltIn.Join
