use Rattle.std.proofs.Common.{◌≡◌, Some, map, take, slice_get}
use Rattle.cil_model.specs.declared.types.ClassName.{ClassName}
use Rattle.cil_model.specs.Declarations.{Declaration}
use Rattle.name_tables.specs.Numbers.{declarations}
use Rattle.name_tables.specs.Sameness.{MethodIdentity}
use Rattle.resolved_code.specs.Identities.{identity_number}
use Rattle.class_layout.specs.Targets.{target_number}
use Rattle.class_layout.proofs.targets.named_row.Given as goal

abbrev pub invariant-loop-object : goal.invariant-loop-object
invariant-loop-object l =
    (k : MethodIdentity) (e : ClassName × Declaration) → identity_number l.methods.classes.now.program.now k ≡ l.methods.identity → slice_get (declarations l.methods.classes.now.program.now) l.class ≡ Some e →
    l.row.items ≡ map (λ d. target_number l.methods.classes.now.program.now e.0 k d.0) (take l.object (declarations l.methods.classes.now.program.now))
