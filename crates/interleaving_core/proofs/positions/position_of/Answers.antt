use Rattle.std.specs.Prelude.{IsSome}
use Rattle.std.proofs.Common.{ℕ, Option, Some, None, option_and_then, refl, slice_get, subst, sym}
use Rattle.cil_model.specs.Bodies.{lines_of}
use Rattle.cil_model.specs.declared.trees.Method.{Method}
use Rattle.cil_model.specs.declared.types.ClassName.{ClassName}
use Rattle.simulation.specs.loaded_program.AllMethods.{all_methods}
use Rattle.interleaving_core.proofs.positions.position_of.Goals as goal

-- a method with a line at a pc is there
is_there : (pc : ℕ) (o : Option (ClassName × Method)) → IsSome (option_and_then (λ (found : ClassName × Method). slice_get (lines_of found.1) pc) o) → IsSome o
is_there pc (Some found) some = refl
is_there pc None some = absurd (cc some)

pub method-requires-2 : goal.method-requires-2
method-requires-2 c =
    subst (λ n. IsSome (slice_get (all_methods c.args.program.now) n)) (sym c.method.ensures)
    (is_there c.args.frames.now.running.pc (slice_get (all_methods c.args.program.now) c.args.frames.now.running.method) c.requires)
