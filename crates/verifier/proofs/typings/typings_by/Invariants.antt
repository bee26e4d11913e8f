use Rattle.std.proofs.Common.{◌≡◌, map, length, Some}
use Rattle.cil_model.specs.Bodies.{source_methods}
use Rattle.verifier.specs.Members.{methods_at}
use Rattle.verifier.specs.Verdicts.{AreOfMethods}
use Rattle.verifier.proofs.typings.typings_by.Given as goal

-- a typing of each method so far
abbrev pub invariant-loop-method : goal.invariant-loop-method
invariant-loop-method l = methods_at l.program l.members ≡ map Some (source_methods l.program) → (length l.typings.items ≡ l.method) × AreOfMethods l.program l.typings.items
