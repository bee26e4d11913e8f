-- The run of the example, computed.
use Rattle.std.proofs.Common.{◌≡◌, false, [], ◌∷◌, refl, codes, replicate}
use Rattle.std.specs.Fmt.{digits}
use Rattle.cil_model.specs.declared.reports.Report.TheVariants.{Ran, Ended}
use Rattle.cil_model.specs.declared.reports.End.TheVariants.{Done}
use Rattle.cil_model.specs.Examples.{sum_program, usual_limits}
use Rattle.reference_machine.specs.Outcomes.{outputs_of, Shows}

pub sum_shown : outputs_of sum_program usual_limits (replicate 5 (0, false)) ≡ Shows (Ran ∷ Ran ∷ Ran ∷ Ran ∷ Ended Done ∷ []) (codes "5\n")
unfolding digits
sum_shown = refl
