-- What holds of an answer that is known.
use Rattle.std.proofs.Common.{◌≡◌, sym, subst}
use Rattle.cil_model.specs.declared.reports.Report.{Report}
use Rattle.interleaving_core.specs.simulation.MachineStates.{MachineState}
use Rattle.shared_machine.specs.declared.answer.Answer.{Answer}
use Rattle.shared_machine.specs.declared.answer.Answer.TheVariants.{Did, NoMemory}
use Rattle.shared_machine.specs.Worlds.{IfDid}

pub did_is : (a : Answer) (r : Report) → a ≡ Did r → (P : Report → Type 0) → P r → IfDid a P
did_is a r is P h = subst (λ x. IfDid x P) (sym is) h

pub nothing_did : (a : Answer) → a ≡ NoMemory → (P : Report → Type 0) → IfDid a P
nothing_did a is P = subst (λ x. IfDid x P) (sym is) tt

-- what is true of two contents is true of the same ones
pub related_at : (R : MachineState → MachineState → Type 0) (one one' two two' : MachineState) → one ≡ one' → two' ≡ two → R one two → R one' two'
related_at R one one' two two' same same' related = subst (λ x. R x two') same (subst (R one) (sym same') related)
