-- `cilvm_step` meets its contract.
use prog.Wp.{WpFn}
use Rattle.cil_model.specs.declared.events.Event.TheVariants.{Step}
use Rattle.cilvm_c.specs.Steps.{HasDoneOne}
use Rattle.cilvm_c.specs.contracts.hosts.cilvm_step.Key.{name}
use Rattle.cilvm_c.specs.contracts.hosts.step.Key.{name as callee}
use Rattle.cilvm_c.proofs.Walks.{thread_call}
use Rattle.cilvm_c.proofs.hosts.step.Met.{met}
use Rattle.cilvm_c.proofs.hosts.cilvm_step.Statement.{statement}
use Rattle.cilvm_c.proofs.hosts.cilvm_step.Code as code

pub cilvm_step_spec : {M : Type 1} → statement M
unfolding WpFn
cilvm_step_spec 𝓤 𝓛 𝓜 𝓡 wired = thread_call 𝓤 𝓛 𝓜 𝓡 (λ thread. HasDoneOne (Step thread)) _ name callee (code.unfolded 𝓤 𝓛.H 𝓜 𝓡 wired) (met 𝓤 𝓛 𝓜 𝓡 (code.calls-cilvm_c::hosts::step 𝓡.env wired))
