-- `cilvm_ack` meets its contract.
use prog.Wp.{WpFn}
use Rattle.cil_model.specs.declared.events.Event.TheVariants.{Ack}
use Rattle.cilvm_c.specs.Steps.{HasDoneOne}
use Rattle.cilvm_c.specs.contracts.hosts.cilvm_ack.Key.{name}
use Rattle.cilvm_c.specs.contracts.hosts.ack.Key.{name as callee}
use Rattle.cilvm_c.proofs.Walks.{thread_call}
use Rattle.cilvm_c.proofs.hosts.ack.Met.{met}
use Rattle.cilvm_c.proofs.hosts.cilvm_ack.Statement.{statement}
use Rattle.cilvm_c.proofs.hosts.cilvm_ack.Code as code

pub cilvm_ack_spec : {M : Type 1} → statement M
unfolding WpFn
cilvm_ack_spec 𝓤 𝓛 𝓜 𝓡 wired = thread_call 𝓤 𝓛 𝓜 𝓡 (λ thread. HasDoneOne (Ack thread)) _ name callee (code.unfolded 𝓤 𝓛.H 𝓜 𝓡 wired) (met 𝓤 𝓛 𝓜 𝓡 (code.calls-cilvm_c::hosts::ack 𝓡.env wired))
