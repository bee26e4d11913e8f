-- `cilvm_gc` meets its contract.
use prog.Wp.{WpFn}
use Rattle.cil_model.specs.declared.events.Event.TheVariants.{Gc}
use Rattle.cilvm_c.specs.Steps.{HasDoneOne}
use Rattle.cilvm_c.specs.contracts.hosts.cilvm_gc.Key.{name}
use Rattle.cilvm_c.specs.contracts.hosts.gc.Key.{name as callee}
use Rattle.cilvm_c.proofs.Walks.{bare_call}
use Rattle.cilvm_c.proofs.hosts.gc.Met.{met}
use Rattle.cilvm_c.proofs.hosts.cilvm_gc.Statement.{statement}
use Rattle.cilvm_c.proofs.hosts.cilvm_gc.Code as code

pub cilvm_gc_spec : {M : Type 1} → statement M
unfolding WpFn
cilvm_gc_spec 𝓤 𝓛 𝓜 𝓡 wired = bare_call 𝓤 𝓛 𝓜 𝓡 (HasDoneOne Gc) _ name callee (code.unfolded 𝓤 𝓛.H 𝓜 𝓡 wired) (met 𝓤 𝓛 𝓜 𝓡 (code.calls-cilvm_c::hosts::gc 𝓡.env wired))
