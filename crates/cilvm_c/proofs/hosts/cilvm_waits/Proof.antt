-- `cilvm_waits` meets its contract.
use prog.Wp.{WpFn}
use Rattle.cilvm_c.specs.Sessions.{IsWait}
use Rattle.cilvm_c.specs.contracts.hosts.cilvm_waits.Key.{name}
use Rattle.cilvm_c.specs.contracts.hosts.waits.Key.{name as callee}
use Rattle.cilvm_c.proofs.Walks.{thread_call}
use Rattle.cilvm_c.proofs.hosts.waits.Met.{met}
use Rattle.cilvm_c.proofs.hosts.cilvm_waits.Statement.{statement}
use Rattle.cilvm_c.proofs.hosts.cilvm_waits.Code as code

pub cilvm_waits_spec : {M : Type 1} → statement M
unfolding WpFn
cilvm_waits_spec 𝓤 𝓛 𝓜 𝓡 wired = thread_call 𝓤 𝓛 𝓜 𝓡 (λ thread h. IsWait h thread) _ name callee (code.unfolded 𝓤 𝓛.H 𝓜 𝓡 wired) (met 𝓤 𝓛 𝓜 𝓡 (code.calls-cilvm_c::hosts::waits 𝓡.env wired))
