-- `cilvm_end_of` meets its contract.
use prog.Wp.{WpFn}
use Rattle.cilvm_c.specs.Sessions.{IsStatus}
use Rattle.cilvm_c.specs.contracts.hosts.cilvm_end_of.Key.{name}
use Rattle.cilvm_c.specs.contracts.hosts.end_of.Key.{name as callee}
use Rattle.cilvm_c.proofs.Walks.{thread_call}
use Rattle.cilvm_c.proofs.hosts.end_of.Met.{met}
use Rattle.cilvm_c.proofs.hosts.cilvm_end_of.Statement.{statement}
use Rattle.cilvm_c.proofs.hosts.cilvm_end_of.Code as code

pub cilvm_end_of_spec : {M : Type 1} → statement M
unfolding WpFn
cilvm_end_of_spec 𝓤 𝓛 𝓜 𝓡 wired = thread_call 𝓤 𝓛 𝓜 𝓡 (λ thread h. IsStatus h thread) _ name callee (code.unfolded 𝓤 𝓛.H 𝓜 𝓡 wired) (met 𝓤 𝓛 𝓜 𝓡 (code.calls-cilvm_c::hosts::end_of 𝓡.env wired))
