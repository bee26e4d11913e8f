-- `cilvm_why` meets its contract.
use prog.Wp.{WpFn}
use Rattle.cilvm_c.specs.Sessions.{IsReasonRead}
use Rattle.cilvm_c.specs.contracts.hosts.cilvm_why.Key.{name}
use Rattle.cilvm_c.specs.contracts.hosts.why.Key.{name as callee}
use Rattle.cilvm_c.proofs.Walks.{read_call}
use Rattle.cilvm_c.proofs.hosts.why.Met.{met}
use Rattle.cilvm_c.proofs.hosts.cilvm_why.Statement.{statement}
use Rattle.cilvm_c.proofs.hosts.cilvm_why.Code as code

pub cilvm_why_spec : {M : Type 1} → statement M
unfolding WpFn
cilvm_why_spec 𝓤 𝓛 𝓜 𝓡 wired = read_call 𝓤 𝓛 𝓜 𝓡 (λ from h. IsReasonRead h from) _ name callee (code.unfolded 𝓤 𝓛.H 𝓜 𝓡 wired) (met 𝓤 𝓛 𝓜 𝓡 (code.calls-cilvm_c::hosts::why 𝓡.env wired))
