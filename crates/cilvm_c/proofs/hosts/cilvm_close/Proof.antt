-- `cilvm_close` meets its contract.
use prog.Wp.{WpFn}
use Rattle.cilvm_c.specs.Sessions.{IsClosing}
use Rattle.cilvm_c.specs.contracts.hosts.cilvm_close.Key.{name}
use Rattle.cilvm_c.specs.contracts.hosts.close.Key.{name as callee}
use Rattle.cilvm_c.proofs.Walks.{bare_call}
use Rattle.cilvm_c.proofs.hosts.close.Met.{met}
use Rattle.cilvm_c.proofs.hosts.cilvm_close.Statement.{statement}
use Rattle.cilvm_c.proofs.hosts.cilvm_close.Code as code

pub cilvm_close_spec : {M : Type 1} → statement M
unfolding WpFn
cilvm_close_spec 𝓤 𝓛 𝓜 𝓡 wired = bare_call 𝓤 𝓛 𝓜 𝓡 (λ it. IsClosing) _ name callee (code.unfolded 𝓤 𝓛.H 𝓜 𝓡 wired) (met 𝓤 𝓛 𝓜 𝓡 (code.calls-cilvm_c::hosts::close 𝓡.env wired))
