-- `cilvm_live` meets its contract.
use prog.Wp.{WpFn}
use Rattle.cilvm_c.specs.Sessions.{IsLiveCount}
use Rattle.cilvm_c.specs.contracts.hosts.cilvm_live.Key.{name}
use Rattle.cilvm_c.specs.contracts.hosts.live.Key.{name as callee}
use Rattle.cilvm_c.proofs.Walks.{bare_call}
use Rattle.cilvm_c.proofs.hosts.live.Met.{met}
use Rattle.cilvm_c.proofs.hosts.cilvm_live.Statement.{statement}
use Rattle.cilvm_c.proofs.hosts.cilvm_live.Code as code

pub cilvm_live_spec : {M : Type 1} → statement M
unfolding WpFn
cilvm_live_spec 𝓤 𝓛 𝓜 𝓡 wired = bare_call 𝓤 𝓛 𝓜 𝓡 (IsLiveCount) _ name callee (code.unfolded 𝓤 𝓛.H 𝓜 𝓡 wired) (met 𝓤 𝓛 𝓜 𝓡 (code.calls-cilvm_c::hosts::live 𝓡.env wired))
