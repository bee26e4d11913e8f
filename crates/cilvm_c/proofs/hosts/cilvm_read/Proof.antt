-- `cilvm_read` meets its contract.
use prog.Wp.{WpFn}
use Rattle.cilvm_c.specs.Sessions.{IsPrintedRead}
use Rattle.cilvm_c.specs.contracts.hosts.cilvm_read.Key.{name}
use Rattle.cilvm_c.specs.contracts.hosts.read.Key.{name as callee}
use Rattle.cilvm_c.proofs.Walks.{read_call}
use Rattle.cilvm_c.proofs.hosts.read.Met.{met}
use Rattle.cilvm_c.proofs.hosts.cilvm_read.Statement.{statement}
use Rattle.cilvm_c.proofs.hosts.cilvm_read.Code as code

pub cilvm_read_spec : {M : Type 1} → statement M
unfolding WpFn
cilvm_read_spec 𝓤 𝓛 𝓜 𝓡 wired = read_call 𝓤 𝓛 𝓜 𝓡 (λ from h. IsPrintedRead h from) _ name callee (code.unfolded 𝓤 𝓛.H 𝓜 𝓡 wired) (met 𝓤 𝓛 𝓜 𝓡 (code.calls-cilvm_c::hosts::read 𝓡.env wired))
