use Rattle.std.proofs.Common.{◌≡◌, ◌≤◌, ◌-◌, length}
use Rattle.ilasm_tokens.specs.Lexing.{after_tokens}
use Rattle.ilasm_tokens.proofs.source.token_offset.Given as goal

abbrev pub invariant-loop : goal.invariant-loop
invariant-loop l =
    record { within : length l.rest ≤ length l.source; so_far : after_tokens (l.number - l.counter) l.rest ≡ after_tokens l.number l.initial.rest }
