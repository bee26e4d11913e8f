use Rattle.std.proofs.Common.{◌≤◌, ◌∙◌, sym, ap, arith}
use Rattle.std.proofs.lemmas.Result.{err_from_is_err_and}
use Rattle.ilasm_tokens.specs.Lexing.{after_tokens}
use Rattle.ilasm_tokens.proofs.Reading.{gap_shorter, spaced_consumes}
use Rattle.ilasm_tokens.proofs.GapStates.{one_more, at_gap, gap_fails, token_fails}
use Rattle.ilasm_tokens.proofs.source.token_offset.Goals as goal

pub returns-in_err-rest : goal.returns-in_err-rest
returns-in_err-rest c =
    let p = err_from_is_err_and c.from_residual.result c.from_residual.ensures.1 in
    rw (p.1, p.2) (gap_fails c.in_err-rest.field-0.0 c.args.number c.args.source.now c.in_err-rest.ensures)

pub loop-init : goal.loop-init
loop-init c = record { within = gap_shorter c.args.source.now c.in_ok-rest.rest.now c.in_ok-rest.ensures; so_far = ap (λ n. after_tokens n c.in_ok-rest.rest.now) (omega arith) }

pub returns-in_err-_token : goal.returns-in_err-_token
returns-in_err-_token c =
    let p = err_from_is_err_and c.from_residual-in_err-_token.result c.from_residual-in_err-_token.ensures.1 in
    rw (p.1, p.2) (token_fails c.in_err-_token.field-0.0 c.args.source.now c.in_ok-rest.rest.now c.loop.rest.now c.args.number c.loop.counter c.in_ok-rest.ensures c.loop-test.true c.loop.invariant.so_far c.in_err-_token.ensures)

pub loop-preserved : goal.loop-preserved
loop-preserved c =
    let rest = c.loop.rest.now in
    let after = c.in_ok-_token.after.now in
    record {
      within = omega (arith, spaced_consumes rest c.in_ok-_token._token after c.in_ok-_token.ensures, c.loop.invariant.within);
      so_far = sym (one_more c.args.number c.loop.counter rest after c.in_ok-_token._token c.loop-test.true c.in_ok-_token.ensures) ∙ c.loop.invariant.so_far;
    }

pub returns : goal.returns
returns c =
    let past : c.args.number ≤ c.loop.counter = omega (arith, c.loop-test.false) in
    at_gap c.args.source.now c.in_ok-rest.rest.now c.loop.rest.now c.args.number c.loop.counter c.in_ok-rest.ensures past c.loop.invariant.so_far
