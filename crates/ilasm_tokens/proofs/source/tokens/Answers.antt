use Rattle.std.proofs.Common.{sym}
use Rattle.std.proofs.lemmas.Result.{err_from_is_err_and}
use Rattle.ilasm_tokens.specs.Lexing.{not_empty, spaced_lexeme_at}
use Rattle.ilasm_tokens.proofs.Many.{begins, transitions, ends_loop, fails}
use Rattle.ilasm_tokens.proofs.Reading.{spaced_consumes, is_left, none_left, tokens_end, tokens_fail}
use Rattle.ilasm_tokens.proofs.source.tokens.Goals as goal

pub loop-rest-init : goal.loop-rest-init
loop-rest-init c = rw c.in_ok-tokens.ensures.items (begins not_empty spaced_lexeme_at c.in_ok-rest.rest.now)

pub returns-in_err-token : goal.returns-in_err-token
returns-in_err-token c =
    let p = err_from_is_err_and c.from_residual-in_err-token.result c.from_residual-in_err-token.ensures.1 in
    rw (p.1, p.2) (tokens_fail c.in_err-token.field-0.0 c.args.source.now c.in_ok-rest.rest.now c.in_ok-rest.ensures
    (fails not_empty spaced_lexeme_at c.in_err-token.field-0.0 _ c.loop-rest.tokens.items c.loop-rest.rest.now c.loop-rest.invariant (is_left c.loop-rest.rest.now (sym c.loop-rest-test.ensures)) c.in_err-token.ensures))

pub loop-rest-smaller : goal.loop-rest-smaller
loop-rest-smaller c = spaced_consumes c.loop-rest.rest.now c.in_ok-token.token c.in_ok-token.after.now c.in_ok-token.ensures

pub loop-rest-preserved : goal.loop-rest-preserved
loop-rest-preserved c =
    rw c.in_ok-push.ensures.items (transitions not_empty spaced_lexeme_at _ c.loop-rest.tokens.items c.loop-rest.rest.now c.in_ok-token.token c.in_ok-token.after.now spaced_consumes c.loop-rest.invariant (is_left c.loop-rest.rest.now (sym c.loop-rest-test.ensures)) c.in_ok-token.ensures)

pub returns : goal.returns
returns c =
    let left = none_left c.loop-rest.rest.now (sym c.loop-rest-test.ensures) in
    let whole = ends_loop not_empty spaced_lexeme_at _ c.loop-rest.tokens.items c.loop-rest.rest.now c.loop-rest.invariant left in
    rw c.new.ensures (tokens_end c.args.source.now c.in_ok-rest.rest.now c.loop-rest.rest.now c.loop-rest.tokens.items c.in_ok-rest.ensures whole left)
