use Rattle.std.proofs.Common.{◌≡◌, true, false, sym, arith}
use Rattle.std.proofs.lemmas.Result.{err_from_is_err_and}
use Rattle.ilasm_reader.specs.Parsing.{starts_comma, after_comma}
use Rattle.ilasm_tokens.proofs.Many.{transitions, ends_loop, fails}
use Rattle.ilasm_reader.proofs.Commas.{begins_commas, after_comma_consumes}
use Rattle.ilasm_reader.proofs.lists.commas.Goals as goal

pub loop-alloc-init : goal.loop-alloc-init
loop-alloc-init g c = rw (c.in_ok-push.ensures.items, c.in_ok-items.ensures.items) (begins_commas g.P.Parse.parsed_at c.in_ok-first.first c.args.tokens.now.now c.parse.new.tokens.now c.in_ok-first.ensures)

pub returns-in_err-item : goal.returns-in_err-item
returns-in_err-item g c =
    let p = err_from_is_err_and c.from_residual-in_err-item.result c.from_residual-in_err-item.ensures.1 in
    let s : starts_comma c.loop-alloc.tokens.now ≡ true = sym c.loop-alloc-test.ensures in
    rw (p.1, p.2) (fails starts_comma (after_comma g.P.Parse.parsed_at) c.in_err-item.field-0.0 _ c.loop-alloc.items.items c.loop-alloc.tokens.now c.loop-alloc.invariant s c.in_err-item.ensures)

pub loop-alloc-smaller : goal.loop-alloc-smaller
loop-alloc-smaller g c = omega (arith, after_comma_consumes g.P.Parse.parsed_at g.met.P.Parse.consumes c.loop-alloc.tokens.now c.in_ok-item.item c.after_comma.new.tokens.now c.in_ok-item.ensures)

pub loop-alloc-preserved : goal.loop-alloc-preserved
loop-alloc-preserved g c =
    let s : starts_comma c.loop-alloc.tokens.now ≡ true = sym c.loop-alloc-test.ensures in
    rw c.in_ok-push-2.ensures.items (transitions starts_comma (after_comma g.P.Parse.parsed_at) _ c.loop-alloc.items.items c.loop-alloc.tokens.now c.in_ok-item.item c.after_comma.new.tokens.now (after_comma_consumes g.P.Parse.parsed_at g.met.P.Parse.consumes) c.loop-alloc.invariant s c.in_ok-item.ensures)

pub returns : goal.returns
returns g c =
    let s : starts_comma c.loop-alloc.tokens.now ≡ false = sym c.loop-alloc-test.ensures in
    rw c.new.ensures (ends_loop starts_comma (after_comma g.P.Parse.parsed_at) _ c.loop-alloc.items.items c.loop-alloc.tokens.now c.loop-alloc.invariant s)
