use Rattle.std.proofs.Common.{◌≡◌, [], true, false, sym}
use Rattle.std.proofs.lemmas.Result.{err_from_is_err_and}
use Rattle.ilasm_tokens.proofs.Many.{begins, transitions, ends_loop, fails}
use Rattle.ilasm_reader.proofs.lists.some.Goals as goal

pub returns-in_err-first : goal.returns-in_err-first
returns-in_err-first g c =
    let p = err_from_is_err_and c.from_residual.result c.from_residual.ensures.1 in
    rw (p.1, p.2) (fails g.P.Starts.starts_at g.P.Parse.parsed_at c.in_err-first.field-0.0 _ [] c.args.tokens.now.now (begins g.P.Starts.starts_at g.P.Parse.parsed_at c.args.tokens.now.now) c.requires c.in_err-first.ensures)

pub loop-alloc-init : goal.loop-alloc-init
loop-alloc-init g c =
    rw (c.in_ok-push.ensures.items, c.in_ok-items.ensures.items) (transitions g.P.Starts.starts_at g.P.Parse.parsed_at _ [] c.args.tokens.now.now c.in_ok-first.first c.parse.new.tokens.now g.met.P.Parse.consumes (begins g.P.Starts.starts_at g.P.Parse.parsed_at c.args.tokens.now.now) c.requires c.in_ok-first.ensures)

pub returns-in_err-item : goal.returns-in_err-item
returns-in_err-item g c =
    let p = err_from_is_err_and c.from_residual-in_err-item.result c.from_residual-in_err-item.ensures.1 in
    let s : g.P.Starts.starts_at c.loop-alloc.tokens.now ≡ true = sym c.loop-alloc-test.ensures in
    rw (p.1, p.2) (fails g.P.Starts.starts_at g.P.Parse.parsed_at c.in_err-item.field-0.0 _ c.loop-alloc.items.items c.loop-alloc.tokens.now c.loop-alloc.invariant s c.in_err-item.ensures)

pub loop-alloc-smaller : goal.loop-alloc-smaller
loop-alloc-smaller g c = g.met.P.Parse.consumes c.loop-alloc.tokens.now c.in_ok-item.item c.parse-in-loop-alloc.new.tokens.now c.in_ok-item.ensures

pub loop-alloc-preserved : goal.loop-alloc-preserved
loop-alloc-preserved g c =
    let s : g.P.Starts.starts_at c.loop-alloc.tokens.now ≡ true = sym c.loop-alloc-test.ensures in
    rw c.in_ok-push-2.ensures.items (transitions g.P.Starts.starts_at g.P.Parse.parsed_at _ c.loop-alloc.items.items c.loop-alloc.tokens.now c.in_ok-item.item c.parse-in-loop-alloc.new.tokens.now g.met.P.Parse.consumes c.loop-alloc.invariant s c.in_ok-item.ensures)

pub returns : goal.returns
returns g c =
    let s : g.P.Starts.starts_at c.loop-alloc.tokens.now ≡ false = sym c.loop-alloc-test.ensures in
    rw c.new.ensures (ends_loop g.P.Starts.starts_at g.P.Parse.parsed_at _ c.loop-alloc.items.items c.loop-alloc.tokens.now c.loop-alloc.invariant s)
