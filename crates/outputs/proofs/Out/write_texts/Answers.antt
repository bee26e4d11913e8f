use Rattle.std.proofs.Common.{Bor, List, Result, Ok, Err, subst, ℕ}
use Rattle.std.specs.Prelude.{OnErr}
use Rattle.outputs.specs.Streams.{Fails, HasGrown}
use Rattle.outputs.proofs.BeginningLaws.{begins_piece}
use Rattle.outputs.proofs.Out.write_texts.Goals as goal

on_err : {T E P : Type 0} (r : Result T E) → P → OnErr r P
on_err (Ok x) p = tt
on_err (Err e) p = p

pub returns-in_err-write_whole-clause-cut : goal.returns-in_err-write_whole-clause-cut
returns-in_err-write_whole-clause-cut g c =
    let before = g.Self.Out.taken c.loop-text.self in
    let after = g.Self.Out.taken c.write_whole.new.self in
    let cut = subst (Fails before after) c.as_bytes.ensures.value c.in_err-write_whole.ensures.cut in
    let taken = c.loop-text.invariant in
    on_err c.from_residual.result (
      begins_piece (λ (text : Bor (List ℕ)). text.now) c.args.texts.now c.loop-text.text-index _ (g.Self.Out.taken c.args.self.now).contents before.contents after.contents c.loop-text-test.true taken.0 cut.0,
      subst (λ n. HasGrown n after.failures) taken.1 cut.1,
    )
