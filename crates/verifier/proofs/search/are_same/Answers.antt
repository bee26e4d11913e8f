use Rattle.std.proofs.Common.{◌<◌, ◌∷◌, [], ◌++◌, take, length, sym, ap, ◌∙◌, arith}
use Rattle.std.proofs.lemmas.List.{take_more}
use Rattle.verifier.proofs.KeptLaws.{taken_with}
use Rattle.verifier.proofs.search.are_same.Goals as goal

pub loop-index-preserved : goal.loop-index-preserved
loop-index-preserved c =
    let within : c.loop-index.index < length c.args.coming.now = omega (arith, c.loop-index-test.true, c.len-index-end.ensures, c.len.ensures, c.if-len-coming.false) in
    taken_with c.args.known.now c.loop-index.index c.entry.result c.entry.ensures ∙ ap (λ v. v ++ c.entry.result ∷ []) c.loop-index.invariant ∙ ap (λ x. take c.loop-index.index c.args.coming.now ++ x ∷ []) (c.is_same_entry.ensures c.if-not-is_same_entry.false)
    ∙ sym (take_more c.args.coming.now c.loop-index.index _ within)
