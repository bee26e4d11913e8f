use Rattle.std.proofs.Common.{◌≡◌, ◌<◌, ◌∷◌, [], ◌++◌, map, take, length, sym, ap, ◌∙◌}
use Rattle.std.proofs.lemmas.List.{map-append, take_all, take_more}
use Rattle.verifier.specs.KeptStacks.{entry_of}
use Rattle.verifier.proofs.kept_stacks.narrow.Goals as goal

pub loop-index-preserved : goal.loop-index-preserved
loop-index-preserved c =
    let entries = c.args.entries.now in
    ap (map entry_of) c.in_ok-push-in-Some.ensures.items ∙ map-append entry_of c.loop-index.kept.items (c.in-Some.entry ∷ []) ∙ ap (λ kept. kept ++ entry_of c.in-Some.entry ∷ []) c.loop-index.invariant ∙
    ap (λ entry. take c.loop-index.index entries ++ entry ∷ []) c.in-Some.ensures ∙ sym (take_more entries c.loop-index.index _ c.loop-index-test.true)

pub returns : goal.returns
returns c = c.loop-index.invariant ∙ take_all c.loop-index.index c.args.entries.now c.loop-index-test.false
