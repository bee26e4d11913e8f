use Rattle.std.proofs.Common.{◌≡◌, ◌∷◌, [], ◌++◌, ℕ, List, Option, None, replicate, ap, ◌∙◌, arith}
use Rattle.std.proofs.lemmas.List.{replicate_more}
use Rattle.flow_rules.specs.declared.entries.StackEntry.{StackEntry}
use Rattle.verifier.proofs.search.unmapped_stacks.Goals as goal

pub loop-pc-preserved : goal.loop-pc-preserved
loop-pc-preserved c = c.in_ok-push.ensures.items ∙ ap (λ (rows : List (Option (List StackEntry))). rows ++ None ∷ []) c.loop-pc.invariant ∙ replicate_more c.loop-pc.pc None

pub returns : goal.returns
returns c =
    let all : c.loop-pc.pc ≡ c.args.pcs = omega (arith, c.loop-pc-test.false, c.loop-pc.auto.pc-end) in
    c.loop-pc.invariant ∙ ap (λ (n : ℕ). replicate n None) all
