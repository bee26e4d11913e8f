use Rattle.std.proofs.Common.{◌≡◌, ◌-◌, ◌+◌, ◌++◌, replicate, ap, ◌∙◌, arith, append_assoc}
use Rattle.std.proofs.lemmas.List.{replicate-append-replicate}
use Rattle.shared_machine.specs.Histories.{plain}
use Rattle.shared_machine.specs.declared.history.TheConstants.{MOST_TIMES}
use Rattle.shared_machine.proofs.Histories.{plain-push_by}
use Rattle.shared_machine.proofs.history.History.add_times.Goals as goal

pub loop-left-preserved : goal.loop-left-preserved
loop-left-preserved c =
    let e = c.args.entry in
    let left = c.loop-left.left in
    let rest = left - c.from-most.result in
    let before = plain c.loop-left.self-inside.runs.items in
    let most : c.from-most.result ≡ MOST_TIMES = c.from-most.ensures in
    let whole : MOST_TIMES + rest ≡ left = omega (arith, most, c.loop-left-test.true) in
    record {
      added =
          ap (λ runs. plain runs ++ replicate rest e) c.push_reserved.ensures.items
          ∙ ap (λ l. l ++ replicate rest e) (plain-push_by c.loop-left.self-inside.runs.items e MOST_TIMES)
          ∙ append_assoc before (replicate MOST_TIMES e) (replicate rest e)
          ∙ ap (λ l. before ++ l) (replicate-append-replicate MOST_TIMES rest e)
          ∙ ap (λ n. before ++ replicate n e) whole
          ∙ c.loop-left.invariant.added;
      room = omega (arith, most, c.loop-left-test.true, c.loop-left.invariant.room, c.push_reserved.ensures.len, c.push_reserved.ensures.capacity);
    }
