use Rattle.std.proofs.Common.{◌≡◌, ◌+◌, ℕ, suc, ◌++◌, ◌∷◌, [], List, ap, ◌∙◌, arith}
use Rattle.inheritance.specs.Query.{below}
use Rattle.inheritance.proofs.query.numbers_below.Goals as goal

pub loop-number-init : goal.loop-number-init
loop-number-init c = c.new-numbers.ensures.items

pub loop-number-preserved : goal.loop-number-preserved
loop-number-preserved c =
    let number = c.loop-number.number in
    let next : suc number ≡ number + 1 = omega arith in
    c.in_ok-push.ensures.items ∙ ap (λ (numbers : List ℕ). numbers ++ number ∷ []) c.loop-number.invariant ∙ ap below next

pub returns : goal.returns
returns c =
    let all : c.loop-number.number ≡ c.args.end = omega (arith, c.loop-number.auto, c.loop-number-test.false) in
    c.loop-number.invariant ∙ ap below all
