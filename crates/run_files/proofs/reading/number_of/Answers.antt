use Rattle.std.proofs.Common.{◌≡◌, ◌≤◌, ◌<◌, ◌^◌, ◌∙◌, ap, arith, decimal, subst, sym, ℕ, Some}
use Rattle.std.proofs.lemmas.Fmt.{parse-decimal}
use Rattle.run_files.proofs.reading.number_of.Goals as goal

pub returns-in-Ok-clause-found : goal.returns-in-Ok-clause-found
returns-in-Ok-clause-found c n low high whole =
    let small : n < 2 ^ 32 = omega (arith, high, c.ranges.most.fits) in
    let parsed = parse-decimal 32 n c.args.text.now c.parse.result small (omega (arith, small)) whole c.parse.ensures.value.0 in
    let same : c.in-Ok.number ≡ n = cc (c.in-Ok.is, parsed) in
    ap (λ (m : ℕ). Some m) same

pub returns-in_default-clause-found : goal.returns-in_default-clause-found
returns-in_default-clause-found c n low high whole =
    let small : n < 2 ^ 32 = omega (arith, high, c.ranges.most.fits) in
    let parsed = parse-decimal 32 n c.args.text.now c.parse.result small (omega (arith, small)) whole c.parse.ensures.value.0 in
    let same : c.in-Ok.number ≡ n = cc (c.in-Ok.is, parsed) in
    absurd (cc (c.is_decimal_of.ensures.1 (whole ∙ ap decimal (sym same)), c.if-is_decimal_of.false))

pub returns-in_default-2-clause-found : goal.returns-in_default-2-clause-found
returns-in_default-2-clause-found c n low high whole =
    let small : n < 2 ^ 32 = omega (arith, high, c.ranges.most.fits) in
    let parsed = parse-decimal 32 n c.args.text.now c.parse.result small (omega (arith, small)) whole c.parse.ensures.value.0 in
    let same : c.in-Ok.number ≡ n = cc (c.in-Ok.is, parsed) in
    let above = subst (λ m. c.args.least ≤ m) (sym same) low in
    let below = subst (λ m. m ≤ c.args.most) (sym same) high in
    absurd (cc (c.is_between.ensures.1 (above, below), c.if-is_between.false))

pub returns-in_default-3-clause-found : goal.returns-in_default-3-clause-found
returns-in_default-3-clause-found c n low high whole =
    let small : n < 2 ^ 32 = omega (arith, high, c.ranges.most.fits) in
    let parsed = parse-decimal 32 n c.args.text.now c.parse.result small (omega (arith, small)) whole c.parse.ensures.value.0 in
    absurd (cc (parsed, c.in_default.is))
