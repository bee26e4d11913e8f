use Rattle.std.proofs.Common.{◌≡◌, ◌<◌, ◌^◌, ◌∙◌, ap, ap₂, arith, decimal, ℕ, List, Some}
use Rattle.run_files.specs.RunFiles.{line}
use Rattle.run_files.proofs.RunFileLemmas.{contents, found_none, found_some, no_break_decimal}
use Rattle.run_files.proofs.reading.number_line.Goals as goal

pub returns-clause-read : goal.returns-clause-read
returns-clause-read c =
    let number = c.in_ok-number.ensures.read in
    (number.0, number.1, c.in_ok-value.ensures.read ∙ ap (λ (v : List ℕ). line c.args.name.now v c.in_ok-value.rest.now) number.2)

pub returns-in_err-value-clause-found : goal.returns-in_err-value-clause-found
returns-in_err-value-clause-found c n rest low high whole =
    let small : n < 2 ^ 64 = omega (arith, c.ranges.most) in
    absurd (found_none contents c.value_line.result _ c.in_err-value.was (c.value_line.ensures.found (decimal n) rest (no_break_decimal n small) whole))

pub returns-in_err-number-clause-found : goal.returns-in_err-number-clause-found
returns-in_err-number-clause-found c n rest low high whole =
    let small : n < 2 ^ 64 = omega (arith, c.ranges.most) in
    let parts = found_some contents c.value_line.result _ _ c.in_ok-value.was (c.value_line.ensures.found (decimal n) rest (no_break_decimal n small) whole) in
    let found = c.number_of.ensures.found n low high (ap (λ (p : List ℕ × List ℕ). p.0) parts) in
    absurd (cc (found, c.in_err-number.was))

pub returns-clause-found : goal.returns-clause-found
returns-clause-found c n rest low high whole =
    let small : n < 2 ^ 64 = omega (arith, c.ranges.most) in
    let parts = found_some contents c.value_line.result _ _ c.in_ok-value.was (c.value_line.ensures.found (decimal n) rest (no_break_decimal n small) whole) in
    let found = c.number_of.ensures.found n low high (ap (λ (p : List ℕ × List ℕ). p.0) parts) in
    let same : c.in_ok-number.number ≡ n = cc (found, c.in_ok-number.was) in
    ap₂ (λ (m : ℕ) (r : List ℕ). Some (m, r)) same (ap (λ (p : List ℕ × List ℕ). p.1) parts)
