use Rattle.std.proofs.Common.{arith, sym}
use Rattle.command_line.proofs.LineLemmas.{number_in-none, number_in-some}
use Rattle.command_line.proofs.line.number_in.Goals as goal

pub returns-in-Ok-clause-value : goal.returns-in-Ok-clause-value
returns-in-Ok-clause-value c =
    let parsed = c.in-Ok.ensures.value in
    number_in-some c.args.least c.args.most c.in-Ok.number c.args.text.now (omega arith) parsed.0.0.0 (sym parsed.0.1)
    (omega arith) (omega arith)

pub returns-in_default-3-clause-value : goal.returns-in_default-3-clause-value
returns-in_default-3-clause-value c =
    let parsed = c.in_default.ensures.value in
    number_in-none c.args.least c.args.most c.args.text.now (omega arith)
    (λ numeral small low high. parsed.0 (numeral, small))
