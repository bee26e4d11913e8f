use Rattle.std.proofs.Common.{◌≡◌, ◌+◌, suc, codes, ◌++◌, append-nil, append_assoc, sym, ap, ◌∙◌, arith, rules}
use Rattle.std.proofs.Output.{has_written_append, has_written_of_eq}
use Rattle.instruction_text.specs.Texts.{brackets_text, element_text}
use Rattle.instruction_text.proofs.types.TypeTextDisplay.fmt.Goals as goal

pub loop-bracket-init : goal.loop-bracket-init
loop-bracket-init g c = λ plain. has_written_of_eq _ _ _ _ _ (sym (append-nil (element_text c.args.self.now.0.now.element))) (search rules)

pub loop-bracket-preserved : goal.loop-bracket-preserved
loop-bracket-preserved g c =
    λ plain.
    let element = element_text c.args.self.now.0.now.element in
    let next : suc c.loop-bracket._bracket ≡ c.loop-bracket._bracket + 1 = omega arith in
    has_written_of_eq _ _ _ _ _
    (append_assoc element (brackets_text c.loop-bracket._bracket) (codes "[]") ∙ ap (λ n. element ++ brackets_text n) next)
    (has_written_append _ _ _ _ _ _ (c.loop-bracket.invariant plain) (search rules))

pub returns-clause-writes : goal.returns-clause-writes
returns-clause-writes g c =
    λ plain ok.
    let all : c.loop-bracket._bracket ≡ c.args.self.now.0.now.brackets = omega (arith, c.loop-bracket.auto, c.loop-bracket-test.false) in
    has_written_of_eq _ _ _ _ _ (ap (λ n. element_text c.args.self.now.0.now.element ++ brackets_text n) all) (c.loop-bracket.invariant plain)
