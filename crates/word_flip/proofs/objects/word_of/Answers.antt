use Rattle.std.proofs.Common.{sym, ◌∙◌, refl, arith}
use Rattle.word_flip.proofs.ObjectWords.{named, null}
use Rattle.word_flip.proofs.objects.word_of.Goals as goal

pub returns-in-None-clause-names : goal.returns-in-None-clause-names
returns-in-None-clause-names c = null 0 refl ∙ sym c.in-None.is

pub returns-in-Some-clause-names : goal.returns-in-Some-clause-names
returns-in-Some-clause-names c = named _ c.in-Some.named (omega arith) ∙ sym c.in-Some.is
