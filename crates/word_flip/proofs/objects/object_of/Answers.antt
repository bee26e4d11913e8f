use Rattle.std.proofs.Common.{sym, arith}
use Rattle.word_flip.proofs.ObjectWords.{named, null}
use Rattle.word_flip.proofs.objects.object_of.Goals as goal

pub returns-then-word-eq0 : goal.returns-then-word-eq0
returns-then-word-eq0 c = sym (null c.args.word (omega arith))

pub returns : goal.returns
returns c = sym (named c.args.word _ (omega arith))
