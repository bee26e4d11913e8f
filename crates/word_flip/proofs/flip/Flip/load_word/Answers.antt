use Rattle.std.proofs.Common.{refl, sym, ◌∙◌, arith}
use Rattle.word_flip.proofs.ObjectWords.{said_of}
use Rattle.word_flip.proofs.flip.Flip.load_word.Goals as goal

pub load_first-word-requires-clause-table : goal.load_first-word-requires-clause-table
load_first-word-requires-clause-table c = rw (← c.writer.view_is, ← c.self.view_is) at c.requires

pub load_first-word-requires-clause-stage : goal.load_first-word-requires-clause-stage
load_first-word-requires-clause-stage c = sym c.taken_up.ensures ∙ c.if-taken_up-eq0.true

pub invariant_of-result : goal.invariant_of-result
invariant_of-result c = rw c.load_first-word.ensures.writer c.writer.invariant

pub returns-then-taken_up-eq0-clause-loaded : goal.returns-then-taken_up-eq0-clause-loaded
returns-then-taken_up-eq0-clause-loaded c = rw (c.load_first-word.ensures.writer, ← c.writer.view_is, ← c.self.view_is) ((refl, λ s. refl, λ s. absurd (omega arith)), refl)

pub returns-then-taken_up-eq0-clause-rest : goal.returns-then-taken_up-eq0-clause-rest
returns-then-taken_up-eq0-clause-rest c = rw (c.load_first-word.ensures.writer, ← c.writer.view_is)

pub returns-then-taken_up-eq0-clause-small : goal.returns-then-taken_up-eq0-clause-small
returns-then-taken_up-eq0-clause-small c = rw (← c.self.view_is) (omega arith, omega arith)

pub returns-then-taken_up-eq0-clause-own : goal.returns-then-taken_up-eq0-clause-own
returns-then-taken_up-eq0-clause-own c =
    let given = rw (← c.writer.view_is, ← c.self.view_is) at c.requires in
    rw (← c.writer.view_is, ← c.self.view_is) (λ is_own. said_of _ c.args.index _ (rw (c.writer.invariant.1, given.0.1) given.1) (c.load_first-word.ensures.own is_own))

pub load_second-word-requires-clause-table : goal.load_second-word-requires-clause-table
load_second-word-requires-clause-table c = rw (← c.writer.view_is, ← c.self.view_is) at c.requires

pub load_second-word-requires-clause-stage : goal.load_second-word-requires-clause-stage
load_second-word-requires-clause-stage c = (omega arith, c.writer.invariant.0)

pub invariant_of-result-2 : goal.invariant_of-result-2
invariant_of-result-2 c = rw c.load_second-word.ensures.writer c.writer.invariant

pub returns-clause-loaded : goal.returns-clause-loaded
returns-clause-loaded c = rw (c.load_second-word.ensures.writer, ← c.writer.view_is, ← c.self.view_is) ((refl, λ s. absurd (omega arith), λ s. refl), refl)

pub returns-clause-rest : goal.returns-clause-rest
returns-clause-rest c = rw (c.load_second-word.ensures.writer, ← c.writer.view_is)

pub returns-clause-small : goal.returns-clause-small
returns-clause-small c = rw (← c.self.view_is) (omega arith, omega arith)

pub returns-clause-own : goal.returns-clause-own
returns-clause-own c =
    let given = rw (← c.writer.view_is, ← c.self.view_is) at c.requires in
    rw (← c.writer.view_is, ← c.self.view_is) (λ is_own. said_of _ c.args.index _ (rw (c.writer.invariant.1, given.0.1) given.1) (c.load_second-word.ensures.own is_own))
