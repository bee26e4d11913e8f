use Rattle.collector.proofs.Copies.CopySteps.{both_there, few_words, loaded_done, loaded_forwardable, next_readable}
use Rattle.collector.proofs.copier.copy_step.Goals as goal

pub begin_word-requires-clause-there : goal.begin_word-requires-clause-there
begin_word-requires-clause-there c =
    both_there c.args.layout.now c.requires.tree c.requires.layout_is c.requires.has_round c.requires.words c.args.progress.now c.args.heap.now c.requires.sound c.in-Some.twin.found c.in-Some.ensures.found c.in-Some.ensures.there c.in-Some.twin.copy c.in-Some.ensures.copy

pub begin_word-requires-clause-slots : goal.begin_word-requires-clause-slots
begin_word-requires-clause-slots c =
    next_readable c.args.layout.now c.requires.tree c.requires.layout_is c.requires.has_round c.requires.words c.args.progress.now c.args.heap.now c.requires.sound c.in-Some.twin.found c.in-Some.ensures.found c.in-Some.ensures.there c.in-Some.twin.copy c.in-Some.ensures.copy

pub store_word-requires-clause-monitors : goal.store_word-requires-clause-monitors
store_word-requires-clause-monitors c =
    both_there c.args.layout.now c.requires.tree c.requires.layout_is c.requires.has_round c.requires.words c.args.progress.now c.args.heap.now c.requires.sound c.in-Some.twin.found c.in-Some.ensures.found c.in-Some.ensures.there c.in-Some.twin.copy c.in-Some.ensures.copy

pub store_word-requires-clause-slots : goal.store_word-requires-clause-slots
store_word-requires-clause-slots c =
    loaded_forwardable c.args.layout.now c.requires.tree c.requires.layout_is c.requires.has_round c.requires.words c.args.progress.now c.args.heap.now c.requires.sound c.in-Some.twin.found c.in-Some.ensures.found c.in-Some.ensures.there c.in-Some.twin.copy c.in-Some.ensures.copy
    c.in-Loaded.is

pub check_word-requires-clause-slot : goal.check_word-requires-clause-slot
check_word-requires-clause-slot c =
    few_words c.args.layout.now c.requires.tree c.requires.layout_is c.requires.has_round c.requires.words c.args.progress.now c.args.heap.now c.requires.sound c.in-Some.twin.found c.in-Some.ensures.found c.in-Some.ensures.there c.in-Some.twin.copy c.in-Some.ensures.copy

pub returns-in-Loaded : goal.returns-in-Loaded
returns-in-Loaded c = λ tree layout_is.
    loaded_done c.args.layout.now c.requires.tree c.requires.layout_is c.requires.has_round c.requires.words c.args.progress.now c.args.heap.now c.requires.sound c.in-Some.twin.found c.in-Some.ensures.found c.in-Some.ensures.there c.in-Some.twin.copy c.in-Some.ensures.copy
    c.in-Loaded.is tree c.store_word.new.heap (c.store_word.ensures tree layout_is)
