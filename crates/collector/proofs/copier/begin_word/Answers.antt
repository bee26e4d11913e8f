use Rattle.std.proofs.Common.{◌≡◌, true, ap, sym, subst, ◌∙◌}
use Rattle.object_memory.specs.Spaces.{is_there}
use Rattle.collector.specs.References.{reference_in}
use Rattle.collector.specs.declared.walks.FoundObject.{FoundObject}
use Rattle.collector.proofs.Copies.CopiesStepByStep.{begun_loads, begun_stores, loaded_word}
use Rattle.collector.proofs.copier.begin_word.Goals as goal

pub store_word-requires-clause-slots : goal.store_word-requires-clause-slots
store_word-requires-clause-slots c = λ some. (
    let r = c.requires.slots some in
    let p = c.args.progress.now in
    let word = loaded_word r.0.cell p.copied_words p.attempt c.load_word.new.attempt (c.load_word.ensures r.0.cell r.0.at) some in (
      record {
        tree = r.0.tree;
        layout_is = r.0.layout_is;
        cell = r.0.cell;
        at = r.0.at;
        reference = λ holds. subst (λ w. is_there c.args.heap.now.spaces (reference_in w) ≡ true) (sym word) (r.0.reference holds);
      },
      r.1,
    ))

pub returns-then-progress-lt-MOST_FAILED_CHECKS : goal.returns-then-progress-lt-MOST_FAILED_CHECKS
returns-then-progress-lt-MOST_FAILED_CHECKS c = λ tree layout_is cell at.
    let p = c.args.progress.now in
    let o = c.args.heap.now in
    ap (λ n. (record p { cursor = n; attempt = c.load_word.new.attempt }, o)) (ap (λ (f : FoundObject). f.offset) c.requires.offset)
    ∙ begun_loads tree p o c.args.next.object cell c.args.copy c.load_word.new.attempt (c.load_word.ensures cell at) c.if-progress-lt-MOST_FAILED_CHECKS.true

pub returns-else-progress-lt-MOST_FAILED_CHECKS : goal.returns-else-progress-lt-MOST_FAILED_CHECKS
returns-else-progress-lt-MOST_FAILED_CHECKS c = λ tree layout_is cell at.
    rw (c.pass_word.ensures cell at, c.store_word.ensures tree layout_is cell at)
    (begun_stores tree c.args.progress.now c.args.heap.now c.args.next.object cell c.args.copy c.load_word.new.attempt (c.load_word.ensures cell at) c.if-progress-lt-MOST_FAILED_CHECKS.false)
