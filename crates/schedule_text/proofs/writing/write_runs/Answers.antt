use Rattle.std.proofs.Common.{ap, arith, refl, string_bytes}
use Rattle.schedule_text.specs.declared.errors.TheConstants.{MOST_EVENTS}
use Rattle.schedule_text.proofs.WritingLemmas.{few_both, few_more, few_next, joined, last_run, no_run, run_ends, run_grows}
use Rattle.schedule_text.proofs.writing.write_runs.Goals as goal
use Rattle.schedule_text.proofs.writing.write_runs.Goals.{in-Some, in-None+in_ok-append_item-in-None, then-run-gt0+in_ok-append_item, else-run-gt0}

pub loop-item-init : goal.loop-item-init
loop-item-init c = record { written = λ runs are. (runs, are, ap (λ text. joined text runs) c.new-text.ensures.bytes); few = omega (arith, c.requires) }

pub longer-requires : goal.longer-requires
longer-requires c = few_both c.args.items.now c.loop-item.item-index _ c.loop-item-test.true c.loop-item.run MOST_EVENTS c.loop-item.invariant.few

pub loop-item-preserved : goal.loop-item-preserved
loop-item-preserved c =
    let items = c.args.items.now in
    let i = c.loop-item.item-index in
    let run = c.loop-item.run in
    let text = string_bytes c.loop-item.text in
    elim c.match-longer.branch [
      | in-Some w ↦ rw (w.text-is, w.run-is) (record {
        written = run_grows items i _ c.loop-item-test.true run text c.loop-item.invariant.written w.in-Some.more w.in-Some.ensures.one;
        few = few_more items i _ c.loop-item-test.true run MOST_EVENTS c.loop-item.invariant.few w.in-Some.more w.in-Some.ensures.one;
      })
      | in-None+in_ok-append_item-in-None w ↦
          let another = w.in-None.ensures.another refl in
          rw (w.text-is, w.run-is) (record {
            written = run_ends items i _ c.loop-item-test.true run text c.loop-item.invariant.written (string_bytes w.append_item.new.text) another.0 another.1 another.2 w.in_ok-append_item-in-None.ensures;
            few = few_next items i _ c.loop-item-test.true run MOST_EVENTS c.loop-item.invariant.few;
          })
    ]

pub returns : goal.returns
returns c =
    let items = c.args.items.now in
    let i = c.loop-item.item-index in
    let run = c.loop-item.run in
    let text = string_bytes c.loop-item.text in
    elim c.if-run-gt0.branch [
      | then-run-gt0+in_ok-append_item w ↦ rw w.text-is (last_run items i c.loop-item-test.false run text c.loop-item.invariant.written (string_bytes w.append_item-then-run-gt0.new.text) w.if-run-gt0.true w.in_ok-append_item.ensures)
      | else-run-gt0 w ↦ rw w.text-is (no_run items i c.loop-item-test.false run text c.loop-item.invariant.written (omega (arith, w.if-run-gt0.false)))
    ]
