use Rattle.std.proofs.Common.{◌≡◌, ◌≤◌, true, false, sym, ap, subst, ◌∙◌, arith}
use Rattle.std.specs.Prelude.{string_bytes}
use Rattle.event_trace.proofs.Names.{unwrap_or-slice_get, is_in}
use Rattle.event_trace.proofs.ThreadSets.{count_small, count_with, count_without, numbers_with, numbers_without}
use Rattle.event_trace.proofs.explanations.add_thread_numbers.Goals.{then-set-thread+in_ok-add_number, else-set-thread}
use Rattle.event_trace.proofs.explanations.add_thread_numbers.Goals as goal

pub overflow_add-count : goal.overflow_add-count
overflow_add-count c =
    let small : c.loop-thread.count ≤ c.loop-thread.thread = subst (λ n. n ≤ c.loop-thread.thread) (sym c.loop-thread.invariant.1) (count_small c.args.set.now c.loop-thread.thread) in
    record { fits = omega (arith, small, c.loop-thread-test.true, c.loop-thread.auto.thread-end, c.loop-thread.auto.count-fits.fits) }

pub loop-thread-preserved : goal.loop-thread-preserved
loop-thread-preserved c =
    let set = c.args.set.now in
    let thread = c.loop-thread.thread in
    let old = string_bytes c.args.text.now in
    elim c.if-set-thread.branch [
      | then-set-thread+in_ok-add_number w ↦
          let is : is_in set thread ≡ true = unwrap_or-slice_get set thread false ∙ w.if-set-thread.true in (
            ap string_bytes w.text-is ∙ numbers_with set thread c.loop-thread.count old (string_bytes c.loop-thread.text) (string_bytes w.add_number.new.text) c.loop-thread.invariant.1 c.loop-thread.invariant.0 is w.in_ok-add_number.ensures,
            w.count-is ∙ count_with set thread c.loop-thread.count old (string_bytes c.loop-thread.text) (string_bytes w.add_number.new.text) c.loop-thread.invariant.1 c.loop-thread.invariant.0 is,
          )
      | else-set-thread w ↦
          let is : is_in set thread ≡ false = unwrap_or-slice_get set thread false ∙ w.if-set-thread.false in (
            ap string_bytes w.text-is ∙ numbers_without set thread c.loop-thread.count old (string_bytes c.loop-thread.text) (string_bytes c.loop-thread.text) c.loop-thread.invariant.1 c.loop-thread.invariant.0 is,
            w.count-is ∙ count_without set thread c.loop-thread.count old (string_bytes c.loop-thread.text) (string_bytes c.loop-thread.text) c.loop-thread.invariant.1 c.loop-thread.invariant.0 is,
          )
    ]
