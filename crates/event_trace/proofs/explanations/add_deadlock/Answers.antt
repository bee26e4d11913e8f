use Rattle.std.proofs.Common.{◌≡◌, ◌++◌, length, sym, ap, ◌∙◌}
use Rattle.std.specs.Prelude.{string_bytes}
use Rattle.event_trace.proofs.Names.{count_below, numbers_below}
use Rattle.event_trace.proofs.ThreadSets.{line_is_added, word, word_of_all, word_of_some}
use Rattle.event_trace.proofs.explanations.add_deadlock.Goals.{then-count-live+in_ok-push_str, else-count-live+in_ok-push_str-2}
use Rattle.event_trace.proofs.explanations.add_deadlock.Goals as goal

pub returns : goal.returns
returns c =
    let machine = c.args.machine.now in
    let set = c.args.deadlocked.now in
    let count = c.in_ok-count.count in
    let old = string_bytes c.args.text.now in
    let counted : count ≡ count_below set (length set) = c.in_ok-count.ensures.count in
    let first : string_bytes c.if-count-live.text ≡ old ++ word machine set count counted =
    elim c.if-count-live.branch [
      | then-count-live+in_ok-push_str w ↦ ap string_bytes w.text-is ∙ w.in_ok-push_str.ensures.bytes ∙ ap (λ l. old ++ l) (word_of_all machine set count counted (w.if-count-live.true ∙ c.live.ensures))
      | else-count-live+in_ok-push_str-2 w ↦ ap string_bytes w.text-is ∙ w.in_ok-push_str-2.ensures.bytes ∙ ap (λ l. old ++ l) (word_of_some machine set count counted (λ same. w.if-count-live.false (same ∙ sym c.live.ensures)))
    ] in
    let numbers : string_bytes c.add_thread_numbers.new.text ≡ numbers_below set (length set) = c.in_ok-count.ensures.added ∙ ap (λ l. l ++ numbers_below set (length set)) c.new-numbers.ensures.bytes in
    line_is_added machine set count counted old (string_bytes c.if-count-live.text) (string_bytes c.add_thread_numbers.new.text) (string_bytes c.push_str-2.new.self) (string_bytes c.push_str-3.new.self)
    c.if-count-eq0.false first numbers (c.in_ok-push_str-3.ensures.bytes ∙ ap (λ l. string_bytes c.if-count-live.text ++ l) c.as_str.ensures.value) c.in_ok-push_str-4.ensures.bytes
