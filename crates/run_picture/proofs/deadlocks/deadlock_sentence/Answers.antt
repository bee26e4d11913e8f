use Rattle.std.proofs.Common.{◌≡◌, ◌++◌, ◌∙◌, Bool, List, ap, codes, length, string_bytes}
use Rattle.event_trace.specs.Texts.{count_below, numbers_below}
use Rattle.run_picture.proofs.SentenceLaws.{no_sentence, some_sentence}
use Rattle.run_picture.proofs.deadlocks.deadlock_sentence.Goals as goal

pub returns-then-count-eq0 : goal.returns-then-count-eq0
returns-then-count-eq0 c =
    let set = c.in_ok-deadlocked.deadlocked.items in
    let count : c.in_ok-count.count ≡ count_below set (length set) = c.in_ok-count.ensures.count ∙ ap (λ (s : List Bool). count_below s (length s)) c.as_slice.ensures.value in
    (set, c.in_ok-deadlocked.ensures, no_sentence set c.in_ok-count.count count (string_bytes c.new-text.result) c.if-count-eq0.true c.new-text.ensures.bytes)

pub returns : goal.returns
returns c =
    let set = c.in_ok-deadlocked.deadlocked.items in
    let count : c.in_ok-count.count ≡ count_below set (length set) = c.in_ok-count.ensures.count ∙ ap (λ (s : List Bool). count_below s (length s)) c.as_slice.ensures.value in
    let numbers : string_bytes c.add_thread_numbers.new.text ≡ numbers_below set (length set) =
    c.in_ok-count.ensures.added ∙ ap (λ l. l ++ numbers_below c.as_slice.result.now (length c.as_slice.result.now)) c.new-numbers.ensures.bytes ∙ ap (λ (s : List Bool). numbers_below s (length s)) c.as_slice.ensures.value
    in (
      set,
      c.in_ok-deadlocked.ensures,
      some_sentence set c.in_ok-count.count count (string_bytes c.add_thread_numbers.new.text) (string_bytes c.push_str.new.self) (string_bytes c.push_str-2.new.self) c.if-count-eq0.false numbers
          (c.in_ok-push_str.ensures.bytes ∙ ap (λ l. l ++ codes "threads deadlocked after the last event: ") c.new-text.ensures.bytes)
          (c.in_ok-push_str-2.ensures.bytes ∙ ap (λ l. string_bytes c.push_str.new.self ++ l) c.as_str.ensures.value),
    )
