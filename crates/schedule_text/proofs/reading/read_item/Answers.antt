use Rattle.std.proofs.Common.{◌+◌, ◌-◌, ◌^◌, ◌&&◌, true≢false, nat_lt, inl, inr, refl, sym, ◌∙◌, min, take, drop}
use Rattle.std.specs.Str.Parse.{digits_value}
use Rattle.std.proofs.lemmas.List.{take_rest}
use Rattle.schedule_text.specs.Items.{capped_item, is_number}
use Rattle.schedule_text.specs.declared.items.Item.{Item}
use Rattle.schedule_text.proofs.ItemLemmas.{at_star, counts, is_count, item_at_star, item_without_star, kept_back, let_through, same_item}
use Rattle.schedule_text.proofs.reading.read_item.Goals as goal

pub returns-in_err-event-in-None : goal.returns-in_err-event-in-None
returns-in_err-event-in-None c =
    rw c.from_residual.ensures (λ item h. c.in_err-event-in-None.ensures item.event (item_without_star c.args.word.now (sym c.in-None.ensures) item h).0)

pub returns-in_err-event-in-Some : goal.returns-in_err-event-in-Some
returns-in_err-event-in-Some c =
    rw c.from_residual-in_err-event-in-Some.ensures (λ item h.
    c.in_err-event-in-Some.ensures item.event (item_at_star c.args.word.now c.in-Some.star (sym c.in-Some.ensures) item h).0)

pub returns-in_err-count-in-Some : goal.returns-in_err-count-in-Some
returns-in_err-count-in-Some c =
    rw c.from_residual-in_err-count-in-Some.ensures (λ item h.
    let digits = drop (c.in-Some.star + 1) c.args.word.now in
    let none = rw (take_rest c.args.word.now (c.in-Some.star + 1)) at c.in_err-count-in-Some.ensures in
    let parts = item_at_star c.args.word.now c.in-Some.star (sym c.in-Some.ensures) item h in
    let refused = kept_back (is_number digits && nat_lt 0 (digits_value 10 digits)) (min (digits_value 10 digits) (2 ^ 32 - 1)) none in
    let taken = counts digits item.count parts.1 parts.2 in
    absurd (true≢false (sym taken ∙ refused)))

pub returns-in_ok-event-in-None : goal.returns-in_ok-event-in-None
returns-in_ok-event-in-None c =
    let event = c.in_ok-event-in-None.ensures in
    let written : Item = record { event = event.0; count = 1 } in
    (written, inl (event.1, refl), same_item _ (capped_item written) event.2 refl)

pub returns-in_ok-count-in-Some : goal.returns-in_ok-count-in-Some
returns-in_ok-count-in-Some c =
    let word = c.args.word.now in
    let star = c.in-Some.star in
    let digits = drop (star + 1) word in
    let event = c.in_ok-event-in-Some.ensures in
    let some = rw (take_rest word (star + 1)) at c.in_ok-count-in-Some.ensures in
    let count = let_through (is_number digits && nat_lt 0 (digits_value 10 digits)) c.in_ok-count-in-Some.count (min (digits_value 10 digits) (2 ^ 32 - 1)) some in
    let number = is_count digits count.0 in
    let written : Item = record { event = event.0; count = digits_value 10 digits } in
    (written, inr (take star word, digits, at_star word star (sym c.in-Some.ensures), event.1, number.0, number.1), same_item _ (capped_item written) event.2 count.1)
