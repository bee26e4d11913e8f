use Rattle.std.proofs.Common.{refl, ◌∷◌, ◌∙◌, ap, min}
use Rattle.std.specs.Str.Parse.{digits_value}
use Rattle.cil_model.specs.declared.events.Event.TheVariants.{Step, Ack}
use Rattle.schedule_text.specs.Items.{is_number}
use Rattle.schedule_text.proofs.ItemLemmas.{let_through}
use Rattle.schedule_text.proofs.reading.read_event.Goals as goal

pub returns-in_ok-read_thread-in-115 : goal.returns-in_ok-read_thread-in-115
returns-in_ok-read_thread-in-115 c =
    let digits = c.in_ok-letter.digits.now in
    let h = let_through (is_number digits) c.in_ok-read_thread-in-115.field-0 (min (digits_value 10 digits) 255) c.in_ok-read_thread-in-115.ensures in
    (Step (digits_value 10 digits), (digits, c.in_ok-letter.ensures.cases.0 ∙ ap (λ letter. letter ∷ digits) c.in-115.is, (h.0, refl)), ap Step h.1)

pub returns-in_ok-read_thread-in-97 : goal.returns-in_ok-read_thread-in-97
returns-in_ok-read_thread-in-97 c =
    let digits = c.in_ok-letter.digits.now in
    let h = let_through (is_number digits) c.in_ok-read_thread-in-97.field-0 (min (digits_value 10 digits) 255) c.in_ok-read_thread-in-97.ensures in
    (Ack (digits_value 10 digits), (digits, c.in_ok-letter.ensures.cases.0 ∙ ap (λ letter. letter ∷ digits) c.in-97.is, (h.0, refl)), ap Ack h.1)
