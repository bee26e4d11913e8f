-- The four kinds of step, and the giving out of a seat: what each reports to its holder, and what the holder knows after it (this profile).
use Rattle.std.specs.Prelude.{◌≡◌, ℕ, ◌+◌, ◌≤◌, [], slice_index, slice_set}
use Rattle.atomic_table.specs.Table.{Me, Step}
use Rattle.epoch_words.specs.Tokens.{IsPostedOrOneLess}
use Rattle.epoch_words.specs.declared.word_table.HeraldView.{HeraldView}
use Rattle.epoch_words.specs.declared.word_table.SeatView.{SeatView}
use Rattle.epoch_words.specs.declared.word_table.View.{View}
use Rattle.epoch_words.specs.declared.word_table.View.TheVariants.{OfSeat, OfHerald}

-- the state of a token, and a step on a word
abbrev pub Holder : Type 0
Holder = Me (Unit {0}) View

abbrev pub WordStep : Type 0
WordStep = Step (Unit {0})

-- what a seat knows (nothing is required of a herald's view)
abbrev pub seat_part : View → SeatView
seat_part (OfSeat seat) = seat
seat_part (OfHerald herald) = record { index = 0; seen = 0; polled = 0; polls = 0 }

-- what the herald knows (nothing is required of a seat's view)
abbrev pub herald_part : View → HeraldView
herald_part (OfSeat seat) = record { posted = 0; dealt = 0; found = []; looks = 0; looked_at = 0 }
herald_part (OfHerald herald) = herald

-- the herald's view once it gave out the next seat, and that seat's view
abbrev pub dealing_herald : View → View
dealing_herald (OfSeat seat) = OfSeat seat
dealing_herald (OfHerald herald) = OfHerald (record herald { dealt = herald.dealt + 1 })

abbrev pub dealt_seat : View → View
dealt_seat (OfSeat seat) = OfSeat seat
dealt_seat (OfHerald herald) = OfSeat (record { index = herald.dealt; seen = 0; polled = 0; polls = 0 })

-- One poll: the seat has polled the number n, which it has seen or which is one more.
abbrev pub LoadsPosted : WordStep → Holder → ℕ → Holder → Type 0
LoadsPosted step before n after = let seat = seat_part before.0 in
    (after ≡ (OfSeat (record seat { polled = n; polls = seat.polls + 1 }), [])) × IsPostedOrOneLess seat.seen n × (seat.polled ≤ n)

-- The seat has seen what it polled.
abbrev pub StoresSeen : WordStep → Holder → ℕ → Holder → Type 0
StoresSeen step before n after = let seat = seat_part before.0 in after ≡ (OfSeat (record seat { seen = seat.polled }), [])

-- One look: the herald has found the seat of this word to have seen n, which is the posted number or one less.
abbrev pub LoadsSeen : WordStep → Holder → ℕ → Holder → Type 0
LoadsSeen step before n after = let herald = herald_part before.0 in
    (after ≡ (OfHerald (record herald { found = slice_set herald.found step.word n; looks = herald.looks + 1; looked_at = step.word }), []))
    × IsPostedOrOneLess n herald.posted
    × (slice_index herald.found step.word ≤ n)

-- The herald has posted the next number.
abbrev pub StoresPosted : WordStep → Holder → ℕ → Holder → Type 0
StoresPosted step before n after = let herald = herald_part before.0 in after ≡ (OfHerald (record herald { posted = herald.posted + 1 }), [])
