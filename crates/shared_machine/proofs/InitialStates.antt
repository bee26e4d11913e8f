-- Epochs and tickets before the first pass.
use Rattle.std.proofs.Common.{◌≡◌, ℕ, List, length, refl, sym, ap, ◌∙◌, subst, All}
use Rattle.std.proofs.lemmas.List.Elements.{All-map}
use Rattle.std.proofs.lemmas.List.FromFn.{length-map-range_with_len}
use Rattle.std.specs.List.{range_with_len}
use Rattle.epoch_words.specs.Tokens.{EpochsValue, SeatValue, initial_seat, initial_seats}
use Rattle.shared_machine.specs.Work.{IsSeatOf}

-- there is a seat for each worker, all of the epochs
pub seats_are : (epochs : EpochsValue) (workers : ℕ) (seats : List SeatValue) → seats ≡ initial_seats epochs.table workers → (length seats ≡ workers) × All (IsSeatOf epochs) seats
seats_are epochs workers seats is = (
  ap length is ∙ length-map-range_with_len (initial_seat epochs.table) 0 workers,
  subst (All (IsSeatOf epochs)) (sym is) (All-map (IsSeatOf epochs) (initial_seat epochs.table) (range_with_len 0 workers) (λ k d l. refl)),
)
