-- What a collector has posted, and what each live thread has acknowledged of it (Hudson and Moss, "Sapphire"; the rounds are this
-- profile's).
use Rattle.std.specs.Prelude.{◌≡◌, ◌⊎◌, ℕ, ◌-◌, Bool, true, false, not, ◌||◌, ◌&&◌, if◌then◌else◌, List, ◌∷◌, map, length, replicate, Option, Some, None, option_map, option_and_then, slice_get, slice_set}
use Rattle.std.specs.List.{list_all}
use Rattle.std.specs.Option.{option_map_or}
use Rattle.cil_model.specs.declared.limits.TheConstants.{MOST_THREADS}
use Rattle.cil_model.specs.declared.phases.Phase.{Phase}
use Rattle.cil_model.specs.declared.phases.Phase.TheVariants.{Idle, Mark}
pub use Rattle.cil_model.specs.PhaseOrder.{is_phase, phase_number}
use Rattle.reference_machine.specs.Cycles.{phase_after}
use Rattle.phase_handshake.specs.declared.posts.Seat.{Seat}

-- the phase that is posted, whether a round of marking was posted since the cycle opened, and a seat for each live thread, at its number
pub record Handshakes : Type 0 where
  pub posted_phase : Phase
  pub has_round : Bool
  pub seats : List (Option Seat)

-- thread 0 begins with the first phase acknowledged, and no round is posted,
abbrev pub first_seat : Seat
first_seat = record { phase = Idle; answered = false }

-- and no other thread is live
abbrev pub first_handshakes : Handshakes
first_handshakes = record { posted_phase = Idle; has_round = false; seats = Some first_seat ∷ replicate (MOST_THREADS - 1) None }

-- the seat of a thread; a thread that has ended or was never started has none
abbrev pub seat_of : Handshakes → ℕ → Option Seat
seat_of h t = option_and_then (λ (s : Option Seat). s) (slice_get h.seats t)

-- ---- phases

-- the phase that a thread has acknowledged; a thread without a seat is between cycles
abbrev pub own_phase : Handshakes → ℕ → Phase
own_phase h t = option_map_or (λ (s : Seat). s.phase) (seat_of h t) Idle

-- ---- what has been seen and answered

-- a thread has seen the posted phase once it has acknowledged it; one that has ended counts as having seen it
abbrev pub has_seen : Phase → Option Seat → Bool
has_seen posted_phase seat = option_map_or (λ (s : Seat). is_phase s.phase posted_phase) seat true

-- a thread that has ended counts as having answered
abbrev pub has_answered : Option Seat → Bool
has_answered seat = option_map_or (λ (s : Seat). s.answered) seat true

-- every live thread has seen the posted phase
abbrev pub all_seen : Handshakes → Bool
all_seen h = list_all (has_seen h.posted_phase) h.seats

-- every live thread has answered the posted round
abbrev pub all_answered : Handshakes → Bool
all_answered h = list_all has_answered h.seats

-- ---- posts

-- a round begins without any answer
abbrev pub clear_answer : Option Seat → Option Seat
clear_answer seat = option_map (λ (s : Seat). record s { answered = false }) seat

-- a cycle opens with no round
abbrev pub without_round : Handshakes → Handshakes
without_round h = record h { has_round = false; seats = map clear_answer h.seats }

-- the phase after the posted one; rounds are those of a cycle, and stay posted until the next one opens
abbrev pub posted_next : Handshakes → Handshakes
posted_next h = record (if is_phase (phase_after h.posted_phase) Mark then without_round h else h) { posted_phase = phase_after h.posted_phase }

-- one more round
abbrev pub posted_round : Handshakes → Handshakes
posted_round h = record h { has_round = true; seats = map clear_answer h.seats }

-- ---- acknowledgements

-- a post is open to a thread that has not acknowledged the posted phase, or otherwise has not answered the posted round
abbrev pub is_open_to : (posted_phase : Phase) (has_round : Bool) → Seat → Bool
is_open_to posted_phase has_round s = not (is_phase s.phase posted_phase) || (has_round && not s.answered)

-- a post is open to the thread of a number; to none that is not live
abbrev pub is_open : Handshakes → ℕ → Bool
is_open h t = option_map_or (is_open_to h.posted_phase h.has_round) (seat_of h t) false

-- it acknowledges the phase, and where it has done so already it answers the round
abbrev pub seat_after : Phase → Seat → Seat
seat_after posted_phase s = if is_phase s.phase posted_phase then record s { answered = true } else record s { phase = posted_phase }

-- where nothing is open to it, nothing changes
abbrev pub acknowledge_phase : Handshakes → ℕ → Handshakes
acknowledge_phase h t =
    option_map_or
    (λ (s : Seat). if is_open_to h.posted_phase h.has_round s then record h { seats = slice_set h.seats t (Some (seat_after h.posted_phase s)) } else h)
    (seat_of h t)
    h

-- ---- threads that come and go

-- a new thread has seen and answered what its starter has
abbrev pub join_thread : Handshakes → (thread starter : ℕ) → Handshakes
join_thread h t starter = record h { seats = slice_set h.seats t (seat_of h starter) }

-- an ended thread has no seat, so nothing is required of it
abbrev pub leave_handshakes : Handshakes → ℕ → Handshakes
leave_handshakes h t = record h { seats = slice_set h.seats t None }

-- ---- how far threads and collector are apart

-- a live thread is in the posted phase, or in the one before, and then the post is open to it
abbrev pub IsClose : Handshakes → Seat → Type 0
IsClose h s = (s.phase ≡ h.posted_phase) ⊎ ((phase_after s.phase ≡ h.posted_phase) × (is_open_to h.posted_phase h.has_round s ≡ true))

-- each live thread is close, and none has answered a round that is not posted; the list of seats has an item for each thread number
pub record AreClose (h : Handshakes) : Type 0 where
  pub indices : length h.seats ≡ MOST_THREADS
  pub phases : (t : ℕ) (s : Seat) → seat_of h t ≡ Some s → IsClose h s
  pub answers : (t : ℕ) (s : Seat) → seat_of h t ≡ Some s → s.answered ≡ true → h.has_round ≡ true

-- two phases are one, or follow one another
abbrev pub AreNeighbours : Phase → Phase → Type 0
AreNeighbours p q = (p ≡ q) ⊎ ((phase_after p ≡ q) ⊎ (phase_after q ≡ p))

-- the collector waits: for the posted phase to be seen, or for the posted round to be answered
abbrev pub IsWaiting : Handshakes → Type 0
IsWaiting h = (all_seen h ≡ false) ⊎ ((h.has_round ≡ true) × (all_answered h ≡ false))
