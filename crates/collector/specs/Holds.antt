-- Which references a thread and a static field may hold, by what is posted and what the thread has acknowledged (Hudson and Moss, "Sapphire"; this
-- profile).
use Rattle.std.specs.Prelude.{◌≡◌, ◌≢◌, ℕ, nat_lt, not, ◌&&◌, if◌then◌else◌, Bool, true, false}
use Rattle.cil_model.specs.declared.phases.Phase.{Phase}
use Rattle.cil_model.specs.declared.phases.Phase.TheVariants.{Idle, Mark, Allocate, Copy, PreFlip, HeapFlip, ThreadFlip, Reclaim}
use Rattle.cil_model.specs.PhaseOrder.{is_between, is_phase}
use Rattle.object_memory.specs.declared.addresses.Addr.{Addr}
use Rattle.object_memory.specs.Spaces.{Spaces}
use Rattle.phase_handshake.specs.Handshakes.{Handshakes}
use Rattle.phase_handshake.specs.declared.posts.Seat.{Seat}
use Rattle.collector.specs.References.{Test}
use Rattle.collector.specs.Phases.{is_live, is_marked_address, is_marked_old, is_new_address, no_progress}
use Rattle.collector.specs.Soundness.{IsListed}
use Rattle.collector.specs.declared.progress.Progress.{Progress}

-- ---- what may be held

-- what is live; of that only what is marked; or only what is new
pub data Hold : Type 0 where
  AnyLive : Hold
  MarkedOnly : Hold
  NewOnly : Hold

abbrev pub passes : Hold → Phase → Spaces → Test
passes AnyLive posted_phase m a = is_live posted_phase m a
passes MarkedOnly posted_phase m a = is_marked_address m a
passes NewOnly posted_phase m a = is_new_address m a

-- ---- threads

-- from ThreadFlip on, once its frames are flipped
abbrev pub is_flipping : Phase → Bool
is_flipping p = is_between ThreadFlip Reclaim p

-- in Mark
abbrev pub is_marking : Phase → Bool
is_marking p = is_phase p Mark

-- A thread holds nothing old after its own flip, and nothing unmarked where it answered a round since whose post nothing was marked.
abbrev pub hold_of : Handshakes → Bool → Seat → Hold
hold_of h has_marked seat =
    if is_flipping seat.phase && is_flipping h.posted_phase then NewOnly
    else if is_marking h.posted_phase && (h.has_round && (seat.answered && not has_marked)) then MarkedOnly
    else AnyLive

abbrev pub may_hold : Handshakes → Spaces → Seat → Test
may_hold h m seat a = passes (hold_of h m.has_marked seat) h.posted_phase m a

-- ---- static fields

-- A static field holds nothing old once it is flipped, and nothing unmarked once the static fields were scanned.
abbrev pub static_hold_of : Phase → Progress → ℕ → Hold
static_hold_of Idle p number = AnyLive
static_hold_of Mark p number = if p.scanned_statics then MarkedOnly else AnyLive
static_hold_of Allocate p number = AnyLive
static_hold_of Copy p number = AnyLive
static_hold_of PreFlip p number = AnyLive
static_hold_of HeapFlip p number = if nat_lt number p.flipped_statics then NewOnly else AnyLive
static_hold_of ThreadFlip p number = NewOnly
static_hold_of Reclaim p number = NewOnly

abbrev pub static_may_hold : Phase → Spaces → Progress → ℕ → Test
static_may_hold posted_phase m p number a = passes (static_hold_of posted_phase p number) posted_phase m a

-- ---- threads that are late

-- As long as a thread has not acknowledged the posted phase, the collector has not begun its work; in Mark no round is posted, and each marked object
-- is grey.
pub record HasNotBegun (posted_phase : Phase) (has_round : Bool) (p : Progress) (m : Spaces) : Type 0 where
  pub nothing : p ≡ no_progress
  pub no_round : posted_phase ≡ Mark → has_round ≡ false
  pub all_grey : posted_phase ≡ Mark → (a : Addr) → is_marked_old m a ≡ true → IsListed m.grey a

-- a thread in a phase is late, unless that is the posted one
abbrev pub IsOnTime : Phase → Phase → Bool → Progress → Spaces → Type 0
IsOnTime own posted_phase has_round p m = own ≢ posted_phase → HasNotBegun posted_phase has_round p m
