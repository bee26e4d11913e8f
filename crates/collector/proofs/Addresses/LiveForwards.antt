-- Which block a live address lies in, by the phase that is posted; and what is new is its own forward.
use Rattle.std.proofs.Common.{◌≡◌, ◌≢◌, ◌⊎◌, inl, inr, Bool, true, refl, ap}
use Rattle.cil_model.specs.declared.phases.Phase.{Phase}
use Rattle.cil_model.specs.declared.phases.Phase.TheVariants.{Idle, Mark, Allocate, Copy, PreFlip, HeapFlip, ThreadFlip, Reclaim}
use Rattle.cil_model.specs.PhaseOrder.{is_between, is_phase}
use Rattle.object_memory.specs.declared.addresses.Addr.{Addr}
use Rattle.object_memory.specs.Spaces.{Spaces, AreSpaces, forward, is_old}
use Rattle.object_memory.proofs.TwoSpaces.TwoBlocks.{forward_new, forward_else}
use Rattle.collector.specs.References.{is_permanent}
use Rattle.collector.specs.Phases.{HasLooked, is_live_object, is_marked_old, is_new, is_new_address}
use Rattle.collector.specs.declared.progress.Progress.{Progress}
use Rattle.cil_model.proofs.SameLaws.{never}
use Rattle.std.proofs.lemmas.Bool.{or_cases}
use Rattle.collector.proofs.Addresses.Tests.{marked_is_old, new_cell, permanent_not_old}

-- ---- phases

-- no new object is live
abbrev pub is_old_alone : Phase → Bool
is_old_alone p = is_between Idle Copy p

-- each marked object has its copy
abbrev pub has_copies : Phase → Bool
has_copies p = is_between Copy Reclaim p

abbrev is_reclaim : Phase → Bool
is_reclaim p = is_phase p Reclaim

-- Reclaim is posted, or another phase
pub reclaim_or : (q : Phase) → (q ≡ Reclaim) ⊎ (q ≢ Reclaim)
reclaim_or Reclaim = inl refl
reclaim_or _ = inr (λ e. never (ap is_reclaim e))

-- null, a literal and what is new is its own forward
pub new_forward : (m : Spaces) → AreSpaces m → (a : Addr) → is_new_address m a ≡ true → forward m a ≡ a
new_forward m spaces a new = elim (or_cases (is_permanent a) (is_new m a) new) [
  | inl permanent ↦ forward_else m a (permanent_not_old m spaces a permanent)
  | inr there ↦ let d = new_cell m a there in forward_new m spaces a d.0 d.1
]

-- ---- what is live

-- what is live lies in the old block until PreFlip is posted
pub live_is_old : (posted_phase : Phase) (m : Spaces) (a : Addr) → is_old_alone posted_phase ≡ true → is_live_object posted_phase m a ≡ true → is_old m a ≡ true
live_is_old Idle m a alone live = live
live_is_old Mark m a alone live = live
live_is_old Allocate m a alone live = marked_is_old m a live
live_is_old Copy m a alone live = marked_is_old m a live
live_is_old _ m a alone live = never alone

-- once objects have copies, what is live is marked or new
pub live_marked_or_new : (posted_phase : Phase) (m : Spaces) (a : Addr) → has_copies posted_phase ≡ true → is_live_object posted_phase m a ≡ true → (is_marked_old m a ≡ true) ⊎ (is_new m a ≡ true)
live_marked_or_new Copy m a copied live = inl live
live_marked_or_new PreFlip m a copied live = or_cases (is_marked_old m a) (is_new m a) live
live_marked_or_new HeapFlip m a copied live = or_cases (is_marked_old m a) (is_new m a) live
live_marked_or_new ThreadFlip m a copied live = or_cases (is_marked_old m a) (is_new m a) live
live_marked_or_new Reclaim m a copied live = inr live
live_marked_or_new _ m a copied live = never copied

-- the collector has looked at all
pub looked_at_all : (posted_phase : Phase) (p : Progress) (m : Spaces) (a : Addr) → has_copies posted_phase ≡ true → HasLooked posted_phase p m a
looked_at_all Idle p m a copied = never copied
looked_at_all Mark p m a copied = never copied
looked_at_all Allocate p m a copied = never copied
looked_at_all _ p m a copied = tt
