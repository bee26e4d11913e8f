-- The order of the phases of a collection (Hudson and Moss, "Sapphire").
use Rattle.std.specs.Prelude.{ℕ, ◌==◌, ◌&&◌, nat_le, Bool}
use Rattle.cil_model.specs.declared.phases.Phase.{Phase}
use Rattle.cil_model.specs.declared.phases.Phase.TheVariants.{Idle, Mark, Allocate, Copy, PreFlip, HeapFlip, ThreadFlip, Reclaim}

-- the number of each phase, in the order in which they are posted
abbrev pub phase_number : Phase → ℕ
phase_number Idle = 0
phase_number Mark = 1
phase_number Allocate = 2
phase_number Copy = 3
phase_number PreFlip = 4
phase_number HeapFlip = 5
phase_number ThreadFlip = 6
phase_number Reclaim = 7

-- two phases are one
abbrev pub is_phase : Phase → Phase → Bool
is_phase p q = phase_number p == phase_number q

-- a phase is one of those from the first to the last of two
abbrev pub is_between : (first last : Phase) → Phase → Bool
is_between first last p = nat_le (phase_number first) (phase_number p) && nat_le (phase_number p) (phase_number last)
