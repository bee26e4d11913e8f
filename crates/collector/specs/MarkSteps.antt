-- The work of Mark: what static fields and frames refer to is marked, and then what marked objects refer to, slot by slot, the oldest grey object
-- first (Hudson and Moss, "Sapphire"; the rounds are this profile's).
use Rattle.std.specs.Prelude.{ℕ, ◌+◌, nat_lt, not, ◌&&◌, if◌then◌else◌, Bool, true, false, List, [], ◌∷◌, length, Option, Some, None, slice_get, unwrap_or}
use Rattle.cil_model.specs.declared.trees.Tree.{Tree}
use Rattle.object_memory.specs.declared.addresses.Addr.{Addr}
use Rattle.object_memory.specs.declared.values.Value.{Value}
use Rattle.object_memory.specs.declared.values.Value.TheVariants.{Ref}
use Rattle.object_memory.specs.Cells.{Cell, cell_in}
use Rattle.object_memory.specs.Objects.{Objects}
use Rattle.barriers.specs.Barriers.{with_marked}
use Rattle.phase_handshake.specs.Handshakes.{Handshakes, all_answered}
use Rattle.collector.specs.References.{holds_reference, reference_in}
use Rattle.collector.specs.declared.progress.Progress.{Progress}

-- ---- what values refer to

-- the objects once each that the values refer to is marked, from the first value on
abbrev pub with_all_marked : Objects → List Value → Objects
with_all_marked o [] = o
with_all_marked o (v ∷ vs) = with_all_marked (with_marked o v) vs

-- the static fields are scanned in one step
abbrev pub statics_scanned : Progress → Objects → List Value → Progress × Objects
statics_scanned p o statics = (record p { scanned_statics = true }, with_all_marked o statics)

-- ---- what marked objects refer to

-- the word of a slot; 0 where there is none
abbrev pub word_of : Cell → ℕ → ℕ
word_of c slot = unwrap_or (slice_get c.slots slot) 0

-- what a slot refers to is marked, where it holds a reference
abbrev pub slot_scanned : Tree → Objects → Cell → ℕ → Objects
slot_scanned tree o c slot = if holds_reference tree c.kind slot then with_marked o (Ref (reference_in (word_of c slot))) else o

abbrev pub without_oldest : Objects → List Addr → Objects
without_oldest o rest = record o { spaces = record o.spaces { grey = rest } }

-- one slot of the oldest grey object is scanned; once all of them are, it is off the list, and black
abbrev pub object_scanned : Tree → Progress → Objects → List Addr → Cell → Progress × Objects
object_scanned tree p o rest c =
    if nat_lt p.scanned_slots (length c.slots)
    then (record p { scanned_slots = p.scanned_slots + 1 }, slot_scanned tree o c p.scanned_slots)
    else (record p { scanned_slots = 0 }, without_oldest o rest)

-- a step of it, and whether there was one to do
abbrev pub mark_step : Tree → Progress → Objects → List Addr → Option Cell → Progress × Objects × Bool
mark_step tree p o [] c = (p, o, false)
mark_step tree p o (g ∷ rest) None = (p, o, false)
mark_step tree p o (g ∷ rest) (Some c) = ((object_scanned tree p o rest c).0, (object_scanned tree p o rest c).1, true)

-- the cell of the oldest grey object
abbrev pub oldest_cell : Objects → List Addr → Option Cell
oldest_cell o [] = None
oldest_cell o (g ∷ rest) = cell_in o.spaces.old g

abbrev pub next_mark_step : Tree → Progress → Objects → Progress × Objects × Bool
next_mark_step tree p o = mark_step tree p o o.spaces.grey (oldest_cell o o.spaces.grey)

-- ---- the end

abbrev pub is_none_grey : List Addr → Bool
is_none_grey [] = true
is_none_grey (g ∷ rest) = false

-- Nothing is left to mark: the static fields were scanned, nothing is grey, and each live thread has answered a round since whose post nothing was
-- marked.
abbrev pub is_closed : Progress → Objects → Handshakes → Bool
is_closed p o h = p.scanned_statics && (is_none_grey o.spaces.grey && (h.has_round && (all_answered h && not o.spaces.has_marked)))
