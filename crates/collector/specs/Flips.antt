-- The work of HeapFlip and of Reclaim: each static field gets the forward of what it holds, and each object of the new block loses its mark and its
-- other copy, before the old block is given back (Hudson and Moss, "Sapphire"; this profile).
use Rattle.std.specs.Prelude.{ℕ, ◌+◌, ◌-◌, Bool, true, false, List, Option, Some, None, slice_get, slice_set}
use Rattle.std.specs.Option.{option_map_or}
use Rattle.object_memory.specs.declared.values.Value.{Value}
use Rattle.object_memory.specs.Cells.{Cell, cell_in, size}
use Rattle.object_memory.specs.Spaces.{clear, close_cycle, found_in, is_noted}
use Rattle.object_memory.specs.Objects.{Objects}
use Rattle.barriers.specs.Barriers.{forward_value}
use Rattle.collector.specs.declared.progress.Progress.{Progress}

-- ---- static fields

-- the next static field is flipped, an integer too, which stays; and whether there was one
abbrev pub flip_step : Progress → Objects → List Value → Option Value → Progress × List Value × Bool
flip_step p o statics None = (p, statics, false)
flip_step p o statics (Some v) = (record p { flipped_statics = p.flipped_statics + 1 }, slice_set statics p.flipped_statics (forward_value o v), true)

abbrev pub next_flip_step : Progress → Objects → List Value → Progress × List Value × Bool
next_flip_step p o statics = flip_step p o statics (slice_get statics p.flipped_statics)

-- ---- the new block

-- the next object of the new block with a mark or another copy, from the cursor on, loses both
abbrev pub clear_step_at : Progress → Objects → Option ℕ → Progress × Objects × Bool
clear_step_at p o None = (p, o, false)
clear_step_at p o (Some at) =
    option_map_or
    (λ (c : Cell). (record p { cursor = at - o.spaces.new.start + size c }, record o { spaces = clear o.spaces (record { number = at }) }, true))
    (cell_in o.spaces.new (record { number = at }))
    (p, o, false)

abbrev pub next_clear_step : Progress → Objects → Progress × Objects × Bool
next_clear_step p o = clear_step_at p o (found_in is_noted o.spaces.new (o.spaces.new.start + p.cursor))

-- the new block is the only one
abbrev pub retire_old : Objects → Objects
retire_old o = record o { spaces = close_cycle o.spaces }
