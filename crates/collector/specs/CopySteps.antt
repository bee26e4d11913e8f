-- The work of Allocate and of Copy: each marked object of the old block gets its copy in the new one, and each object with two copies has its words
-- copied, one at a time, by a load, a store and a check (Hudson and Moss, "Sapphire"; this profile).
use Rattle.std.specs.Prelude.{ℕ, zero, suc, ◌+◌, ◌-◌, nat_lt, ◌&&◌, if◌then◌else◌, Bool, true, false, is_none, length, Option, Some, None}
use Rattle.std.specs.Option.{option_map_or}
use Rattle.cil_model.specs.declared.trees.Tree.{Tree}
use Rattle.object_memory.specs.declared.addresses.Addr.{Addr}
pub use Rattle.object_memory.specs.Cells.{address_after_cell}
use Rattle.object_memory.specs.Cells.{Cell, Cells, cell_in, size, store_monitor, store_slot}
use Rattle.object_memory.specs.Spaces.{found_in, has_other, with_shell}
use Rattle.object_memory.specs.Objects.{Objects, with_cell}
use Rattle.collector.specs.Attempts.{has_loaded, no_attempt, with_loaded}
use Rattle.collector.specs.Soundness.{copied_word}
use Rattle.collector.specs.declared.progress.Attempt.{Attempt}
use Rattle.collector.specs.declared.progress.Progress.{Progress}
use Rattle.collector.specs.declared.progress.Stage.{Stage}
use Rattle.collector.specs.declared.progress.Stage.TheVariants.{Begins, Loaded, Stored}
use Rattle.collector.specs.declared.progress.TheConstants.{MOST_FAILED_CHECKS}

-- ---- copies

-- a marked object has to have a copy
abbrev pub needs_copy : Cell → Bool
needs_copy c = c.marked && is_none c.other

abbrev pub shell_made : Objects → Addr → Cell → Objects
shell_made o a c = if needs_copy c then record o { spaces = with_shell o.spaces a c } else o

-- the next object of the old block is looked at; and whether there was one
abbrev pub shell_step : Progress → Objects → Option Cell → Progress × Objects × Bool
shell_step p o None = (p, o, false)
shell_step p o (Some c) = (record p { cursor = p.cursor + size c }, shell_made o (address_after_cell o.spaces.old p.cursor) c, true)

abbrev pub next_shell_step : Progress → Objects → Progress × Objects × Bool
next_shell_step p o = shell_step p o (cell_in o.spaces.old (address_after_cell o.spaces.old p.cursor))

-- ---- words

-- what was loaded of a word is stored in the new copy: a monitor, or the word of a slot with its forward
abbrev pub word_stored : Tree → Objects → Attempt → (from : Cell) → (to : Addr) → ℕ → Objects
word_stored tree o t from to zero = with_cell (store_monitor t.monitor) o to
word_stored tree o t from to (suc slot) = with_cell (store_slot slot (copied_word tree o.spaces from slot t.word)) o to

-- how far the collector is after a word of the object at an address
abbrev pub after_word : Progress → Cells → Addr → Cell → ℕ → Progress
after_word p s a c word =
    if nat_lt word (length c.slots) then record p { cursor = a.number - s.start; copied_words = word + 1; attempt = no_attempt }
    else record p { cursor = a.number - s.start + size c; copied_words = 0; attempt = no_attempt }

-- the collector at the next word of the object, with an attempt under way
abbrev pub before_word : Progress → Cells → Addr → Attempt → Progress
before_word p s a t = record p { cursor = a.number - s.start; attempt = t }

-- the word is loaded; or, after three failed checks of it, loaded and stored in one event
abbrev pub word_begun : Tree → Progress → Objects → Addr → Cell → Addr → Progress × Objects
word_begun tree p o a c b =
    if nat_lt p.attempt.failed_checks MOST_FAILED_CHECKS then (before_word p o.spaces.old a (with_loaded c p.copied_words p.attempt), o)
    else (after_word p o.spaces.old a c p.copied_words, word_stored tree o (with_loaded c p.copied_words p.attempt) c b p.copied_words)

-- where the old copy still has what was loaded, the word is copied; else its next attempt begins
abbrev pub word_checked : Progress → Cells → Addr → Cell → Progress
word_checked p s a c =
    if has_loaded p.attempt c p.copied_words then after_word p s a c p.copied_words
    else before_word p s a (record no_attempt { failed_checks = p.attempt.failed_checks + 1 })

-- a step at the next word of an object with two copies
abbrev pub word_step : Stage → Tree → Progress → Objects → Addr → Cell → Addr → Progress × Objects
word_step Begins tree p o a c b = word_begun tree p o a c b
word_step Loaded tree p o a c b = (before_word p o.spaces.old a (record p.attempt { stage = Stored }), word_stored tree o p.attempt c b p.copied_words)
word_step Stored tree p o a c b = (word_checked p o.spaces.old a c, o)

abbrev pub object_copied : Tree → Progress → Objects → Addr → Cell → Addr → Progress × Objects × Bool
object_copied tree p o a c b = ((word_step p.attempt.stage tree p o a c b).0, (word_step p.attempt.stage tree p o a c b).1, true)

-- the next object with two copies, from the cursor on
abbrev pub copy_step_at : Tree → Progress → Objects → Option ℕ → Progress × Objects × Bool
copy_step_at tree p o None = (p, o, false)
copy_step_at tree p o (Some at) =
    option_map_or (λ (c : Cell). option_map_or (object_copied tree p o (record { number = at }) c) c.other (p, o, false)) (cell_in o.spaces.old (record { number = at })) (p, o, false)

abbrev pub next_copy_step : Tree → Progress → Objects → Progress × Objects × Bool
next_copy_step tree p o = copy_step_at tree p o (found_in has_other o.spaces.old (o.spaces.old.start + p.cursor))
