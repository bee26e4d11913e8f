-- How the collector copies a word: it loads it from the old copy, stores it in the new one, and checks that the old copy still has what was loaded; where
-- the check fails it begins again (Hudson and Moss, "Sapphire"; that a word is copied at once after three failed checks is this profile's).
use Rattle.std.specs.Prelude.{ℕ, zero, suc, ◌+◌, ◌*◌, ◌==◌, ◌&&◌, Bool, true, false}
use Rattle.object_memory.specs.declared.monitors.Monitor.{Monitor}
use Rattle.object_memory.specs.declared.monitors.Monitor.TheVariants.{Free, Held}
use Rattle.object_memory.specs.Cells.{Cell}
use Rattle.collector.specs.MarkSteps.{word_of}
use Rattle.collector.specs.declared.progress.Attempt.{Attempt}
use Rattle.collector.specs.declared.progress.Stage.{Stage}
use Rattle.collector.specs.declared.progress.Stage.TheVariants.{Begins, Loaded, Stored}
use Rattle.collector.specs.declared.progress.TheConstants.{MOST_FAILED_CHECKS}

-- no attempt is under way, and no check has failed
abbrev pub no_attempt : Attempt
no_attempt = record { stage = Begins; monitor = Free; word = 0; failed_checks = 0 }

-- ---- what is loaded

-- the attempt with the word loaded: word 0 of an object is its monitor, word n + 1 its slot n
abbrev pub with_loaded : Cell → ℕ → Attempt → Attempt
with_loaded c zero t = record t { stage = Loaded; monitor = c.monitor }
with_loaded c (suc slot) t = record t { stage = Loaded; word = word_of c slot }

-- whether two monitors are equal: both free, or held by one thread that entered both the same number of times
abbrev pub is_same_monitor : Monitor → Monitor → Bool
is_same_monitor Free Free = true
is_same_monitor Free (Held owner count) = false
is_same_monitor (Held owner count) Free = false
is_same_monitor (Held owner count) (Held owner' count') = (owner == owner') && (count == count')

-- whether an object still has the word that was loaded
abbrev pub has_loaded : Attempt → Cell → ℕ → Bool
has_loaded t c zero = is_same_monitor c.monitor t.monitor
has_loaded t c (suc slot) = word_of c slot == t.word

-- ---- events spent

abbrev pub stage_number : Stage → ℕ
stage_number Begins = 0
stage_number Loaded = 1
stage_number Stored = 2

-- the events spent on a word: three for each check that failed, and those of the attempt under way
abbrev pub attempt_cost : Attempt → ℕ
attempt_cost t = 3 * t.failed_checks + stage_number t.stage

-- the most events that are spent on a word before it is copied in one event
abbrev pub most_spent : ℕ
most_spent = 3 * MOST_FAILED_CHECKS
