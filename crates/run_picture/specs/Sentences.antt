-- The sentence of a picture that is proved (this profile).
use Rattle.std.specs.Prelude.{◌==◌, ◌++◌, if◌then◌else◌, ℕ, Bool, List, [], codes, length}
use Rattle.event_trace.specs.Texts.{count_below, numbers_below}

-- the sentence of a set of deadlocked threads, by their numbers; empty if there are none
abbrev pub deadlock_sentence : List Bool → List ℕ
deadlock_sentence set = if count_below set (length set) == 0 then [] else codes "threads deadlocked after the last event: " ++ numbers_below set (length set)
