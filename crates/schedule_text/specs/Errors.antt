-- The numbers of a schedule's errors (this profile).
use Rattle.std.specs.Prelude.{ℕ}
use Rattle.schedule_text.specs.declared.errors.ScheduleError.{ScheduleError}
use Rattle.schedule_text.specs.declared.errors.ScheduleError.TheVariants.{NoItem, NoThread, TooLong, OutOfMemory}

-- the number that the program prints
abbrev pub number_of : ScheduleError → ℕ
number_of NoItem = 501
number_of NoThread = 502
number_of TooLong = 503
number_of OutOfMemory = 504
