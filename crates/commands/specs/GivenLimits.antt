-- The limits that a command line gives, and those of a replay, a trace or a picture (this profile).
use Rattle.std.specs.Prelude.{Option, Some, None, unwrap_or}
use Rattle.cil_model.specs.declared.limits.Limits.{Limits}
use Rattle.commands.specs.declared.given_limits.GivenLimits.{GivenLimits}
use Rattle.commands.specs.declared.given_limits.TheConstants.{DEFAULT_WORDS, DEFAULT_BUDGET, DEFAULT_DEPTH}
use Rattle.run_files.specs.declared.file.RunFile.{RunFile}

-- the limits that are given, and others in place of those that are not; words that are given are also the most words, if none are given
abbrev pub limits_over : GivenLimits → Limits → Limits
limits_over given others = record {
  words = unwrap_or given.words others.words;
  max_words = unwrap_or given.max_words (unwrap_or given.words others.max_words);
  budget = unwrap_or given.budget others.budget;
  depth = unwrap_or given.depth others.depth;
}

-- the limits where none are given
abbrev pub default_limits : Limits
default_limits = record { words = DEFAULT_WORDS; max_words = DEFAULT_WORDS; budget = DEFAULT_BUDGET; depth = DEFAULT_DEPTH }

-- the limits of a replay, a trace or a picture: those of the recorded run, or the defaults where nothing is known of it, in place of limits that are not given
abbrev pub limits_for : GivenLimits → Option RunFile → Limits
limits_for given None = limits_over given default_limits
limits_for given (Some file) = limits_over given file.limits
