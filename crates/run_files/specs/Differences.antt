-- In what a run differs from what a `.run` file says (this profile).
use Rattle.std.specs.Prelude.{◌≡◌, ◌==◌, ◌&&◌, not, Bool, false}
use Rattle.std.specs.Str.{bytes_eq}
use Rattle.cil_model.specs.declared.limits.Limits.{Limits}
use Rattle.run_files.specs.declared.differences.Differences.{Differences}
use Rattle.run_files.specs.declared.file.RunFile.{RunFile}

-- each limit is the same
abbrev pub is_same_limits : Limits → Limits → Bool
is_same_limits one other = one.words == other.words && one.max_words == other.max_words && one.budget == other.budget && one.depth == other.depth

-- the source, the limits and the output are compared, and the workers are not
abbrev pub differences_of : RunFile → RunFile → Differences
differences_of expected found = record {
  source = not (bytes_eq expected.source found.source);
  limits = not (is_same_limits expected.limits found.limits);
  output = not (bytes_eq expected.output found.output);
}

-- nothing differs
abbrev pub HasNoDifference : RunFile → RunFile → Type 0
HasNoDifference one other = ((differences_of one other).source ≡ false) × ((differences_of one other).limits ≡ false) × ((differences_of one other).output ≡ false)
