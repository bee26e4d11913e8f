use Rattle.std.proofs.Common.{◌≡◌, ◌++◌}
use Rattle.std.specs.Prelude.{string_bytes}
use Rattle.end_explanations.specs.Ends.{caller_lines}
use Rattle.end_explanations.proofs.texts.add_callers.Given as goal

-- the lines of the callers so far were added
abbrev pub invariant-loop-inner : goal.invariant-loop-inner
invariant-loop-inner l = string_bytes l.text ≡ string_bytes l.fn.text ++ caller_lines l.names.lines l.machine l.callers l.inner
