-- In what a replay differs from the recorded run, and what is reported of that (this profile).
use Rattle.std.specs.Prelude.{◌++◌, ◌∷◌, ◌||◌, [], ℕ, Bool, false, List, Option, Some, None, codes, if◌then◌else◌}
use Rattle.cil_model.specs.declared.limits.Limits.{Limits}
use Rattle.run_files.specs.Differences.{differences_of}
use Rattle.run_files.specs.RunFiles.{run_file}
use Rattle.run_files.specs.declared.differences.Differences.{Differences}
use Rattle.run_files.specs.declared.file.RunFile.{RunFile}

-- in what a run of this source within these limits that printed these bytes differs from what is expected, where something is
abbrev pub differences_from : Option RunFile → List ℕ → Limits → List ℕ → Differences
differences_from None source limits printed = record { source = false; limits = false; output = false }
differences_from (Some file) source limits printed = differences_of file (run_file source limits file.workers printed)

-- a line where something differs
abbrev pub line_if : Bool → List ℕ → List ℕ
line_if differs line = if differs then line else []

-- what is reported of the differences
abbrev pub differences_text : Differences → List ℕ
differences_text d = line_if d.source (codes "cilvm: the recorded run had another source" ++ 10 ∷ [])
    ++ line_if d.limits (codes "cilvm: the recorded run had other limits" ++ 10 ∷ [])
    ++ line_if d.output (codes "cilvm: the recorded run had another output" ++ 10 ∷ [])

-- the status of a run that has this one if nothing differs
abbrev pub status_if_same : Differences → ℕ → ℕ
status_if_same d status = if d.source || d.limits || d.output then 6 else status
