-- The indices of labels in the order in which they are written.
use Rattle.std.specs.Prelude.{ℕ, ◌+◌, List, [], ◌∷◌, ◌++◌, map}
use Rattle.cil_model.specs.declared.trees.Line.{Line}

-- for each label of these lines the index of its line, where the first line has this index (II.5.4)
abbrev pub label_indices : ℕ → List Line → List ℕ
label_indices index [] = []
label_indices index (line ∷ lines) = map (λ label. index) line.labels ++ label_indices (index + 1) lines
