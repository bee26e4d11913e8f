use Rattle.std.proofs.Common.{rules}
use Rattle.ilasm_reader.proofs.Whole.{read_is_tree, none_is_tree}
use Rattle.ilasm_reader.proofs.reading.read.Goals as goal

pub returns-in-Ok-tree : goal.returns-in-Ok-tree
returns-in-Ok-tree c =
    (search rules, search rules, (c.in-Ok.tokens, c.in-Ok.ensures, read_is_tree c.in-Ok.tokens c.in-Ok-tree.tree (rw c.as_slice.ensures at c.in-Ok-tree.ensures)))

pub returns-in-Err-Refused-tree : goal.returns-in-Err-Refused-tree
returns-in-Err-Refused-tree c =
    (search rules, search rules, c.in-Ok.tokens, c.in-Ok.ensures, none_is_tree c.in-Ok.tokens (rw (c.in-Err-Refused-tree.field-0-is, c.as_slice.ensures) at c.in-Err-Refused-tree.ensures))
