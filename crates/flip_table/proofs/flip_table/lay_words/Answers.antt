use Rattle.std.proofs.Common.{rules, ◌∙◌}
use Rattle.flip_table.proofs.InitialTables.{opens}
use Rattle.flip_table.proofs.flip_table.lay_words.Goals as goal

pub of_words-requires : goal.of_words-requires
of_words-requires c = opens _ _ _ (c.as_slice.ensures.value ∙ c.in_ok-zeros.ensures.items_if_clones_equal (search rules)) (search rules) (λ k l. c.requires.owned k 0 l) c.requires.limit
