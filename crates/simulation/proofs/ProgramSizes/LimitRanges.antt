-- What limits that are in range say of the budget, the depth and the words, one by one.
use Rattle.std.proofs.Common.{◌≤◌, ℕ, Bool, ◌&&◌, IsTrue, arith}
use Rattle.std.specs.Prelude.{nat_le}
use Rattle.std.proofs.lemmas.Bool.Decides.{nat_tests}
use Rattle.interpreter.specs.cil_model.declared.limits.Limits.{Limits}
use Rattle.interpreter.specs.cil_model.declared.limits.TheConstants.{LEAST_WORDS, MOST_WORDS, MOST_BUDGET, MOST_DEPTH}
use Rattle.interpreter.specs.cil_model.Ranges.{is_between, are_in_range}
use Rattle.interpreter.proofs.cil_model.SameLaws.{both_first, both_second}

between_low : (low high n : ℕ) → IsTrue (is_between low high n) → low ≤ n
between_low low high n h = let first : IsTrue (nat_le low n) = both_first (nat_le low n) (nat_le n high) h in grind (arith, nat_tests)

between_high : (low high n : ℕ) → IsTrue (is_between low high n) → n ≤ high
between_high low high n h = let second : IsTrue (nat_le n high) = both_second (nat_le low n) (nat_le n high) h in grind (arith, nat_tests)

module _ (limits : Limits) (h : IsTrue (are_in_range limits)) where
  abbrev in_words : Bool
  in_words = is_between LEAST_WORDS MOST_WORDS limits.words

  abbrev in_most : Bool
  in_most = is_between limits.words MOST_WORDS limits.max_words

  abbrev in_budget : Bool
  in_budget = is_between 1 MOST_BUDGET limits.budget

  first_three : IsTrue (in_words && in_most && in_budget)
  first_three = both_first (in_words && in_most && in_budget) _ h

  first_two : IsTrue (in_words && in_most)
  first_two = both_first (in_words && in_most) in_budget first_three

  budget_between : IsTrue in_budget
  budget_between = both_second (in_words && in_most) in_budget first_three

  pub budget_is_some : 1 ≤ limits.budget
  budget_is_some = between_low 1 MOST_BUDGET limits.budget budget_between

  pub budget_is_small : limits.budget ≤ MOST_BUDGET
  budget_is_small = between_high 1 MOST_BUDGET limits.budget budget_between

  pub depth_is_some : 1 ≤ limits.depth
  depth_is_some = between_low 1 MOST_DEPTH limits.depth (both_second (in_words && in_most && in_budget) _ h)

  pub words_are_few : limits.words ≤ MOST_WORDS
  words_are_few = between_high LEAST_WORDS MOST_WORDS limits.words (both_first in_words in_most first_two)

  -- no space is smaller than the first, or has more words than the most
  pub words_are_within : limits.words ≤ limits.max_words
  words_are_within = between_low limits.words MOST_WORDS limits.max_words (both_second in_words in_most first_two)

  pub most_words_are_few : limits.max_words ≤ MOST_WORDS
  most_words_are_few = between_high limits.words MOST_WORDS limits.max_words (both_second in_words in_most first_two)
