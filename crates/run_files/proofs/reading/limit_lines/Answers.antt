use Rattle.std.proofs.Common.{◌≤◌, ◌∙◌, ap, arith, codes, decimal}
use Rattle.run_files.specs.RunFiles.{line}
use Rattle.run_files.proofs.RunFileLemmas.{are_within, in_range_of, line_is, no_line, same_limits}
use Rattle.run_files.proofs.reading.limit_lines.Goals as goal

pub returns-clause-read : goal.returns-clause-read
returns-clause-read c =
    let words = c.in_ok-words.ensures.read in
    let max_words = c.in_ok-max_words.ensures.read in
    let budget = c.in_ok-budget.ensures.read in
    let depth = c.in_ok-depth.ensures.read in (
      in_range_of _ (record {
        words = (words.0, words.1);
        max_words = (max_words.0, max_words.1);
        budget = (budget.0, budget.1);
        depth = (depth.0, depth.1);
      }),
      words.2
          ∙ ap (line (codes "words: ") (decimal c.in_ok-words.words)) (max_words.2
          ∙ ap (line (codes "max-words: ") (decimal c.in_ok-max_words.max_words)) (budget.2
          ∙ ap (line (codes "budget: ") (decimal c.in_ok-budget.budget)) depth.2)),
    )

pub returns-in_err-words-clause-found : goal.returns-in_err-words-clause-found
returns-in_err-words-clause-found c l rest in_range whole =
    let w = are_within l in_range in
    absurd (no_line _ _ _ c.in_err-words.was (c.number_line.ensures.found l.words _ w.words.0 w.words.1 whole))

pub returns-in_err-max_words-clause-found : goal.returns-in_err-max_words-clause-found
returns-in_err-max_words-clause-found c l rest in_range whole =
    let w = are_within l in_range in
    let words = line_is _ _ _ _ c.in_ok-words.was (c.number_line.ensures.found l.words _ w.words.0 w.words.1 whole) in
    let above : c.in_ok-words.words ≤ l.max_words = omega (arith, words.0, w.max_words.0) in
    absurd (no_line _ _ _ c.in_err-max_words.was (c.number_line-2.ensures.found l.max_words _ above w.max_words.1 words.1))

pub returns-in_err-budget-clause-found : goal.returns-in_err-budget-clause-found
returns-in_err-budget-clause-found c l rest in_range whole =
    let w = are_within l in_range in
    let words = line_is _ _ _ _ c.in_ok-words.was (c.number_line.ensures.found l.words _ w.words.0 w.words.1 whole) in
    let above : c.in_ok-words.words ≤ l.max_words = omega (arith, words.0, w.max_words.0) in
    let max_words = line_is _ _ _ _ c.in_ok-max_words.was (c.number_line-2.ensures.found l.max_words _ above w.max_words.1 words.1) in
    absurd (no_line _ _ _ c.in_err-budget.was (c.number_line-3.ensures.found l.budget _ w.budget.0 w.budget.1 max_words.1))

pub returns-in_err-depth-clause-found : goal.returns-in_err-depth-clause-found
returns-in_err-depth-clause-found c l rest in_range whole =
    let w = are_within l in_range in
    let words = line_is _ _ _ _ c.in_ok-words.was (c.number_line.ensures.found l.words _ w.words.0 w.words.1 whole) in
    let above : c.in_ok-words.words ≤ l.max_words = omega (arith, words.0, w.max_words.0) in
    let max_words = line_is _ _ _ _ c.in_ok-max_words.was (c.number_line-2.ensures.found l.max_words _ above w.max_words.1 words.1) in
    let budget = line_is _ _ _ _ c.in_ok-budget.was (c.number_line-3.ensures.found l.budget _ w.budget.0 w.budget.1 max_words.1) in
    absurd (no_line _ _ _ c.in_err-depth.was (c.number_line-4.ensures.found l.depth _ w.depth.0 w.depth.1 budget.1))

pub returns-clause-found : goal.returns-clause-found
returns-clause-found c l rest in_range whole =
    let w = are_within l in_range in
    let words = line_is _ _ _ _ c.in_ok-words.was (c.number_line.ensures.found l.words _ w.words.0 w.words.1 whole) in
    let above : c.in_ok-words.words ≤ l.max_words = omega (arith, words.0, w.max_words.0) in
    let max_words = line_is _ _ _ _ c.in_ok-max_words.was (c.number_line-2.ensures.found l.max_words _ above w.max_words.1 words.1) in
    let budget = line_is _ _ _ _ c.in_ok-budget.was (c.number_line-3.ensures.found l.budget _ w.budget.0 w.budget.1 max_words.1) in
    let depth = line_is _ _ _ _ c.in_ok-depth.was (c.number_line-4.ensures.found l.depth _ w.depth.0 w.depth.1 budget.1) in
    same_limits words.0 max_words.0 budget.0 depth.0 depth.1
