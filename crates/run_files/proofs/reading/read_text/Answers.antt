use Rattle.std.proofs.Common.{◌≡◌, ◌∙◌, ◌==◌, ◌++◌, List, ℕ, [], ap, codes, decimal, length, sym}
use Rattle.std.proofs.lemmas.Bool.{eqb-true}
use Rattle.std.proofs.lemmas.List.{nil_from_length}
use Rattle.hex.specs.Hex.{encode_lower}
use Rattle.run_files.specs.RunFiles.{last_text, limits_text, line}
use Rattle.run_files.proofs.RunFileLemmas.{after_first, first_line, line_is, no_line, same_file, strip_some}
use Rattle.run_files.proofs.reading.read_text.Goals as goal

pub returns-in_err-rest-clause-found : goal.returns-in_err-rest-clause-found
returns-in_err-rest-clause-found c file is whole = absurd (c.in_err-rest.ensures.cases _ whole)

pub returns-in_err-source-clause-found : goal.returns-in_err-source-clause-found
returns-in_err-source-clause-found c file is whole =
    let first = after_first c.args.text.now c.in_ok-rest.rest.now file c.in_ok-rest.ensures.cases whole in
    absurd (no_line _ _ _ c.in_err-source.was (c.checksum_line.ensures.found file.source _ is.source first))

pub returns-in_err-limits-clause-found : goal.returns-in_err-limits-clause-found
returns-in_err-limits-clause-found c file is whole =
    let first = after_first c.args.text.now c.in_ok-rest.rest.now file c.in_ok-rest.ensures.cases whole in
    let source = line_is _ _ _ _ c.in_ok-source.was (c.checksum_line.ensures.found file.source _ is.source first) in
    absurd (no_line _ _ _ c.in_err-limits.was (c.limit_lines.ensures.found file.limits (last_text file) is.limits source.1))

pub returns-in_err-workers-clause-found : goal.returns-in_err-workers-clause-found
returns-in_err-workers-clause-found c file is whole =
    let first = after_first c.args.text.now c.in_ok-rest.rest.now file c.in_ok-rest.ensures.cases whole in
    let source = line_is _ _ _ _ c.in_ok-source.was (c.checksum_line.ensures.found file.source _ is.source first) in
    let limits = line_is _ _ _ _ c.in_ok-limits.was (c.limit_lines.ensures.found file.limits (last_text file) is.limits source.1) in
    absurd (no_line _ _ _ c.in_err-workers.was (c.number_line.ensures.found file.workers _ is.workers.0 is.workers.1 limits.1))

pub returns-in_err-output-clause-found : goal.returns-in_err-output-clause-found
returns-in_err-output-clause-found c file is whole =
    let first = after_first c.args.text.now c.in_ok-rest.rest.now file c.in_ok-rest.ensures.cases whole in
    let source = line_is _ _ _ _ c.in_ok-source.was (c.checksum_line.ensures.found file.source _ is.source first) in
    let limits = line_is _ _ _ _ c.in_ok-limits.was (c.limit_lines.ensures.found file.limits (last_text file) is.limits source.1) in
    let workers = line_is _ _ _ _ c.in_ok-workers.was (c.number_line.ensures.found file.workers _ is.workers.0 is.workers.1 limits.1) in
    absurd (no_line _ _ _ c.in_err-output.was (c.checksum_line-2.ensures.found file.output [] is.output workers.1))

pub returns-then-not-is_empty-clause-found : goal.returns-then-not-is_empty-clause-found
returns-then-not-is_empty-clause-found c file is whole =
    let first = after_first c.args.text.now c.in_ok-rest.rest.now file c.in_ok-rest.ensures.cases whole in
    let source = line_is _ _ _ _ c.in_ok-source.was (c.checksum_line.ensures.found file.source _ is.source first) in
    let limits = line_is _ _ _ _ c.in_ok-limits.was (c.limit_lines.ensures.found file.limits (last_text file) is.limits source.1) in
    let workers = line_is _ _ _ _ c.in_ok-workers.was (c.number_line.ensures.found file.workers _ is.workers.0 is.workers.1 limits.1) in
    let output = line_is _ _ _ _ c.in_ok-output.was (c.checksum_line-2.ensures.found file.output [] is.output workers.1) in
    absurd (cc (sym c.is_empty.ensures ∙ c.if-not-is_empty.true, ap (λ (t : List ℕ). length t == 0) output.1))

pub returns-clause-read : goal.returns-clause-read
returns-clause-read c =
    let source = c.in_ok-source.ensures.read in
    let limits = c.in_ok-limits.ensures.read in
    let workers = c.in_ok-workers.ensures.read in
    let output = c.in_ok-output.ensures.read in
    let last = c.in_ok-output.rest.now in
    let empty : last ≡ [] = nil_from_length last (eqb-true (length last) 0 (sym c.is_empty.ensures ∙ c.if-not-is_empty.false)) in (
      record {
        limits = limits.0;
        workers = (workers.0, workers.1);
        source = source.0;
        output = output.0;
      },
      strip_some first_line c.args.text.now c.in_ok-rest.rest.now c.in_ok-rest.ensures.cases
          ∙ ap (λ (t : List ℕ). first_line ++ t) (source.1
          ∙ ap (line (codes "source: ") (encode_lower c.in_ok-source.source)) (limits.1
          ∙ ap (limits_text c.in_ok-limits.limits) (workers.2
          ∙ ap (line (codes "workers: ") (decimal c.in_ok-workers.workers)) (output.1
          ∙ ap (line (codes "output: ") (encode_lower c.in_ok-output.output)) empty)))),
    )

pub returns-clause-found : goal.returns-clause-found
returns-clause-found c file is whole =
    let first = after_first c.args.text.now c.in_ok-rest.rest.now file c.in_ok-rest.ensures.cases whole in
    let source = line_is _ _ _ _ c.in_ok-source.was (c.checksum_line.ensures.found file.source _ is.source first) in
    let limits = line_is _ _ _ _ c.in_ok-limits.was (c.limit_lines.ensures.found file.limits (last_text file) is.limits source.1) in
    let workers = line_is _ _ _ _ c.in_ok-workers.was (c.number_line.ensures.found file.workers _ is.workers.0 is.workers.1 limits.1) in
    let output = line_is _ _ _ _ c.in_ok-output.was (c.checksum_line-2.ensures.found file.output [] is.output workers.1) in
    same_file source.0 limits.0 workers.0 output.0
