use Rattle.run_files.proofs.RunFileLemmas.{strip_some, value_found, value_read}
use Rattle.run_files.proofs.reading.value_line.Goals as goal

pub returns-clause-read : goal.returns-clause-read
returns-clause-read c =
    value_read c.args.name.now c.args.text.now c.in_ok-rest.rest.now c.split_once.result (strip_some _ _ _ c.in_ok-rest.ensures.cases) c.split_once.ensures.cases

pub returns-clause-found : goal.returns-clause-found
returns-clause-found c value after unbroken whole =
    value_found c.args.name.now c.args.text.now c.in_ok-rest.rest.now value after c.split_once.result (strip_some _ _ _ c.in_ok-rest.ensures.cases) c.split_once.ensures.cases unbroken whole

pub returns-in_err-rest-clause-found : goal.returns-in_err-rest-clause-found
returns-in_err-rest-clause-found c value after unbroken whole = absurd (c.in_err-rest.ensures.cases _ whole)
