use Rattle.std.proofs.lemmas.Str.{IsUtf8-from_ascii}
use Rattle.run_files.proofs.RunFileLemmas.{ascii_text}
use Rattle.run_files.proofs.reading.read.Goals as goal

pub returns-in-Err-clause-found : goal.returns-in-Err-clause-found
returns-in-Err-clause-found c file is whole = absurd (c.in-Err.ensures.cases.0 (rw whole (IsUtf8-from_ascii _ (ascii_text file is))))
