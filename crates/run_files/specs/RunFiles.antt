-- The text of a `.run` file (this profile; the checksum is SHA-256 of FIPS 180-4).
use Rattle.std.specs.Fmt.{decimal}
use Rattle.std.specs.Prelude.{◌≡◌, ◌≤◌, ◌++◌, ◌∷◌, [], ℕ, true, List, codes, length}
use Rattle.cil_model.specs.Ranges.{are_in_range}
use Rattle.cil_model.specs.declared.limits.Limits.{Limits}
use Rattle.hex.specs.Hex.{IsBytes, encode_lower}
use Rattle.sha2.specs.Sha256.{sha256}
use Rattle.run_files.specs.declared.file.RunFile.{RunFile}
use Rattle.run_files.specs.declared.file.TheConstants.{CHECKSUM_BYTES, MOST_WORKERS}

-- what the file of a run says: a run of this source within these limits by this number of workers, which has printed these bytes
abbrev pub run_file : List ℕ → Limits → ℕ → List ℕ → RunFile
run_file source limits workers printed = record { source = sha256 source; limits = limits; workers = workers; output = sha256 printed }

-- a line with a name and a value, and the text after it
abbrev pub line : List ℕ → List ℕ → List ℕ → List ℕ
line name value rest = name ++ (value ++ 10 ∷ rest)

-- the lines of limits, and the text after them
abbrev pub limits_text : Limits → List ℕ → List ℕ
limits_text l rest = line (codes "words: ") (decimal l.words) (line (codes "max-words: ") (decimal l.max_words)
    (line (codes "budget: ") (decimal l.budget) (line (codes "depth: ") (decimal l.depth) rest)))

-- the lines of the workers and of the checksum of what was printed, which are the last
abbrev pub last_text : RunFile → List ℕ
last_text file = line (codes "workers: ") (decimal file.workers) (line (codes "output: ") (encode_lower file.output) [])

-- the text that says this
abbrev pub text_of : RunFile → List ℕ
text_of file = line (codes "cilvm-run: ") (codes "1") (line (codes "source: ") (encode_lower file.source) (limits_text file.limits (last_text file)))

-- a checksum has 32 bytes
abbrev pub IsChecksum : List ℕ → Type 0
IsChecksum bytes = (length bytes ≡ CHECKSUM_BYTES) × IsBytes bytes

-- what a `.run` file may say: limits in their ranges, 1 to 16 workers and two checksums
pub record IsRunFile (file : RunFile) : Type 0 where
  pub limits : are_in_range file.limits ≡ true
  pub workers : (1 ≤ file.workers) × (file.workers ≤ MOST_WORKERS)
  pub source : IsChecksum file.source
  pub output : IsChecksum file.output
