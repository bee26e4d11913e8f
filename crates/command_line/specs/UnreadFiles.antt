-- What is reported of a file that is not read or not written (this profile).
use Rattle.std.specs.Char.{is_control}
use Rattle.std.specs.IoError.{error_kind}
use Rattle.std.specs.Prelude.{◌≡◌, ◌≢◌, ◌++◌, ◌∷◌, [], ℕ, List, chars, codes, encode_utf8_all, map, if◌then◌else◌}
use Rattle.std.specs.declared.io.Error.{Error}
use Rattle.std.specs.declared.io.ErrorKind.TheVariants.{OutOfMemory}

-- `?` in place of a control character
abbrev pub shown_character : ℕ → ℕ
shown_character c = if is_control c then 63 else c

-- a name as it may be written in a line of text
abbrev pub shown_name : List ℕ → List ℕ
shown_name name = encode_utf8_all (map shown_character (chars name))

-- the line that names a file, and says what could not be done with it and why
abbrev pub IsLineOf : List ℕ → List ℕ → List ℕ → Type 0
IsLineOf what file line = (why : List ℕ) × (line ≡ codes "cilvm: cannot " ++ what ++ codes " " ++ shown_name file ++ codes ": " ++ why ++ 10 ∷ [])

-- what follows `device`: that line, and nothing where memory ran out
abbrev pub IsReportedOf : List ℕ → List ℕ → Error → List ℕ → Type 0
IsReportedOf what file error text = (error_kind error ≡ OutOfMemory → text ≡ []) × (error_kind error ≢ OutOfMemory → IsLineOf what file text)

-- the line that names a file that is not a `.run` file
abbrev pub malformed_line : List ℕ → List ℕ
malformed_line file = codes "cilvm: " ++ (shown_name file ++ (codes " is not a .run file of this version; without it the record is replayed as any other schedule" ++ 10 ∷ []))
