-- Columns of a text (this profile).
use Rattle.std.specs.Prelude.{◌+◌, ◌==◌, ℕ, Bool, List, not, take}
use Rattle.std.specs.List.{suffix_len}

abbrev pub is_in_line : ℕ → Bool
is_in_line byte = not (byte == 10)

-- the column of the byte at an offset, from 1: one more than the bytes after the last line feed before it
abbrev pub column_of_byte : List ℕ → ℕ → ℕ
column_of_byte text offset = suffix_len is_in_line (take offset text) + 1
