-- What the owner of a block's words has of the memory, and what it lends.
use Rattle.std.specs.Prelude.{ℕ, ◌+◌, ◌*◌, ◌^◌, ◌<◌, List, [], ◌∷◌, length, Option, Some, None}
use base.Fraction.{full_share}
use base.Fml.{Lft, Fml, ftrue, ffalse, fsep, flt, froom}
use mir.Syntax.{Ty, w64, ty_int, ty_array}
use mir.Raw.{raw}
use denote.Builtin.{u64}
use denote.Memory.{part_at, shared_of}
use denote.Sharing.{nothing, said, beside}
use denote.RawPtr.{Ptr, block_ptr, null_ptr}

-- the bytes of a word
abbrev pub word_size : ℕ
word_size = 8

-- this number of words takes fewer than 2 ^ 63 bytes, as a block must
abbrev pub FitsBlock : ℕ → Type 0
FitsBlock n = n * word_size < 2 ^ 63

-- a word slot, o bytes into the block b: it holds a word, or is room for one
abbrev pub slot : ℕ → ℕ → Option ℕ → Fml
slot b o (Some w) = part_at u64 full_share w b o
slot b o None = froom (ty_int w64) b o

-- consecutive slots
abbrev pub slots : ℕ → ℕ → List (Option ℕ) → Fml
slots b o [] = ftrue
slots b o (c ∷ cs) = fsep (slot b o c) (slots b (o + word_size) cs)

abbrev pub lent_word : ℕ → ℕ → Option ℕ → Lft → Fml
lent_word b o (Some w) = shared_of u64 w b o
lent_word b o None = nothing

abbrev pub lent_words : ℕ → ℕ → List (Option ℕ) → Lft → Fml
lent_words b o [] = nothing
lent_words b o (c ∷ cs) = beside (lent_word b o c) (lent_words b (o + word_size) cs)

abbrev pub fit : List (Option ℕ) → Fml
fit cs = flt (length cs * word_size) (2 ^ 63)

-- the slots from a pointer on
abbrev pub words_owned : Ptr → List (Option ℕ) → Fml
words_owned (block_ptr b o) cs = fsep (fit cs) (slots b o cs)
words_owned null_ptr cs = ffalse

-- what a `&` to their owner has
abbrev pub words_lent : Ptr → List (Option ℕ) → Lft → Fml
words_lent (block_ptr b o) cs = beside (said (fit cs)) (lent_words b o cs)
words_lent null_ptr cs = said ffalse

-- the right to give a block of n words back, by the allocator's token
abbrev pub lease_owned : (Ty → Ptr → Fml) → Ptr → ℕ → Fml
lease_owned token p n = token (raw (ty_array (ty_int w64) n)) p
