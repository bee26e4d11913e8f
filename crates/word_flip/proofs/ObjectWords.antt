-- What a word names.
use Rattle.std.proofs.Common.{◌≡◌, ℕ, zero, suc, ◌+◌, ◌<◌, Option, Some, None, List, [], ◌∷◌, ◌++◌, length, length-append, map, option_map, set, slice_get, slice_index, ap, sym, ◌∙◌, arith}
use Rattle.std.proofs.lemmas.Option.{slice_get-get_or, slice_get-map}
use Rattle.std.proofs.lemmas.List.{map-set}
use Rattle.word_flip.specs.Objects.{object_of}

-- a word that is not 0 names the object one below it
pub named : (word object : ℕ) → word ≡ object + 1 → object_of word ≡ Some object
named zero object e = absurd (omega arith)
named (suc n) object e = ap Some (let same : n ≡ object = omega arith in same)

pub null : (word : ℕ) → word ≡ 0 → object_of word ≡ None
null word e = ap object_of e

-- one more is written
pub one_more : (wrote : List (ℕ × ℕ)) (slot value : ℕ) → length (wrote ++ (slot, value) ∷ []) ≡ length wrote + 1
one_more wrote slot value = length-append wrote ((slot, value) ∷ [])

-- what the words name, once an object was written
pub written_to : (words : List ℕ) (index word : ℕ) (object : Option ℕ) → object_of word ≡ object → map object_of (set words index word) ≡ set (map object_of words) index object
written_to words index word object e = map-set object_of words index word ∙ ap (λ (o : Option ℕ). set (map object_of words) index o) e

-- what the word at an index names, if there is one
pub said_of : (words : List ℕ) (index word : ℕ) → index < length words → word ≡ slice_index words index → slice_get (map object_of words) index ≡ Some (object_of word)
said_of words index word l e = slice_get-map object_of words index ∙ ap (option_map object_of) (slice_get-get_or words index 0 l ∙ ap Some (sym e))
