-- Lemmas on the words of a command line.
use Rattle.std.proofs.Common.{Bor, ◌≡◌, List, ℕ, map}
use Rattle.std.specs.Prelude.{option_map, slice_get}
use Rattle.std.proofs.lemmas.Option.{slice_get-map}
use Rattle.clap.specs.Words.{Text}

-- the text of the word at an index
pub word_at : (words : List (Bor Text)) (index : ℕ) → slice_get (map (λ w. w.now) words) index ≡ option_map (λ w. w.now) (slice_get words index)
word_at words index = slice_get-map (λ (w : Bor Text). w.now) words index
