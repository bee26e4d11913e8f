-- Entries that are read from a stack that is kept.
use Rattle.std.proofs.Common.{◌≡◌, ◌+◌, ℕ, List, [], ◌∷◌, ◌++◌, take, drop, Some, slice_get, ap, ◌∙◌}
use Rattle.std.proofs.lemmas.List.{take_more, drop_more}
use Rattle.std.proofs.lemmas.Option.{get_or_from_slice_get, slice_get_within}

module _ {X : Type 0} (xs : List X) (n : ℕ) (x : X) (there : slice_get xs n ≡ Some x) where
  -- with the items before it
  pub taken_with : take (n + 1) xs ≡ take n xs ++ x ∷ []
  taken_with = take_more xs n x (slice_get_within xs n x there) ∙ ap (λ (v : X). take n xs ++ v ∷ []) (get_or_from_slice_get xs n x x there)

  -- with the items after it
  pub left_with : drop n xs ≡ x ∷ drop (n + 1) xs
  left_with = drop_more xs n x (slice_get_within xs n x there) ∙ ap (λ (v : X). v ∷ drop (n + 1) xs) (get_or_from_slice_get xs n x x there)
