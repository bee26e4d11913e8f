use Rattle.std.proofs.Common.{◌≡◌, ◌<◌, ◌∷◌, ℕ, true, map, slice_index_or}
use Rattle.inheritance.specs.Changes.{changes_of}
use Rattle.inheritance.specs.Query.{is_match, finds_at, at_first, AreNoted, AreLater, HoldsTill}
use Rattle.inheritance.proofs.query.note_rows.Given as goal

abbrev pub invariant-loop-index : goal.invariant-loop-index
invariant-loop-index l = record {
  later : AreLater l.initial.ends l.ends;
  noted : (q : ℕ) → q < l.index → AreNoted (is_match l.query) l.ends (at_first ∷ changes_of (map (λ v. v.items) l.rows) (slice_index_or l.keys q 0));
  found : HoldsTill (λ t. finds_at (is_match l.query) (map (λ v. v.items) l.rows) l.keys t ≡ true) l.initial.ends l.ends;
}
