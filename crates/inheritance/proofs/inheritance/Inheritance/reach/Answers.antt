use Rattle.std.proofs.Common.{◌≡◌, ◌≤◌, ◌<◌, ◌++◌, ◌∷◌, List, ℕ, true, false, Vec, Global, length, take, drop, map, slice_index_or, sym, ap, ◌∙◌, subst}
use Rattle.std.proofs.Math.Seq.{take-append_seam}
use Rattle.inheritance.specs.declared.changes.Change.{Change}
use Rattle.inheritance.specs.Changes.{changes_of, known_of}
use Rattle.inheritance.specs.ScopedTables.{pair_of}
use Rattle.inheritance.specs.Query.{is_match, finds_at, at_first, AreNoted, HoldsTill}
use Rattle.inheritance.proofs.Results.{if_both}
use Rattle.inheritance.proofs.QueryLaws.{no_ends, none_sought, reach_sought, reach_decides}
use Rattle.inheritance.proofs.inheritance.Inheritance.reach.Goals as goal

pub returns : goal.returns
returns c = if_both c.reach_of.result c.reach_of.ensures.reach c.reach_of.ensures.width (λ reached lookup_is_correct width.
    let test = is_match c.args.query in
    let rows : List (List Change) = map (λ v. v.items) c.args.self.now.scoped_table.changes.items in
    let keys = c.args.keys.now in
    let ends : List ℕ = c.as_slice-2.result.now in
    let value : c.note_rows.new.ends ≡ ends = let width : c.in_ok-ends.ends.len ≡ length c.note_rows.new.ends = sym (c.note_rows.ensures.later.width ∙ c.as_mut_slice.ensures.len) in
    let rest : List ℕ = drop (length c.note_rows.new.ends) c.in_ok-ends.ends.items in
    sym (take-append_seam c.note_rows.new.ends rest) ∙ ap (λ n. take n (c.note_rows.new.ends ++ rest)) (sym width) ∙ sym c.as_slice-2.ensures.value in
    let reach = reached.items in
    let noted : (index : ℕ) → index < length keys → AreNoted test ends (at_first ∷ changes_of rows (slice_index_or keys index 0)) = λ index h.
    subst (λ (es : List ℕ). AreNoted test es (at_first ∷ changes_of rows (slice_index_or keys index 0))) value (subst (λ (vs : List (Vec Change Global)). AreNoted test c.note_rows.new.ends (at_first ∷ changes_of (map (λ v. v.items) vs) (slice_index_or keys index 0))) c.as_slice.ensures.value (c.note_rows.ensures.noted index h)) in
    let found : ℕ → Type 0 = λ t. finds_at test rows keys t ≡ true in
    let till : HoldsTill found c.as_mut_slice.result.now ends =
    subst (HoldsTill found c.as_mut_slice.result.now) value (subst (λ (vs : List (Vec Change Global)). HoldsTill (λ t. finds_at test (map (λ v. v.items) vs) keys t ≡ true) c.as_mut_slice.result.now c.note_rows.new.ends) c.as_slice.ensures.value c.note_rows.ensures.found) in
    let is_beyond : (t : ℕ) → t < length reach → t < slice_index_or reach t 0 → found t = λ t l high.
    reach_sought found ends c.as_mut_slice.result.now reach t (λ s. ap (λ es. slice_index_or es s 0) (c.as_mut_slice.ensures.value ∙ c.in_ok-ends.ensures.items_if_clones_equal (λ y e. e)) ∙ no_ends c.saturating_mul.result s) till lookup_is_correct l high in
    let is_none : (t : ℕ) → t < length reach → slice_index_or reach t 0 ≤ t → (index : ℕ) → index < length keys → test (pair_of (known_of rows (slice_index_or keys index 0) t)) ≡ false = λ t l low index k.
    none_sought test ends reach (changes_of rows (slice_index_or keys index 0)) t (noted index k) (c.args.self.now.ordered (slice_index_or keys index 0)) lookup_is_correct width l low in
    λ t l. reach_decides (λ n. test (pair_of (known_of rows n t))) keys t (slice_index_or reach t 0) (is_beyond t l) (is_none t l))
