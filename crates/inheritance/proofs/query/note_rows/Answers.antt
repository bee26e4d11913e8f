use Rattle.std.proofs.Common.{◌≡◌, ◌∷◌, ℕ, true, None, map, slice_index_or, sym, ap, ◌∙◌, subst, arith}
use borrow.Author.Count.{below_more}
use Rattle.inheritance.specs.Changes.{changes_of, is_ordered, latest_known, known_of}
use Rattle.inheritance.specs.ScopedTables.{pair_of}
use Rattle.inheritance.specs.Query.{is_match, finds_at, at_first, AreNoted, HoldsTill}
use Rattle.inheritance.proofs.QueryLaws.{any_at, noted_later, later_both, holds_both}
use Rattle.inheritance.proofs.query.note_rows.Goals as goal

pub note_row-requires : goal.note_row-requires
note_row-requires c = ap is_ordered c.changes_of.ensures ∙ c.requires (slice_index_or c.args.keys.now c.loop-index.index 0)

pub loop-index-preserved : goal.loop-index-preserved
loop-index-preserved c =
    let test = is_match c.args.query in
    let rows = map (λ v. v.items) c.args.rows.now in
    let keys = c.args.keys.now in
    let index = c.loop-index.index in
    let key = slice_index_or keys index 0 in
    let old = c.loop-index.ends in
    let new = c.note_row.new.ends in
    let inv = c.loop-index.invariant in
    let later = c.note_row.ensures.later in
    let row : c.changes_of.result.now ≡ changes_of rows key = c.changes_of.ensures in
    let is_found : ℕ → Type 0 = λ t. finds_at test rows keys t ≡ true in
    let here : HoldsTill is_found old new = λ s t early low high.
    any_at (λ k. test (pair_of (known_of rows k t))) keys index 0 (omega arith) (sym (ap (λ cs. test (pair_of (latest_known None t cs))) row) ∙ c.note_row.ensures.found s t early low high) in
    record {
      later = later_both c.args.ends.now old new inv.later later;
      noted = below_more (λ q. AreNoted test new (at_first ∷ changes_of rows (slice_index_or keys q 0))) index
          (λ q h. noted_later test old new (at_first ∷ changes_of rows (slice_index_or keys q 0)) later (inv.noted q h))
          (subst (λ cs. AreNoted test new (at_first ∷ cs)) row c.note_row.ensures.noted);
      found = holds_both is_found c.args.ends.now old new inv.found here;
    }
