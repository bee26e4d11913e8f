use Rattle.std.proofs.Common.{◌≡◌, ◌≤◌, ◌<◌, ◌-◌, ℕ, true, None, length, drop, slice_index_or, sym, ap, ◌∙◌, subst, arith}
use Rattle.inheritance.specs.declared.changes.Change.{Change}
use Rattle.inheritance.specs.Changes.{latest_known}
use Rattle.inheritance.specs.ScopedTables.{pair_of}
use Rattle.inheritance.specs.Query.{is_match, next_time, AreNoted, HoldsTill}
use Rattle.inheritance.proofs.QueryLaws.{noted_later, noted_more, later_both, holds_both, known_between, known_early}
use Rattle.inheritance.proofs.query.note_row.Goals as goal

pub loop-index-preserved : goal.loop-index-preserved
loop-index-preserved c =
    let none : Change = record { time = 0; found = None } in
    let test = is_match c.args.query in
    let row = c.args.row.now in
    let index = c.loop-index.index in
    let old = c.loop-index.ends in
    let new = c.note.new.ends in
    let change = slice_index_or row (index - 1) none in
    let inv = c.loop-index.invariant in
    let is_found : ℕ → Type 0 = λ t. test (pair_of (latest_known None t row)) ≡ true in
    let more = noted_more test old new row index none (omega arith) (omega arith) c.note.ensures.later inv.noted
    (λ m w. let e : c.loop-index.end ≤ slice_index_or new change.time 0 = c.note.ensures.noted m w in omega (arith, e, inv.next)) in
    let here : (s t : ℕ) → s ≤ t → slice_index_or old s 0 ≤ t → t < slice_index_or new s 0 → is_found t = λ s t early low high.
    let noted = c.note.ensures.only s t low high in
    let from : change.time ≤ t = subst (λ n. n ≤ t) noted.0 early in
    let till : t < next_time (length old) (drop index row) = subst (λ n. t < n) inv.next noted.1 in
    ap (λ o. test (pair_of o)) (known_between (length old) t row index none (omega arith) (omega arith) c.requires from till) ∙ noted.2 in
    record {
      later = later_both c.args.ends.now old new inv.later c.note.ensures.later;
      next = more.0;
      noted = more.1;
      found = holds_both is_found c.args.ends.now old new inv.found here;
    }

pub returns-clause-noted : goal.returns-clause-noted
returns-clause-noted c =
    let test = is_match c.args.query in
    let row = c.args.row.now in
    let old = c.loop-index.ends in
    let new = c.note-2.new.ends in
    let later = c.note-2.ensures.later in
    let inv = c.loop-index.invariant in
    let first : c.loop-index.index ≡ 0 = omega (arith, c.loop-index-test.false) in
    let whole : drop c.loop-index.index row ≡ row = ap (λ n. drop n row) first in
    let next : c.loop-index.end ≡ next_time (length new) row = inv.next ∙ ap (next_time (length old)) whole ∙ ap (λ n. next_time n row) (sym later.width) in (
      λ m w. let end : c.loop-index.end ≤ slice_index_or new 0 0 = c.note-2.ensures.noted m (omega (arith, w, later.width)) in omega (arith, end, next),
      noted_later test old new row later (subst (AreNoted test old) whole inv.noted),
    )

pub returns-clause-found : goal.returns-clause-found
returns-clause-found c =
    let test = is_match c.args.query in
    let row = c.args.row.now in
    let old = c.loop-index.ends in
    let new = c.note-2.new.ends in
    let inv = c.loop-index.invariant in
    let first : c.loop-index.index ≡ 0 = omega (arith, c.loop-index-test.false) in
    let whole : drop c.loop-index.index row ≡ row = ap (λ n. drop n row) first in
    let is_found : ℕ → Type 0 = λ t. test (pair_of (latest_known None t row)) ≡ true in
    let here : HoldsTill is_found old new = λ s t early low high.
    let noted = c.note-2.ensures.only s t low high in
    let till : t < next_time (length old) row = subst (λ n. t < n) (inv.next ∙ ap (next_time (length old)) whole) noted.1 in
    ap (λ o. test (pair_of o)) (known_early None (length old) t row till c.requires) ∙ noted.2 in
    holds_both is_found c.args.ends.now old new inv.found here
