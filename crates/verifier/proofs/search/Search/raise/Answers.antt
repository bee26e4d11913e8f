use Rattle.std.proofs.Common.{◌≡◌, List, Option, Some, slice_get, pos, sym, ap, ◌∙◌}
use Rattle.std.proofs.lemmas.Option.{slice_get_within}
use Rattle.std.proofs.lemmas.Result.{err_from_is_err_and}
use Rattle.flow_rules.specs.declared.entries.StackEntry.{StackEntry}
use Rattle.verifier.proofs.SearchLaws.{rise_off, rise_refused, rise_equal, rise_merged_or_not}
use Rattle.verifier.proofs.search.Search.raise.Goals as goal

pub returns-in-Absent : goal.returns-in-Absent
returns-in-Absent c =
    let same : slice_get c.as_slice.result.now c.args.pc ≡ slice_get c.args.self.now.rows.items c.args.pc = ap (λ (v : List (Option (List StackEntry))). slice_get v c.args.pc) c.as_slice.ensures.value in
    rise_off c.args.types.now (pos c.args.most) c.args.after.now c.args.pc c.args.self.now (sym same ∙ c.in-Absent.ensures)

pub map-requires-clause-unmapped : goal.map-requires-clause-unmapped
map-requires-clause-unmapped c =
    let same : slice_get c.as_slice.result.now c.args.pc ≡ slice_get c.args.self.now.rows.items c.args.pc = ap (λ (v : List (Option (List StackEntry))). slice_get v c.args.pc) c.as_slice.ensures.value in
    sym same ∙ c.in-Unmapped.ensures

pub returns-in-Unmapped : goal.returns-in-Unmapped
returns-in-Unmapped c = c.map.ensures c.args.types.now

pub returns-then-are_same : goal.returns-then-are_same
returns-then-are_same c =
    let same : slice_get c.as_slice.result.now c.args.pc ≡ slice_get c.args.self.now.rows.items c.args.pc = ap (λ (v : List (Option (List StackEntry))). slice_get v c.args.pc) c.as_slice.ensures.value in
    rise_equal c.args.types.now (pos c.args.most) c.args.after.now c.args.pc c.args.self.now c.in-Mapped.known.now (sym same ∙ c.in-Mapped.ensures) (c.are_same.ensures c.if-are_same.true)

pub returns-in_err-merge-in-Mapped : goal.returns-in_err-merge-in-Mapped
returns-in_err-merge-in-Mapped c =
    let same : slice_get c.as_slice.result.now c.args.pc ≡ slice_get c.args.self.now.rows.items c.args.pc = ap (λ (v : List (Option (List StackEntry))). slice_get v c.args.pc) c.as_slice.ensures.value in
    let p = err_from_is_err_and c.from_residual.result c.from_residual.ensures.1 in
    rw (p.1, p.2) (rise_refused c.args.types.now (pos c.args.most) c.args.after.now c.args.pc c.args.self.now Unit Unit c.in_err-merge-in-Mapped.field-0.0 c.in-Mapped.known.now c.args.self.now (sym same ∙ c.in-Mapped.ensures) c.in_err-merge-in-Mapped.ensures.merged)

pub merge-requires-clause-inside : goal.merge-requires-clause-inside
merge-requires-clause-inside c =
    let same : slice_get c.as_slice.result.now c.args.pc ≡ slice_get c.args.self.now.rows.items c.args.pc = ap (λ (v : List (Option (List StackEntry))). slice_get v c.args.pc) c.as_slice.ensures.value in
    slice_get_within c.args.self.now.rows.items c.args.pc (Some c.in-Mapped.known.now) (sym same ∙ c.in-Mapped.ensures)

pub returns-in_ok-merge-in-Mapped : goal.returns-in_ok-merge-in-Mapped
returns-in_ok-merge-in-Mapped c =
    let same : slice_get c.as_slice.result.now c.args.pc ≡ slice_get c.args.self.now.rows.items c.args.pc = ap (λ (v : List (Option (List StackEntry))). slice_get v c.args.pc) c.as_slice.ensures.value in
    rise_merged_or_not c.args.types.now (pos c.args.most) c.args.after.now c.args.pc c.args.self.now c.merge.result c.merge.new.self c.in-Mapped.known.now c.in_ok-merge-in-Mapped.merge c.requires.whole (sym same ∙ c.in-Mapped.ensures) c.in_ok-merge-in-Mapped.ensures.merged c.in_ok-merge-in-Mapped.ensures.same c.in_ok-merge-in-Mapped.ensures.higher c.merge.ensures.same c.merge.ensures.rows c.merge.ensures.pending c.merge.ensures.err
