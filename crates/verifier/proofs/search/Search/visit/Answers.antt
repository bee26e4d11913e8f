use Rattle.std.proofs.Common.{◌≡◌, ◌≤◌, List, Option, Some, slice_get, pos, sym, ap, ◌∙◌}
use Rattle.std.proofs.lemmas.Option.{slice_get_within}
use Rattle.std.proofs.lemmas.Result.{err_from_is_err_and}
use Rattle.flow_rules.specs.StackTypes.{stack_types}
use Rattle.flow_rules.specs.declared.entries.StackEntry.{StackEntry}
use Rattle.verifier.specs.Ways.{ways_on}
use Rattle.verifier.specs.Answers.{work_left, IsWhole}
use Rattle.verifier.proofs.VisitLaws.{work_falls, answered_so, visit_beyond, visit_unmapped, visit_no_result, visit_continues, rise_whole}
use Rattle.verifier.proofs.search.Search.visit.Goals as goal

pub returns-in_default-clause-found : goal.returns-in_default-clause-found
returns-in_default-clause-found c = λ code of u. visit_beyond c.args.method.now c.args.operations.now (pos c.args.most) code of c.args.self.now.rows.items c.args.self.now.is_pending.items c.args.pc u (c.operation_at.ensures.beyond c.in_default.is)

pub returns-in_default-mapped_at-clause-found : goal.returns-in_default-mapped_at-clause-found
returns-in_default-mapped_at-clause-found c =
    let same : slice_get c.as_slice.result.now c.args.pc ≡ slice_get c.args.self.now.rows.items c.args.pc = ap (λ (v : List (Option (List StackEntry))). slice_get v c.args.pc) c.as_slice.ensures.value in
    λ code of u. visit_unmapped c.args.method.now c.args.operations.now (pos c.args.most) code of c.args.self.now.rows.items c.args.self.now.is_pending.items c.args.pc u (λ s e. c.mapped_at.ensures.none c.in_default-mapped_at.is s (same ∙ e))

pub returns-in_err-after-clause-found : goal.returns-in_err-after-clause-found
returns-in_err-after-clause-found c =
    let same : slice_get c.as_slice.result.now c.args.pc ≡ slice_get c.args.self.now.rows.items c.args.pc = ap (λ (v : List (Option (List StackEntry))). slice_get v c.args.pc) c.as_slice.ensures.value in
    let p = err_from_is_err_and c.from_residual.result c.from_residual.ensures.1 in
    rw (p.1, p.2) (λ code of u. visit_no_result c.args.method.now c.args.operations.now (pos c.args.most) code of c.class-object.ensures.legal c.args.self.now c.args.pc u c.in-Some.operation.now c.in-Some.ensures.found
    c.in-Some-mapped_at.stack.now (sym same ∙ c.in-Some-mapped_at.ensures.mapped) Unit Unit c.in_err-after.field-0.0 c.args.self.now c.in_err-after.ensures.found)

pub next_index-requires : goal.next_index-requires
next_index-requires c = slice_get_within c.args.operations.now c.args.pc c.in-Some.operation.now c.in-Some.ensures.found

pub returns-clause-found : goal.returns-clause-found
returns-clause-found c =
    let same : slice_get c.as_slice.result.now c.args.pc ≡ slice_get c.args.self.now.rows.items c.args.pc = ap (λ (v : List (Option (List StackEntry))). slice_get v c.args.pc) c.as_slice.ensures.value in
    λ code of u. visit_continues c.args.method.now c.args.operations.now (pos c.args.most) code of c.class-object.ensures.legal c.args.self.now c.args.pc u c.in-Some.operation.now c.in-Some.ensures.found
    c.in-Some-mapped_at.stack.now (sym same ∙ c.in-Some-mapped_at.ensures.mapped) c.raise_all-risen.result c.answer_after.result c.raise_all-risen.new.self c.as_slice-3.result.now c.as_slice-2.result.now
    (λ lines i is. c.in_ok-after.ensures.found lines i is ∙ ap (λ (s : List StackEntry). Some (stack_types c.args.method.now.types.now s)) (sym c.as_slice-3.ensures))
    (c.as_slice-2.ensures.value ∙ c.in_ok-ways.ensures ∙ ap (ways_on c.in-Some.operation.now) c.next_index.ensures) c.raise_all-risen.ensures c.answer_after.ensures.reported

pub returns-clause-evidence : goal.returns-clause-evidence
returns-clause-evidence c = c.answer_after.ensures.evidence

pub returns-clause-whole : goal.returns-clause-whole
returns-clause-whole c =
    answered_so (IsWhole c.raise_all-risen.new.self) c.raise_all-risen.result c.answer_after.result c.answer_after.ensures.reported
    (rise_whole c.args.method.now.types.now (pos c.args.most) c.as_slice-3.result.now c.as_slice-2.result.now c.args.self.now c.raise_all-risen.new.self c.raise_all-risen.result c.requires.whole c.raise_all-risen.ensures)

pub returns-clause-work : goal.returns-clause-work
returns-clause-work c =
    answered_so (work_left c.args.method.now.types.now (pos c.args.most) c.raise_all-risen.new.self ≤ work_left c.args.method.now.types.now (pos c.args.most) c.args.self.now) c.raise_all-risen.result c.answer_after.result c.answer_after.ensures.reported
    (work_falls c.args.method.now.types.now (pos c.args.most) c.as_slice-3.result.now c.as_slice-2.result.now c.args.self.now c.raise_all-risen.new.self c.raise_all-risen.result c.raise_all-risen.ensures)
