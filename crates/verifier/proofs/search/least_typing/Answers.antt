use Rattle.std.proofs.Common.{◌<◌, ◌≤◌, ℕ, List, [], ◌∷◌, pos, ap, subst, arith}
use Rattle.std.specs.Prelude.{Err}
use Rattle.std.proofs.lemmas.Result.{err_from_is_err_and}
use Rattle.flow_rules.specs.declared.entries.StackEntry.{StackEntry}
use Rattle.verifier.specs.Answers.{IsRise, IsRisen, work_left}
use Rattle.verifier.proofs.SearchLaws.{still_whole}
use Rattle.verifier.proofs.VisitLaws.{on_the_way, never_begun, stopped, taken, decided_all, work_taken}
use Rattle.verifier.proofs.search.least_typing.Goals as goal

pub returns-in-Err : goal.returns-in-Err
returns-in-Err c = λ code of. never_begun c.args.method.now c.args.operations.now (pos c.args.most) code of c.in_ok-search.search c.in_ok-search.ensures.rows Unit c.in-Err.error c.not_begun.result c.raise.new.self
    (subst (λ (v : List StackEntry). IsRise {T = Unit} c.args.method.now.types.now (pos c.args.most) v (0 ∷ []) c.in_ok-search.search c.raise.new.self (Err c.in-Err.error)) c.as_slice.ensures c.in-Err.ensures) c.not_begun.ensures

pub loop-pc-init : goal.loop-pc-init
loop-pc-init c =
    let h : IsRisen c.args.method.now.types.now (pos c.args.most) [] (0 ∷ []) c.in_ok-search.search c.raise.new.self =
    subst (λ (v : List StackEntry). IsRisen c.args.method.now.types.now (pos c.args.most) v (0 ∷ []) c.in_ok-search.search c.raise.new.self) c.as_slice.ensures c.in-Ok.ensures in
    record {
      whole = still_whole c.args.method.now.types.now (pos c.args.most) [] (0 ∷ []) c.in_ok-search.search c.raise.new.self c.in_ok-search.ensures.whole h;
      found = λ code of. on_the_way c.args.method.now c.args.operations.now (pos c.args.most) code of c.in_ok-search.search c.in_ok-search.ensures.rows c.raise.new.self h;
    }

pub loop-pc-smaller : goal.loop-pc-smaller
loop-pc-smaller c =
    let left : ℕ = work_left c.args.method.now.types.now (pos c.args.most) c.next.new.self in
    let first : left < work_left c.args.method.now.types.now (pos c.args.most) c.loop-pc.search =
    work_taken c.args.method.now.types.now (pos c.args.most) c.loop-pc.search c.next.new.self c.in-Some.pc (ap (λ v. v.items) c.next.ensures.rows) c.in-Some.ensures.found c.in-Some.ensures.taken in
    let further : work_left c.args.method.now.types.now (pos c.args.most) c.visit.new.self ≤ left = c.in_ok-visit.ensures.work in
    omega (arith, first, further)

pub loop-pc-preserved : goal.loop-pc-preserved
loop-pc-preserved c =
    record {
      whole = c.in_ok-visit.ensures.whole;
      found = λ code of. c.in_ok-visit.ensures.found code of (taken c.args.method.now c.args.operations.now (pos c.args.most) code of c.loop-pc.search.rows.items c.next.new.self.rows.items c.loop-pc.search.is_pending.items
          c.next.new.self.is_pending.items c.in-Some.pc (c.loop-pc.invariant.found code of) (ap (λ v. v.items) c.next.ensures.rows) c.in-Some.ensures.found c.in-Some.ensures.taken);
    }

pub returns-in_err-visit : goal.returns-in_err-visit
returns-in_err-visit c =
    let p = err_from_is_err_and c.from_residual-in_err-visit.result c.from_residual-in_err-visit.ensures.1 in
    rw (p.1, p.2) (λ code of. stopped c.args.method.now c.args.operations.now (pos c.args.most) code of Unit c.in_err-visit.field-0.0 c.visit.new.self
    (c.in_err-visit.ensures.found code of (taken c.args.method.now c.args.operations.now (pos c.args.most) code of c.loop-pc.search.rows.items c.next.new.self.rows.items c.loop-pc.search.is_pending.items
    c.next.new.self.is_pending.items c.in-Some.pc (c.loop-pc.invariant.found code of) (ap (λ v. v.items) c.next.ensures.rows) c.in-Some.ensures.found c.in-Some.ensures.taken)))

pub returns : goal.returns
returns c = λ code of. decided_all c.args.method.now c.args.operations.now (pos c.args.most) code of c.loop-pc.search.rows.items c.next.new.self.rows.items c.new-2.result c.loop-pc.search.is_pending.items (c.loop-pc.invariant.found code of)
    (c.next.ensures.empty c.in_default.is) (ap (λ v. v.items) c.next.ensures.rows) c.new-2.ensures
