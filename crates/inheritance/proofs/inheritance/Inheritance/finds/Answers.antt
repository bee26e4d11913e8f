use Rattle.std.proofs.Common.{◌+◌, ◌∷◌, [], false, length, map, slice_get, refl, sym, ap, ◌∙◌, subst, arith}
use Rattle.std.proofs.lemmas.List.{length-append}
use Rattle.inheritance.specs.Query.{is_match, IsReachOf}
use Rattle.inheritance.proofs.QueryLaws.{IsAnswer, more_answers}
use Rattle.inheritance.proofs.inheritance.Inheritance.finds.Goals as goal

pub may_find-requires-clause-reach : goal.may_find-requires-clause-reach
may_find-requires-clause-reach c = subst (IsReachOf (is_match c.args.query) (map (λ v. v.items) c.args.self.now.scoped_table.changes.items) c.args.keys.now) (sym c.as_slice.ensures.value) c.in_ok-reach.ensures

pub loop-class-preserved : goal.loop-class-preserved
loop-class-preserved c =
    let f = c.args.self.now.forest in
    let found = c.loop-class.found.items in
    let inv = c.loop-class.invariant in
    let is_answer = IsAnswer (is_match c.args.query) f c.args.keys.now in
    let here : is_answer c.loop-class.class c.may_find.result = record { reported = c.may_find.ensures.reported; ended = c.may_find.ensures.ended } in
    record {
      width = ap length c.in_ok-push.ensures.items ∙ length-append found (c.may_find.result ∷ []) ∙ ap (λ n. n + 1) inv.width;
      answers = λ class answer e. more_answers is_answer found c.may_find.result inv.answers
          (subst (λ n. is_answer n c.may_find.result) (sym inv.width) here) class answer (sym (ap (λ xs. slice_get xs class) c.in_ok-push.ensures.items) ∙ e);
    }

pub returns-clause-width : goal.returns-clause-width
returns-clause-width c = c.loop-class.invariant.width ∙ omega (arith, c.loop-class-test.false, c.loop-class.auto.class-end)

pub returns-clause-reported : goal.returns-clause-reported
returns-clause-reported c = λ class b e. (c.loop-class.invariant.answers class b e).reported

pub returns-clause-ended : goal.returns-clause-ended
returns-clause-ended c = λ class e. (c.loop-class.invariant.answers class false e).ended refl
