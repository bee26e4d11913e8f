use Rattle.std.proofs.Common.{◌≡◌, ◌<◌, ◌+◌, List, Option, Some, Ok, Err, length, get_or, arith, refl, sym, ◌∙◌, subst}
use Rattle.cil_model.specs.declared.types.ClassName.{ClassName}
use Rattle.cil_model.specs.declared.trees.Method.{Method}
use Rattle.flow_rules.specs.declared.entries.StackEntry.{StackEntry}
use Rattle.name_tables.specs.declared.ids.MethodId.{MethodId}
use Rattle.name_tables.specs.Numbers.{method_at}
use Rattle.verifier.specs.Verdicts.{AreOfMethods, IsMethodVerdict}
use Rattle.verifier.proofs.TypingLaws.{same_count, none_kept, next_kept, next_refused}
use Rattle.verifier.proofs.typings.typings_by.Goals as goal

pub loop-method-init : goal.loop-method-init
loop-method-init c all = rw c.new-typings.ensures.items (refl, none_kept c.args.program.now)

pub returns-in-Err : goal.returns-in-Err
returns-in-Err c all =
    let below : c.loop-method.method < length c.args.members.now = omega (arith, c.loop-method-test.true) in
    let invariant = c.loop-method.invariant all in
    let tree = c.args.program.now in
    let member = c.index-members-method.result in
    let Verdict : MethodId → Type 0 = λ k. (owner : ClassName) (m : Method) → method_at tree (k.class, k.index) ≡ Some (owner, m) → IsMethodVerdict tree owner m (Err c.in-Err.error) in
    let verdict : Verdict (get_or c.args.members.now c.loop-method.method member) = subst Verdict c.index-members-method.is c.in-Err.ensures in
    next_refused tree c.args.members.now c.loop-method.typings.items c.loop-method.method member all below invariant.0 invariant.1 c.in-Err.error c.refusal_in.result verdict c.refusal_in.ensures

pub loop-method-preserved : goal.loop-method-preserved
loop-method-preserved c all =
    let below : c.loop-method.method < length c.args.members.now = omega (arith, c.loop-method-test.true) in
    let invariant = c.loop-method.invariant all in
    let tree = c.args.program.now in
    let member = c.index-members-method.result in
    let Verdict : MethodId → Type 0 = λ k. (owner : ClassName) (m : Method) → method_at tree (k.class, k.index) ≡ Some (owner, m) → IsMethodVerdict tree owner m (Ok c.in-Ok.typing) in
    let verdict : Verdict (get_or c.args.members.now c.loop-method.method member) = subst Verdict c.index-members-method.is c.in-Ok.ensures in
    subst (λ (typings : List (List (Option (List StackEntry)))). (length typings ≡ c.loop-method.method + 1) × AreOfMethods tree typings) (sym c.in_ok-push-in-Ok.ensures.items)
    (next_kept tree c.args.members.now c.loop-method.typings.items c.loop-method.method member all below invariant.0 invariant.1 c.in-Ok.typing verdict)

pub returns : goal.returns
returns c all =
    let invariant = c.loop-method.invariant all in
    let whole : length c.loop-method.typings.items ≡ length c.args.members.now = omega (arith, invariant.0, c.loop-method-test.false, c.loop-method.auto) in
    rw c.new.ensures (record { whole = whole ∙ same_count c.args.program.now c.args.members.now all; each = invariant.1 })
