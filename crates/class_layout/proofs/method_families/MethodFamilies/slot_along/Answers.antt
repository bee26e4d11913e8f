use Rattle.std.proofs.Common.{◌≡◌, ◌-◌, ◌+◌, ◌∷◌, drop, get_or, refl, sym, arith, ap, ◌∙◌}
use Rattle.std.proofs.Math.Seq.{drop-length}
use Rattle.std.proofs.lemmas.List.{drop_more, get_or_default}
use Rattle.class_layout.specs.SlotUses.{slot_from, slot_along}
use Rattle.class_layout.proofs.method_families.MethodFamilies.slot_along.Goals as goal

pub loop-index-init : goal.loop-index-init
loop-index-init c = rw (drop-length c.args.chain.now) refl

pub loop-index-preserved : goal.loop-index-preserved
loop-index-preserved c =
    let s = c.args.self.now in
    let all = s.classes.now.all.now in
    let chain = c.args.chain.now in
    let index = c.loop-index.index - 1 in
    let class = get_or chain index 0 in
    let next : index + 1 ≡ c.loop-index.index = omega (arith, c.loop-index-test.true) in
    let opened : drop index chain ≡ class ∷ drop c.loop-index.index chain = drop_more chain index 0 (omega (arith, c.loop-index-test.true, c.loop-index.auto)) ∙ ap (λ k. class ∷ drop k chain) next in
    let same : c.index-chain-index.result ≡ class = c.index-chain-index.is ∙ get_or_default chain index c.index-chain-index.result 0 (omega (arith, c.loop-index-test.true, c.loop-index.auto)) in
    c.slot_from_base-slot.ensures ∙ ap (λ n. slot_from all s.identity n c.loop-index.slot) same ∙ ap (slot_from all s.identity class) c.loop-index.invariant ∙ ap (slot_along all s.identity) (sym opened)

pub returns : goal.returns
returns c =
    let s = c.args.self.now in
    let first : c.loop-index.index ≡ 0 = omega (arith, c.loop-index-test.false) in
    c.loop-index.invariant ∙ ap (λ n. slot_along s.classes.now.all.now s.identity (drop n c.args.chain.now)) first
