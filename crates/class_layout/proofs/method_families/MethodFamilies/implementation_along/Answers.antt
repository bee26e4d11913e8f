use Rattle.std.proofs.Common.{◌≡◌, ◌-◌, ◌+◌, ◌==◌, ℕ, Bool, false, Option, ◌∷◌, drop, get_or, refl, sym, arith, ap, ◌∙◌}
use Rattle.std.specs.Option.{option_map_or}
use Rattle.std.proofs.Math.Seq.{drop-length}
use Rattle.std.proofs.lemmas.List.{drop_more, get_or_default}
use Rattle.class_layout.specs.SlotUses.{slot_from, slot_along, implementation_from, implementation_along}
use Rattle.class_layout.proofs.method_families.MethodFamilies.implementation_along.Goals as goal

pub loop-index-init : goal.loop-index-init
loop-index-init c = rw (drop-length c.args.chain.now) (refl, refl)

pub loop-index-preserved : goal.loop-index-preserved
loop-index-preserved c =
    let s = c.args.self.now in
    let all = s.classes.now.all.now in
    let chain = c.args.chain.now in
    let index = c.loop-index.index - 1 in
    let class = get_or chain index 0 in
    let following = drop c.loop-index.index chain in
    let next : index + 1 ≡ c.loop-index.index = omega (arith, c.loop-index-test.true) in
    let opened : drop index chain ≡ class ∷ following = drop_more chain index 0 (omega (arith, c.loop-index-test.true, c.loop-index.auto)) ∙ ap (λ k. class ∷ drop k chain) next in
    let same : c.index-chain-index.result ≡ class = c.index-chain-index.is ∙ get_or_default chain index c.index-chain-index.result 0 (omega (arith, c.loop-index-test.true, c.loop-index.auto)) in
    let again : c.index-chain-index-in-loop-index.result ≡ class = c.index-chain-index-in-loop-index.is ∙ get_or_default chain index c.index-chain-index-in-loop-index.result 0 (omega (arith, c.loop-index-test.true, c.loop-index.auto)) in
    let slot_is = c.slot_from_base-slot.ensures ∙ ap (λ n. slot_from all s.identity n c.loop-index.slot) same ∙ ap (slot_from all s.identity class) c.loop-index.invariant.0 in
    let fills_is = c.is_slot.ensures ∙ ap (λ (slot : Option ℕ). option_map_or (λ n. n == c.args.required) slot false) slot_is in (
      slot_is ∙ ap (slot_along all s.identity) (sym opened),
      c.implementation_over-implementation.ensures ∙ ap (λ n. implementation_from all s.identity n c.is_slot.result c.loop-index.implementation) again ∙ ap (λ (fills : Bool). implementation_from all s.identity class fills c.loop-index.implementation) fills_is ∙
          ap (implementation_from all s.identity class (option_map_or (λ n. n == c.args.required) (slot_along all s.identity (class ∷ following)) false)) c.loop-index.invariant.1 ∙
          ap (implementation_along all s.identity c.args.required) (sym opened),
    )

pub returns : goal.returns
returns c =
    let s = c.args.self.now in
    let first : c.loop-index.index ≡ 0 = omega (arith, c.loop-index-test.false) in
    c.loop-index.invariant.1 ∙ ap (λ n. implementation_along s.classes.now.all.now s.identity c.args.required (drop n c.args.chain.now)) first
