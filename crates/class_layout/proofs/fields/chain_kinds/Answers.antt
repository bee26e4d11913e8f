use Rattle.std.proofs.Common.{◌≡◌, ◌++◌, [], ℕ, List, map, take, length, reverse, slice_get, unwrap_or, ap, ◌∙◌, arith}
use Rattle.std.proofs.lemmas.List.{get_or_default}
use Rattle.std.specs.List.{flat_map}
use Rattle.std.proofs.Math.Seq.{take-length}
use Rattle.class_layout.specs.Kinds.{hidden_kinds}
use Rattle.class_layout.proofs.Indices.{flat_takes_after}
use Rattle.class_layout.proofs.fields.chain_kinds.Goals as goal

pub loop-class-preserved : goal.loop-class-preserved
loop-class-preserved c =
    flat_takes_after (λ n. unwrap_or (slice_get (map (λ row. row.items) c.args.own.now) n) []) c.as_slice-class-items.result.now c.loop-class.class-index 0 (hidden_kinds c.args.chain.now) c.loop-class.kinds.items c.extend_from_slice.new.self.items (omega arith) c.loop-class.invariant
    (c.in_ok-extend_from_slice.ensures.items ∙ ap (λ z. c.loop-class.kinds.items ++ z) c.row_at.ensures ∙
    ap (λ (n : ℕ). c.loop-class.kinds.items ++ unwrap_or (slice_get (map (λ row. row.items) c.args.own.now) n) []) (c.class-item.is ∙ get_or_default c.as_slice-class-items.result.now c.loop-class.class-index c.class-item.result 0 c.loop-class-test.true))

pub returns : goal.returns
returns c =
    let seen : c.loop-class.class-index ≡ length c.as_slice-class-items.result.now = omega arith in
    let all : take c.loop-class.class-index c.as_slice-class-items.result.now ≡ reverse c.args.chain.now =
    ap (λ n. take n c.as_slice-class-items.result.now) seen ∙ take-length c.as_slice-class-items.result.now ∙ c.as_slice-class-items.ensures.value ∙ c.in_ok-order.ensures in
    c.loop-class.invariant ∙ ap (λ (ns : List ℕ). hidden_kinds c.args.chain.now ++ flat_map (λ n. unwrap_or (slice_get (map (λ row. row.items) c.args.own.now) n) []) ns) all
