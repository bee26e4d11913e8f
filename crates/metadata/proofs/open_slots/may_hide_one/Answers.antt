use Rattle.std.proofs.Common.{◌≡◌, ◌&&◌, not, List, ℕ, Bor, false, sym, ap, ◌∙◌, arith}
use Rattle.cil_model.specs.declared.trees.Method.{Method}
use Rattle.name_tables.specs.Methods.{line_of}
use Rattle.name_tables.specs.Sameness.{identity_of}
use Rattle.resolved_code.specs.VirtualSlots.{is_override, is_nearest_abstract}
use Rattle.resolved_code.proofs.ListLaws.Tests.{and_false}
use Rattle.metadata.specs.OpenSlots.{hides_one}
use Rattle.metadata.proofs.WalkLaws.{any_after_in}
use Rattle.metadata.proofs.open_slots.may_hide_one.Goals as goal
use Rattle.metadata.proofs.open_slots.may_hide_one.Goals.{then-not-is_override+else-may_be_top, else-not-is_override}

pub loop-method-preserved : goal.loop-method-preserved
loop-method-preserved c =
    let t = c.args.methods.now.names.now.classes.tree.now in
    let ns : List ℕ = line_of t c.args.base.now in
    let m : Method = c.method-item.result.now in
    let hides : hides_one t ns m ≡ false = elim c.if-not-is_override.branch [
      | then-not-is_override+else-may_be_top w ↦ ap (λ b. not (is_override m) && b) (sym (ap (λ k. is_nearest_abstract t k ns) w.new-key.ensures) ∙ w.may_be_top.ensures w.if-may_be_top.false) ∙ and_false _
      | else-not-is_override w ↦ ap (λ b. not b && is_nearest_abstract t (identity_of m) ns) (sym c.is_override.ensures ∙ w.if-not-is_override.false)
    ] in
    any_after_in (λ (x : Bor Method). x.now) (hides_one t ns) c.args.own.now c.loop-method.method-index c.method-item.result (omega arith) c.method-item.is hides ∙ c.loop-method.invariant
