use Rattle.std.proofs.Common.{◌≡◌, ◌<◌, ◌∙◌, Some, length, is_some, slice_index_or, sym, ap, arith}
use Rattle.std.proofs.lemmas.Grind.{common_steps}
use Rattle.inheritance.specs.declared.cut_cycles.Part.{Part}
use Rattle.inheritance.specs.Lines.{base_in}
use Rattle.inheritance.specs.CutCycles.{part_in, part_of}
use Rattle.inheritance.proofs.CutLaws.{no_part, one_part_more}
use Rattle.inheritance.proofs.cut_cycles.parts_of.Goals as goal
use Rattle.inheritance.proofs.cut_cycles.parts_of.Goals.{then-class-len+then-is_none, else-class-len}

pub loop-class-preserved : goal.loop-class-preserved
loop-class-preserved c =
    let parts = c.loop-class.parts.items in
    let bases = c.args.bases.now in
    let class = slice_index_or c.as_slice-class-items.result.now c.loop-class.class-index 0 in
    elim c.if-class-len.branch [
      | then-class-len+then-is_none w ↦ (
          let within : class < length parts = omega (arith, w.if-class-len.true, c.len.ensures) in
          let at : w.index.result.now ≡ part_in parts class = grind (arith, common_steps) in
          let none = no_part (part_in parts class) (sym (ap is_some at) ∙ w.if-is_none.ensures) in
          let follows : (part : Part) → w.part_of.result ≡ Some part → part_of parts class (base_in bases class) ≡ Some part = λ part e. rw (w.as_slice.ensures.value, w.entry_at.ensures) at (w.part_of.ensures part e) in
          rw w.parts-is (one_part_more bases parts c.loop-class.invariant class within none w.part_of.result follows)
          )
      | else-class-len w ↦ rw w.parts-is c.loop-class.invariant
    ]
