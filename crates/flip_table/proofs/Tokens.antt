-- What a token's model keeps after a step.
use Rattle.std.proofs.Common.{◌≡◌, [], sym, ap, ◌∙◌}
use Rattle.flip_table.specs.declared.slot_table.CopierView.{CopierView}
use Rattle.flip_table.specs.declared.slot_table.View.TheVariants.{OfWriter, OfCopier}
use Rattle.flip_table.specs.declared.slot_table.WriterView.{WriterView}
use Rattle.flip_table.specs.Steps.{Holder, copier_part, writer_part}

pub is_copier : (after : Holder) (p : CopierView) → after ≡ (OfCopier p, []) → after ≡ (OfCopier (copier_part after.0), [])
is_copier after p e = e ∙ ap (λ (z : CopierView). (OfCopier z, [])) (sym (ap (λ (z : Holder). copier_part z.0) e))

pub is_writer : (after : Holder) (q : WriterView) → after ≡ (OfWriter q, []) → after ≡ (OfWriter (writer_part after.0), [])
is_writer after q e = e ∙ ap (λ (z : WriterView). (OfWriter z, [])) (sym (ap (λ (z : Holder). writer_part z.0) e))

pub knows_copier : (after : Holder) (p : CopierView) → after ≡ (OfCopier p, []) → copier_part after.0 ≡ p
knows_copier after p e = ap (λ (z : Holder). copier_part z.0) e

pub knows_writer : (after : Holder) (q : WriterView) → after ≡ (OfWriter q, []) → writer_part after.0 ≡ q
knows_writer after q e = ap (λ (z : Holder). writer_part z.0) e
