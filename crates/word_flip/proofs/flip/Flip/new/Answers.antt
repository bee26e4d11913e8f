use Rattle.std.proofs.Common.{ℕ, ◌+◌, Bool, false, List, length, map, mul-le-mul, replicate, refl, ap, rules, sym, ◌∙◌}
use Rattle.std.proofs.lemmas.List.{length-replicate}
use Rattle.std.proofs.lemmas.Result.{IfOk-from_err}
use Rattle.flip_table.specs.Tokens as Table
use Rattle.flip_table.specs.declared.slot_table.PlanView.{PlanView}
use Rattle.word_flip.specs.Tokens.{writer_value, initial_writers}
use Rattle.word_flip.proofs.Initial.{first_stage, limit_within, opened, opened_idle}
use Rattle.word_flip.proofs.flip.Flip.new.Goals as goal

pub writers_of-requires : goal.writers_of-requires
writers_of-requires c = record { idle = rw c.in_ok-table.ensures.writers (opened_idle _ _) }

pub returns-clause-writers : goal.returns-clause-writers
returns-clause-writers c = c.in_ok-writers.ensures ∙ (ap (λ (tokens : List Table.WriterValue). map writer_value tokens) c.in_ok-table.ensures.writers
    ∙ (opened _ _ ∙ ap (λ (plan : PlanView). initial_writers c.in_ok-table.table.table plan) (sym c.in_ok-table.ensures.table)))

pub new-requires-clause-sizes : goal.new-requires-clause-sizes
new-requires-clause-sizes c = (rw (c.in_ok-from_slice.ensures.len, c.requires.writers.0) (mul-le-mul c.requires.sizes.0 c.requires.sizes.1), rw c.from.ensures c.requires.sizes.2)

pub new-requires-clause-owned : goal.new-requires-clause-owned
new-requires-clause-owned c = rw (c.in_ok-from_slice.ensures.items, c.from.ensures) c.requires.writers.1

pub new-requires-clause-limit : goal.new-requires-clause-limit
new-requires-clause-limit c = rw c.from-2.ensures (limit_within c.args.objects c.requires.sizes.0)

pub returns-in_err-from_slice : goal.returns-in_err-from_slice
returns-in_err-from_slice c = search (rules, IfOk-from_err)

pub returns-in_err-copied : goal.returns-in_err-copied
returns-in_err-copied c = search (rules, IfOk-from_err)

pub returns-in_err-table : goal.returns-in_err-table
returns-in_err-table c = search (rules, IfOk-from_err)

pub returns-in_err-writers : goal.returns-in_err-writers
returns-in_err-writers c = search (rules, IfOk-from_err)

pub invariant_of-flip : goal.invariant_of-flip
invariant_of-flip c = (c.requires.sizes.0, rw c.in_ok-table.ensures.table (ap (λ n. n + 1) c.from-2.ensures), rw (c.in_ok-table.ensures.table, c.in_ok-from_slice.ensures.items) c.requires.writers.0)

pub invariant_of-result : goal.invariant_of-result
invariant_of-result c =
    let copied = c.in_ok-copied.ensures.items_if_clones_equal (λ y e. e) ∙ ap (λ (items : List ℕ). replicate (length items) false) (sym c.in_ok-from_slice.ensures.items) in
    rw c.in_ok-table.ensures.copier (copied, refl, length-replicate {A = Bool} _ false, length-replicate {A = ℕ} _ 0, first_stage)

pub returns-clause-flip : goal.returns-clause-flip
returns-clause-flip c = rw (c.in_ok-table.ensures.table, c.in_ok-from_slice.ensures.items, c.from.ensures, c.from-2.ensures)

pub returns-clause-copier : goal.returns-clause-copier
returns-clause-copier c = rw (c.in_ok-table.ensures.copier, c.in_ok-table.ensures.table)
