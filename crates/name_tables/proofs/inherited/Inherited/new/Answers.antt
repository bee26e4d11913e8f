use Rattle.std.proofs.Common.{map, sym, ap, subst, ◌∙◌}
use Rattle.inheritance.specs.declared.forests.Forest.{Forest}
use Rattle.inheritance.specs.CutCycles.{IsCut}
use Rattle.name_tables.proofs.KeyNumbers.{index_in_rows, id_in_rows}
use Rattle.name_tables.proofs.inherited.Inherited.new.Goals as goal

pub returns-clause-indices : goal.returns-clause-indices
returns-clause-indices g c = λ key class.
    index_in_rows g.K.PartialEq.eq g.met.K.Eq.laws (λ row. row.items) c.args.rows.now c.in_ok-keys.keys _ c.in_ok-keys.ensures
    (ap (λ (f : Forest). map (λ r. r.items) f.declared.items) c.in_ok-inheritance.ensures ∙ c.in_ok-forest.ensures.declared) key class

pub invariant_of-result-clause-has_id : goal.invariant_of-result-clause-has_id
invariant_of-result-clause-has_id g c =
    id_in_rows g.K.PartialEq.eq g.met.K.Eq.laws (λ row. row.items) c.args.rows.now c.in_ok-keys.keys _ c.in_ok-keys.ensures
    (ap (λ (f : Forest). map (λ r. r.items) f.declared.items) c.in_ok-inheritance.ensures ∙ c.in_ok-forest.ensures.declared)

pub invariant_of-result-clause-cut : goal.invariant_of-result-clause-cut
invariant_of-result-clause-cut g c = λ cycles e. subst (λ (f : Forest). IsCut f cycles.cut.forest) (sym c.in_ok-inheritance.ensures) (c.in_ok-cycles.ensures.cut cycles e)
