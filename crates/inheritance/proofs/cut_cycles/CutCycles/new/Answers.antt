use Rattle.std.proofs.Common.{length, sym, subst, ◌∙◌}
use Rattle.std.proofs.lemmas.Bool.{eqb-true}
use Rattle.std.proofs.lemmas.List.{nil_from_length}
use Rattle.inheritance.specs.Cycles.{IsOnBaseCycle}
use Rattle.inheritance.proofs.cut_cycles.CutCycles.new.Goals as goal

pub returns-then-is_empty-clause-none : goal.returns-then-is_empty-clause-none
returns-then-is_empty-clause-none c = λ e class own.
    let empty = sym c.as_slice-classes.ensures.value ∙ nil_from_length c.as_slice-classes.result.now (eqb-true (length c.as_slice-classes.result.now) 0 (sym c.if-is_empty.ensures)) in
    c.in_ok-cycles.ensures.classes empty class (subst (λ bases. IsOnBaseCycle bases class) (sym c.as_slice.ensures.value) own)
