use Rattle.std.proofs.Common.{◌≡◌, ◌<◌, ◌-◌, ◌+◌, List, length, get_or, ap, ◌∙◌, subst, arith}
use Rattle.std.proofs.lemmas.List.{get_or_default}
use Rattle.cil_model.specs.declared.events.Event.TheVariants.{Step}
use Rattle.cil_model.specs.declared.reports.Report.TheVariants.{Ran}
use Rattle.shared_machine.specs.declared.history.Run.{Run}
use Rattle.shared_machine.proofs.Histories.{plain-longer_by}
use Rattle.shared_machine.proofs.history.lengthen_by.Goals as goal

pub returns-clause-longer : goal.returns-clause-longer
returns-clause-longer c = λ _.
    let none : Run = record { entry = record { worker = 0; event = Step 0; report = Ran }; times = 0 } in
    let count = length c.as_slice-all.result.now in
    let same = subst (λ (runs : List Run). (get_or runs (count - 1) none).entry ≡ c.args.entry.now) c.as_slice-all.ensures.value (c.can_be_longer_by.ensures c.if-not-can_be_longer_by.false).0 in
    let within : count - 1 < length c.args.runs.now.items = omega (arith, ap length c.as_slice-all.ensures.value, c.if-count-eq0.false) in
    let last : c.index_mut.result.now ≡ get_or c.args.runs.now.items (count - 1) none = c.index_mut.ensures.value ∙ get_or_default c.args.runs.now.items (count - 1) c.index_mut.result.now none within in
    plain-longer_by c.args.runs.now.items count none (record c.index_mut.result.now { times = c.index_mut.result.now.times + c.args.times }) c.args.entry.now c.args.times (ap length c.as_slice-all.ensures.value) c.if-count-eq0.false same
    (ap (λ (r : Run). record r { times = r.times + c.args.times }) last)
