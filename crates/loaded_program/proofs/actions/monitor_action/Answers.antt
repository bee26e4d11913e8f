use Rattle.std.proofs.Common.{◌≡◌, arith}
use Rattle.loaded_program.proofs.ActionLaws.{of_monitor}
use Rattle.loaded_program.proofs.actions.monitor_action.Goals as goal

pub returns-in_default : goal.returns-in_default
returns-in_default c =
    let a : (c.args.index ≡ 0 → ⊥) = λ e. omega arith in
    let b : (c.args.index ≡ 1 → ⊥) = λ e. omega arith in
    λ tree k m h. of_monitor tree k m c.args.index a b h
