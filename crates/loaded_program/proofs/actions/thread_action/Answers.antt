use Rattle.std.proofs.Common.{◌≡◌, arith}
use Rattle.loaded_program.proofs.ActionLaws.{of_thread}
use Rattle.loaded_program.proofs.actions.thread_action.Goals as goal

pub returns-in_default : goal.returns-in_default
returns-in_default c =
    let a : (c.args.index ≡ 0 → ⊥) = λ e. omega arith in
    let b : (c.args.index ≡ 2 → ⊥) = λ e. omega arith in
    let d : (c.args.index ≡ 3 → ⊥) = λ e. omega arith in
    λ tree k m h. of_thread tree k m c.args.index a b d h
