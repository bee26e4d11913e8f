use Rattle.std.proofs.Common.{◌≡◌, length, arith}
use Rattle.std.proofs.lemmas.Result.{IfOk-weaker}
use Rattle.flip_stress.proofs.Owners.{flip_of, initial_owners}
use Rattle.flip_stress.specs.Stress.{slot_count}
use Rattle.flip_stress.proofs.stress.open.Goals as goal

pub new-requires-clause-writers : goal.new-requires-clause-writers
new-requires-clause-writers c =
    let owners = c.in_ok-owners.owners in
    let are : length owners.items ≡ slot_count c.args.sizes = omega (arith, owners.ok.0, c.in_ok-owners.ensures.each.0) in
    rw c.as_slice.ensures.value (initial_owners c.args.sizes owners.items are c.in_ok-owners.ensures.each.1)

pub returns-clause-flip : goal.returns-clause-flip
returns-clause-flip c =
    let owners = c.in_ok-owners.owners in
    let are : length owners.items ≡ slot_count c.args.sizes = omega (arith, owners.ok.0, c.in_ok-owners.ensures.each.0) in
    IfOk-weaker c.new.result _ _ (λ made is. flip_of c.args.sizes owners.items _ are c.in_ok-owners.ensures.each.1 made.0 is) (rw c.as_slice.ensures.value at c.new.ensures.flip)
