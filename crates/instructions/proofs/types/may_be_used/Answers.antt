use Rattle.std.proofs.Common.{sym, ap, ◌∙◌, subst}
use Rattle.std.specs.Prelude.{Some, IsSome}
use Rattle.std.specs.Option.{is_some}
use Rattle.instructions.specs.TypeTransitions.{may_be_used_as}
use Rattle.instructions.proofs.Names.{Deciding, deciding}
use Rattle.instructions.proofs.types.may_be_used.Goals as goal

pub type_of_address-requires : goal.type_of_address-requires
type_of_address-requires c =
    let there = subst (λ v. IsSome (may_be_used_as c.args.program.now c.args.heap.now v c.args.to)) c.in-Ref.is c.requires.there in
    let decided : Deciding c.args.program.now c.args.heap.now c.in-Ref.object c.args.to = deciding c.args.program.now c.args.heap.now c.in-Ref.object c.args.to (sym c.is_null.ensures ∙ c.if-is_null.false) there in
    ap is_some decided.own_is

pub returns-else-is_null : goal.returns-else-is_null
returns-else-is_null c =
    let there = subst (λ v. IsSome (may_be_used_as c.args.program.now c.args.heap.now v c.args.to)) c.in-Ref.is c.requires.there in
    let decided : Deciding c.args.program.now c.args.heap.now c.in-Ref.object c.args.to = deciding c.args.program.now c.args.heap.now c.in-Ref.object c.args.to (sym c.is_null.ensures ∙ c.if-is_null.false) there in
    ap (λ v. may_be_used_as c.args.program.now c.args.heap.now v c.args.to) c.in-Ref.is
    ∙ decided.decided
    ∙ ap Some (sym (c.assignable.ensures c.args.program.now c.requires.layout decided.own decided.required (c.type_of_address.ensures decided.own decided.own_is) decided.required_is))
