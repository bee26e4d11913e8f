use Rattle.std.proofs.Common.{◌≡◌, true, ap, sym, ◌∙◌, arith}
use mathlib.Core.Option.{none}
use Rattle.atomic_table.specs.Table.{step}
use Rattle.shared_machine.proofs.Moves.{meets, parts, compares, claims_of}
use Rattle.shared_machine.proofs.counts.book.Book.compare.Goals as goal

pub join_seat-requires : goal.join_seat-requires
join_seat-requires g c =
    let i = c.self.invariant in
    let t = c.ticket.invariant in
    let s = c.into_seat.ensures in
    let claims : c.into_seat.result.me.0.claims ≡ true = claims_of _ _ _ _ s.2 (t.1) in
    (i.2 ∙ sym i.0, s.0 ∙ t.0 ∙ sym i.0, s.3, omega (arith, i.1), meets _ _ _ _ claims)

pub load-requires : goal.load-requires
load-requires g c =
    let i = c.self.invariant in
    let t = c.ticket.invariant in
    let s = c.into_seat.ensures in
    let j = c.join_seat.ensures in
    let claims : c.into_seat.result.me.0.claims ≡ true = claims_of _ _ _ _ s.2 (t.1) in
    (j.0 ∙ i.2 ∙ sym i.0, omega (arith, i.1), compares _ _ _ (step c.self.inside.table.shared.table_id.slots 0 0 0 none) _)

pub split_seat-pass-requires : goal.split_seat-pass-requires
split_seat-pass-requires g c =
    let i = c.self.invariant in
    let t = c.ticket.invariant in
    let s = c.into_seat.ensures in
    let j = c.join_seat.ensures in
    let l = c.load.ensures in
    let claims : c.into_seat.result.me.0.claims ≡ true = claims_of _ _ _ _ s.2 (t.1) in
    (l.0 ∙ j.0 ∙ i.2 ∙ sym i.0, omega (arith, i.1), parts _ _ (ap (λ m. m.0.keeps) l.2.0 ∙ ap (λ m. m.0.keeps) j.2 ∙ ap (λ m. m.0.keeps) i.3) (ap (λ m. m.0.claims) l.2.0 ∙ ap (λ m. m.0.claims) j.2 ∙ claims))
