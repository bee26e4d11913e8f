use Rattle.std.proofs.Common.{◌≡◌, ℕ, List, true, ap, sym, ◌∙◌, arith}
use mathlib.Core.Option.{none}
use Rattle.std.specs.Prelude.{slice_set}
use Rattle.atomic_table.specs.Table.{Me, step}
use Rattle.shared_machine.specs.declared.counts.view.View.{View}
use Rattle.shared_machine.specs.Counts.{Count}
use Rattle.shared_machine.proofs.Moves.{meets, parts, renews, claims_of, only, book_after, keeper_after}
use Rattle.shared_machine.proofs.counts.book.Book.renew.Goals as goal

pub join_seat-requires : goal.join_seat-requires
join_seat-requires g c =
    let i = c.self.invariant in
    let t = c.ticket.invariant in
    let s = c.into_seat-theirs.ensures in
    let claims : c.into_seat-theirs.result.me.0.claims ≡ true = claims_of _ _ _ _ s.2 (ap (λ b. b.views) c.replace.ensures.value ∙ t.1) in
    (i.2 ∙ sym i.0, s.0 ∙ ap (λ b. b.table_id) c.replace.ensures.value ∙ t.0 ∙ sym i.0, s.3, omega (arith, i.1), meets _ _ _ _ claims)

pub load-requires : goal.load-requires
load-requires g c =
    let i = c.self.invariant in
    let t = c.ticket.invariant in
    let s = c.into_seat-theirs.ensures in
    let j = c.join_seat.ensures in
    let claims : c.into_seat-theirs.result.me.0.claims ≡ true = claims_of _ _ _ _ s.2 (ap (λ b. b.views) c.replace.ensures.value ∙ t.1) in
    (j.0 ∙ i.2 ∙ sym i.0, omega (arith, i.1), renews _ _ _ _ (step c.self.inside.table.shared.table_id.slots 0 0 0 none) _ (ap (λ m. m.0.keeps) j.2 ∙ ap (λ m. m.0.keeps) i.3) (ap (λ m. m.0.claims) j.2 ∙ claims))

pub split_seat-requires : goal.split_seat-requires
split_seat-requires g c =
    let i = c.self.invariant in
    let t = c.ticket.invariant in
    let s = c.into_seat-theirs.ensures in
    let j = c.join_seat.ensures in
    let l = c.load.ensures in
    let claims : c.into_seat-theirs.result.me.0.claims ≡ true = claims_of _ _ _ _ s.2 (ap (λ b. b.views) c.replace.ensures.value ∙ t.1) in
    (l.0 ∙ j.0 ∙ i.2 ∙ sym i.0, omega (arith, i.1), parts _ _ (ap (λ m. m.0.keeps) l.2.0 ∙ ap (λ m. m.0.keeps) j.2 ∙ ap (λ m. m.0.keeps) i.3) (ap (λ m. m.0.claims) l.2.0 ∙ ap (λ m. m.0.claims) j.2 ∙ claims))

pub invariant_of-self : goal.invariant_of-self
invariant_of-self g c =
    let i = c.self.invariant in
    let j = c.join_seat.ensures in
    let l = c.load.ensures in
    let p = c.split_seat.ensures in
    (i.0, i.1, p.0 ∙ l.0 ∙ j.0 ∙ i.2, keeper_after c.self.inside.seat.me c.join_seat.new.seat.me c.load.new.seat.me c.split_seat.new.seat.me c.into_seat-theirs.result.me.0 _ g.N.Next.next i.3 j.2 l.2.0 p.2)

pub returns-clause-book : goal.returns-clause-book
returns-clause-book g c =
    let s = c.into_seat-theirs.ensures in
    let theirs = c.into_seat-theirs.result.me.0 in
    let worker : theirs.worker ≡ c.args.ticket.now.worker =
    ap (λ (u : View). u.worker) (only _ theirs _ s.2 (ap (λ b. b.views) c.replace.ensures.value ∙ c.ticket.invariant.1)) ∙ ap (λ (t : Count). t.worker) c.ticket.view_is in
    ap (λ (m : Me ℕ View). m.0.book) (book_after c.self.inside.seat.me c.join_seat.new.seat.me c.load.new.seat.me c.split_seat.new.seat.me theirs _ g.N.Next.next c.self.invariant.3 c.join_seat.ensures.2 c.load.ensures.2.0 c.split_seat.ensures.2)
    ∙ ap (λ (b : List ℕ). slice_set b theirs.worker g.N.Next.next) c.self.view_is ∙ ap (λ (w : ℕ). slice_set c.args.self.now w g.N.Next.next) worker
