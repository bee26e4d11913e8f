use Rattle.std.proofs.Common.{ℕ, Bool, true, false, Some, map, nat_lt, sym, ap, ◌∙◌, arith}
use Rattle.std.specs.List.{list_all, list_any}
use Rattle.inheritance.specs.ScopedTables.{nearest_from}
use Rattle.inheritance.specs.MarkedDeclarations.{is_marked}
use Rattle.inheritance.proofs.Results.{if_both, if_ok}
use Rattle.inheritance.proofs.QueryLaws.{below_all, number_of_any, none_of_below}
use Rattle.inheritance.proofs.inheritance.Inheritance.finds_marked.Goals as goal

pub finds-requires : goal.finds-requires
finds-requires c =
    let keys = c.args.self.now.forest.keys in
    ap (list_all (λ k. nat_lt k keys)) (c.as_slice.ensures.value ∙ c.in_ok-keys.ensures) ∙ below_all keys keys (omega arith)

pub returns-clause-marked : goal.returns-clause-marked
returns-clause-marked c = if_ok c.finds.result c.finds.ensures.reported (λ found reported class e ends.
    let f = c.args.self.now.forest in
    let marked : ℕ → Bool = λ k. is_marked (map (λ v. v.items) c.args.marks.now) (nearest_from f k f.most (Some class)) in
    number_of_any marked f.keys (sym (ap (list_any marked) (c.as_slice.ensures.value ∙ c.in_ok-keys.ensures)) ∙ sym (reported class true e ends)))

pub returns-clause-unmarked : goal.returns-clause-unmarked
returns-clause-unmarked c = if_both c.finds.result c.finds.ensures.reported c.finds.ensures.ended (λ found reported ended class key e within.
    let f = c.args.self.now.forest in
    let marked : ℕ → Bool = λ k. is_marked (map (λ v. v.items) c.args.marks.now) (nearest_from f k f.most (Some class)) in
    none_of_below marked f.keys (sym (ap (list_any marked) (c.as_slice.ensures.value ∙ c.in_ok-keys.ensures)) ∙ sym (reported class false e (ended class e))) key within)
