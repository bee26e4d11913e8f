use Rattle.std.proofs.Common.{Some, suc, nat_lt, map, sym, ap, ◌∙◌, arith}
use Rattle.std.proofs.lemmas.Bool.{leb-true}
use Rattle.inheritance.specs.Changes.{known_of}
use Rattle.inheritance.specs.ScopedTables.{pair_of, nearest_from}
use Rattle.inheritance.specs.Query.{is_match}
use Rattle.inheritance.proofs.QueryLaws.{any_same}
use Rattle.inheritance.proofs.inheritance.Inheritance.may_find.Goals as goal

pub returns-in-Some-get-clause-reported : goal.returns-in-Some-get-clause-reported
returns-in-Some-get-clause-reported c = λ ends.
    let test = is_match c.args.query in
    let f = c.args.self.now.forest in
    let rows = map (λ v. v.items) c.args.self.now.scoped_table.changes.items in
    let time = c.in-Some.entry.time in
    let index = c.in-Some-get.ensures.lookup.3 in
    let entries_are_entered = sym c.entry.ensures ∙ c.in-Some.is in
    ap (nat_lt time) (index.1 0) ∙ sym (c.requires.reach time index.0) ∙
    any_same (λ k. nat_lt k f.keys) (λ k. test (pair_of (known_of rows k time))) (λ k. test (nearest_from f k f.most (Some c.args.class)))
    (λ k h. ap test (c.args.self.now.lookup_is_correct c.args.class c.in-Some.entry entries_are_entered k (omega (arith, leb-true (suc k) f.keys h)))) c.args.keys.now c.requires.keys
