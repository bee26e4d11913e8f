use Rattle.std.proofs.Common.{◌≡◌, ◌<◌, ℕ, IfSome, List, Option, Some, length, map, subst, sym, slice_get, arith}
use Rattle.exploration.proofs.Names.{AreEntries, Event, Path, length-map, slice_get_within, one_operation, events_of, outcome_found}
use Rattle.exploration.proofs.Paths.{all_closed, shows_only}
use Rattle.exploration.proofs.checking.check_paths.Goals as goal

-- each path is one of the first ones, where their count is that of all
path_below : (paths : List Path) (o : Option ℕ) (count : ℕ) → o ≡ Some count → IfSome o (λ n. n ≡ length paths) → (n : ℕ) (events : List Event) → slice_get (map events_of paths) n ≡ Some events → n < count
path_below paths o count is counts n events at =
    let within = slice_get_within (map events_of paths) n events at in
    let long = length-map paths events_of in
    let all : count ≡ length paths = subst (λ (x : Option ℕ). IfSome x (λ n. n ≡ length paths)) is counts in
    omega (arith, within, long, all)

pub check_each-requires-clause-entries : goal.check_each-requires-clause-entries
check_each-requires-clause-entries g c = subst (AreEntries g.M.First.first (map events_of c.args.paths.now)) (sym c.deref.ensures.value) c.in_ok-entries.ensures

pub returns-clause-closed : goal.returns-clause-closed
returns-clause-closed g c = λ yes. all_closed g.M.First.first (one_operation g.M.First.first.tree c.requires) (map events_of c.args.paths.now)
    (λ n events at. (c.in_ok-are_checked.ensures yes n (path_below c.args.paths.now c.count_of.result c.in-Some.count c.in-Some.is c.count_of.ensures n events at) events at).0)

pub returns-clause-only : goal.returns-clause-only
returns-clause-only g c = λ yes. shows_only g.M.First.first (one_operation g.M.First.first.tree c.requires) (map events_of c.args.paths.now) (map outcome_found c.args.found.now)
    (λ n events at. (c.in_ok-are_checked.ensures yes n (path_below c.args.paths.now c.count_of.result c.in-Some.count c.in-Some.is c.count_of.ensures n events at) events at).1)
