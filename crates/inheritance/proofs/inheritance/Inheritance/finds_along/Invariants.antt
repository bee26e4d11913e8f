use Rattle.std.proofs.Common.{◌≡◌, drop}
use Rattle.inheritance.specs.Query.{is_match, finds_some}
use Rattle.inheritance.proofs.inheritance.Inheritance.finds_along.Given as goal

abbrev pub invariant-loop-index : goal.invariant-loop-index
invariant-loop-index l = finds_some (is_match l.query) l.self.forest (drop l.index l.keys) l.class ≡ finds_some (is_match l.query) l.self.forest l.keys l.class
