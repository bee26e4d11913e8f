use Rattle.std.proofs.Common.{◌≡◌, ℕ, Bool, Some, length, slice_get}
use Rattle.inheritance.specs.Query.{is_match}
use Rattle.inheritance.proofs.QueryLaws.{IsAnswer}
use Rattle.inheritance.proofs.inheritance.Inheritance.finds.Given as goal

abbrev pub invariant-loop-class : goal.invariant-loop-class
invariant-loop-class l = record {
  width : length l.found.items ≡ l.class;
  answers : (class : ℕ) (answer : Bool) → slice_get l.found.items class ≡ Some answer → IsAnswer (is_match l.query) l.self.forest l.keys class answer;
}
