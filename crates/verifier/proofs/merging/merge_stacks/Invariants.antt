use Rattle.std.proofs.Common.{◌≡◌, ◌<◌, take, true, false}
use Rattle.flow_rules.specs.StackTypes.{stack_types}
use Rattle.verifier.specs.Rises.{stack_rises}
use Rattle.verifier.proofs.StackLaws.{AllMerged}
use Rattle.verifier.proofs.merging.merge_stacks.Given as goal

abbrev pub invariant-loop-index : goal.invariant-loop-index
invariant-loop-index l = record {
  merged : AllMerged l.types (take l.index l.known) (take l.index l.coming) l.stack.items;
  same : l.is_higher ≡ false → l.stack.items ≡ take l.index l.known;
  higher : l.is_higher ≡ true → stack_rises l.types (stack_types l.types l.stack.items) < stack_rises l.types (stack_types l.types (take l.index l.known));
}
