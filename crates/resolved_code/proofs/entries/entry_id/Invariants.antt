use Rattle.std.proofs.Common.{◌≡◌, map, drop}
use Rattle.name_tables.specs.Entries.{entry_of}
use Rattle.resolved_code.specs.Contents.{entry_from}
use Rattle.resolved_code.proofs.entries.entry_id.Given as goal

abbrev pub invariant-loop-class : goal.invariant-loop-class
invariant-loop-class l = entry_from l.class (map (λ t. entry_of t.class) (drop l.class l.classes)) ≡ entry_from 0 (map (λ t. entry_of t.class) l.classes)
