use Rattle.std.proofs.Common.{◌≡◌, true, None, length, drop}
use Rattle.inheritance.specs.Changes.{latest_known}
use Rattle.inheritance.specs.ScopedTables.{pair_of}
use Rattle.inheritance.specs.Query.{is_match, next_time, AreNoted, AreLater, HoldsTill}
use Rattle.inheritance.proofs.query.note_row.Given as goal

abbrev pub invariant-loop-index : goal.invariant-loop-index
invariant-loop-index l = record {
  later : AreLater l.initial.ends l.ends;
  next : l.end ≡ next_time (length l.ends) (drop l.index l.row);
  noted : AreNoted (is_match l.query) l.ends (drop l.index l.row);
  found : HoldsTill (λ t. is_match l.query (pair_of (latest_known None t l.row)) ≡ true) l.initial.ends l.ends;
}
