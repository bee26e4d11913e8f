use Rattle.std.proofs.Common.{◌≡◌, length}
use Rattle.metadata.specs.InterfaceTables.{AreTables}
use Rattle.metadata.proofs.lacking.tables_of.Given as goal

abbrev pub invariant-loop-interface : goal.invariant-loop-interface
invariant-loop-interface l = record {
  width : length l.tables.items ≡ l.interface;
  tables : AreTables l.methods.names.now.classes.tree.now l.tables.items;
}
