-- The entries of stacks as they are kept.
use Rattle.std.specs.Prelude.{ℕ, List, map}
use Rattle.resolved_code.specs.declared.types.ResolvedElement.TheVariants as Elements
use Rattle.flow_rules.specs.declared.entries.StackEntry.{StackEntry}
use Rattle.flow_rules.specs.declared.entries.StackEntry.TheVariants as Entries
use Rattle.verifier.specs.declared.kept_stacks.EntryKind.{EntryKind}
use Rattle.verifier.specs.declared.kept_stacks.EntryKind.TheVariants.{Int32, Int64, Object, String, Class, NativeInt, Null}
use Rattle.verifier.specs.declared.kept_stacks.KeptEntry.{KeptEntry}
use Rattle.verifier.specs.declared.kept_stacks.Form.{Form}
use Rattle.verifier.specs.declared.kept_stacks.Form.TheVariants.{Narrow, Wide}

-- the entry of a kind, with the number of a class and the number of brackets where the kind has them
abbrev pub entry_by : EntryKind → ℕ → ℕ → StackEntry
entry_by Int32 class brackets = Entries.Declared (record { element = Elements.Int32; brackets = brackets })
entry_by Int64 class brackets = Entries.Declared (record { element = Elements.Int64; brackets = brackets })
entry_by Object class brackets = Entries.Declared (record { element = Elements.Object; brackets = brackets })
entry_by String class brackets = Entries.Declared (record { element = Elements.String; brackets = brackets })
entry_by Class class brackets = Entries.Declared (record { element = Elements.Class class; brackets = brackets })
entry_by NativeInt class brackets = Entries.NativeInt
entry_by Null class brackets = Entries.Null

-- the entry that is kept
abbrev pub entry_of : KeptEntry → StackEntry
entry_of kept = entry_by kept.kind kept.class kept.brackets

-- the entries of a stack
abbrev pub entries_of : Form → List StackEntry
entries_of (Narrow entries) = map entry_of entries.items
entries_of (Wide entries) = entries.items
