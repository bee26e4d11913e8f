-- What the steps of a collector need of the heap, beside what they work on (this profile).
use Rattle.std.specs.Prelude.{◌≡◌, ◌<◌, ◌-◌, ℕ, Bool, true, List, length, All, Some}
use Rattle.cil_model.specs.declared.phases.Phase.{Phase}
use Rattle.cil_model.specs.declared.trees.Tree.{Tree}
use Rattle.class_layout.specs.Layouts.{IsLayout}
use Rattle.class_layout.specs.declared.layout.Layout.{Layout}
use Rattle.object_memory.specs.declared.addresses.Addr.{Addr}
use Rattle.object_memory.specs.declared.values.Value.{Value}
use Rattle.object_memory.specs.Cells.{Cell, Cells, cell_in}
use Rattle.object_memory.specs.Objects.{Objects}
use Rattle.object_memory.specs.Spaces.{is_there}
use Rattle.barriers.specs.Barriers.{is_value_in_heap}
use Rattle.collector.specs.References.{holds_reference, reference_in}
use Rattle.collector.specs.MarkSteps.{word_of}
use Rattle.collector.specs.Soundness.{IsSoundHeap}
use Rattle.collector.specs.declared.progress.Progress.{Progress}
use Rattle.collector.specs.declared.walks.FoundObject.{FoundObject}

-- ---- values

-- each value is an integer, or a reference of what is there
abbrev pub AreValuesInHeap : Objects → List Value → Type 0
AreValuesInHeap o values = All (λ v. is_value_in_heap o v ≡ true) values

-- ---- heaps

-- a heap that is sound while a phase is posted, whichever round is posted and however many words there are
pub record IsSoundIn (posted_phase : Phase) (p : Progress) (o : Objects) : Type 0 where
  pub tree : Tree
  pub has_round : Bool
  pub words : ℕ
  pub sound : IsSoundHeap tree posted_phase has_round words p o.spaces

-- the same for the tree of a layout
pub record IsSoundFor (layout : Layout) (posted_phase : Phase) (p : Progress) (o : Objects) : Type 0 where
  pub tree : Tree
  pub has_round : Bool
  pub words : ℕ
  pub layout_is : IsLayout tree layout
  pub sound : IsSoundHeap tree posted_phase has_round words p o.spaces

-- ---- slots

-- a slot of an old object, which holds a reference of what is there if it holds one
pub record IsReadable (layout : Layout) (o : Objects) (a : Addr) (slot : ℕ) : Type 0 where
  pub tree : Tree
  pub layout_is : IsLayout tree layout
  pub cell : Cell
  pub at : cell_in o.spaces.old a ≡ Some cell
  pub inside : slot < length cell.slots
  pub reference : holds_reference tree cell.kind slot ≡ true → is_there o.spaces (reference_in (word_of cell slot)) ≡ true

-- a word of such a slot, whatever it holds by now, whose forward can be asked for
pub record IsForwardable (layout : Layout) (o : Objects) (a : Addr) (slot word : ℕ) : Type 0 where
  pub tree : Tree
  pub layout_is : IsLayout tree layout
  pub cell : Cell
  pub at : cell_in o.spaces.old a ≡ Some cell
  pub reference : holds_reference tree cell.kind slot ≡ true → is_there o.spaces (reference_in word) ≡ true

-- ---- walks

-- what is found at an address of a block
abbrev pub found_at : Cells → ℕ → FoundObject
found_at s at = record { offset = at - s.start; object = record { number = at } }
