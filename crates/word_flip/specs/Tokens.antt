-- What callers see of the flip, its writers and its copier (this profile).
use Rattle.std.specs.Prelude.{◌≡◌, ℕ, ◌+◌, ◌*◌, ◌<◌, Bool, false, Option, None, List, map, length, replicate, slice_index}
use Rattle.std.specs.List.{range_with_len}
use Rattle.atomic_table.specs.Seated.{TableId}
use Rattle.flip_table.specs.Rule.{IsMarked}
use Rattle.flip_table.specs.Tokens as Table
use Rattle.flip_table.specs.declared.slot_table.PlanView.{PlanView}
use Rattle.word_flip.specs.Objects.{object_of}

-- `table` says of which flip something is: no two have the same. `plan` has the owner of each slot and the number of seats.
pub record FlipValue : Type 0 where
  pub table : TableId
  pub plan : PlanView
  pub objects : ℕ
  pub slots : ℕ

-- `stage` is the stage that the seat has taken up. `polls` counts its loads of the posted stage, and `polled` is what the last one gave. `loads`
-- counts its loads of a slot; the last was of the word `loaded_word`, which named the object `loaded`. `stores` counts the objects that it wrote, and
-- `written` has for each slot what this seat last wrote there, or null.
pub record WriterValue : Type 0 where
  pub table : TableId
  pub plan : PlanView
  pub seat : ℕ
  pub stage : ℕ
  pub polled : ℕ
  pub polls : ℕ
  pub loads : ℕ
  pub loaded_word : ℕ
  pub loaded : Option ℕ
  pub stores : ℕ
  pub written : List (Option ℕ)

-- what callers see of a writer of the table
abbrev pub writer_value : Table.WriterValue → WriterValue
writer_value token = record {
  table = token.table;
  plan = token.knows.plan;
  seat = token.knows.index;
  stage = token.knows.taken_up;
  polled = token.knows.polled;
  polls = token.knows.polls;
  loads = token.knows.loads;
  loaded_word = token.knows.loaded_word;
  loaded = object_of token.knows.loaded;
  stores = length token.knows.wrote;
  written = map object_of token.knows.written;
}

-- `found` has for each seat the stage that it was last found to have taken up. `looks` counts the looks at a seat, each a load of its stage, and
-- `looked_at` is the seat of the last one. `checks` counts the second loads of a first copy. The last was of `slot_checked`, where `first_load` was
-- loaded before the copy was stored and `second_load` after it. `copied` and `retired` say of each slot whether it was.
pub record CopierValue : Type 0 where
  pub table : TableId
  pub plan : PlanView
  pub stage : ℕ
  pub found : List ℕ
  pub looks : ℕ
  pub looked_at : ℕ
  pub checks : ℕ
  pub slot_checked : ℕ
  pub first_load : ℕ
  pub second_load : ℕ
  pub copied : List Bool
  pub retired : List Bool

abbrev pub IsWriterOf : FlipValue → WriterValue → Type 0
IsWriterOf flip writer = (writer.table ≡ flip.table) × (writer.plan ≡ flip.plan)

abbrev pub IsCopierOf : FlipValue → CopierValue → Type 0
IsCopierOf flip copier = (copier.table ≡ flip.table) × (copier.plan ≡ flip.plan)

-- There is this slot of this object.
abbrev pub HasSlot : FlipValue → ℕ → ℕ → Type 0
HasSlot flip object slot = (object < flip.objects) × (slot < flip.slots)

-- the index of a slot among all slots
abbrev pub index_of : FlipValue → ℕ → ℕ → ℕ
index_of flip object slot = object * flip.slots + slot

-- This writer alone writes to the slot.
abbrev pub IsOwn : FlipValue → WriterValue → ℕ → ℕ → Type 0
IsOwn flip writer object slot = slice_index flip.plan.owners (index_of flip object slot) ≡ writer.seat

-- One load was made of this slot: of its first copy by a seat at stage 0, of its second copy from stage 1 on.
abbrev pub HasLoaded : FlipValue → WriterValue → ℕ → WriterValue → Type 0
HasLoaded flip before index after = (after.loads ≡ before.loads + 1) × (before.stage ≡ 0 → after.loaded_word ≡ index) × (0 < before.stage → after.loaded_word ≡ length flip.plan.owners + index)

-- One check was made, of this slot.
abbrev pub HasChecked : CopierValue → ℕ → CopierValue → Type 0
HasChecked before index after = (after.checks ≡ before.checks + 1) × (after.slot_checked ≡ index)

-- Some slot is not copied.
abbrev pub SomeUncopied : List Bool → Type 0
SomeUncopied copied = (index : ℕ) × (index < length copied) × ¬ IsMarked copied index

-- the writer of a seat before any call
abbrev pub initial_writer : TableId → PlanView → ℕ → WriterValue
initial_writer table plan seat = record {
  table = table;
  plan = plan;
  seat = seat;
  stage = 0;
  polled = 0;
  polls = 0;
  loads = 0;
  loaded_word = 0;
  loaded = None;
  stores = 0;
  written = replicate (length plan.owners) None;
}

-- the writers of the seats 0, 1, .. before any call
abbrev pub initial_writers : TableId → PlanView → List WriterValue
initial_writers table plan = map (initial_writer table plan) (range_with_len 0 plan.seats)

-- the copier before any call
abbrev pub initial_copier : TableId → PlanView → CopierValue
initial_copier table plan = record {
  table = table;
  plan = plan;
  stage = 0;
  found = replicate plan.seats 0;
  looks = 0;
  looked_at = 0;
  checks = 0;
  slot_checked = 0;
  first_load = 0;
  second_load = 0;
  copied = replicate (length plan.owners) false;
  retired = replicate (length plan.owners) false;
}
