-- What callers see of the table, the writers and the copier (this profile).
use Rattle.std.specs.Prelude.{◌≡◌, ℕ, List, map}
use Rattle.std.specs.List.{range_with_len}
use Rattle.atomic_table.specs.Seated.{TableId}
use Rattle.flip_table.specs.Rule.{initial_writer}
use Rattle.flip_table.specs.declared.slot_table.CopierView.{CopierView}
use Rattle.flip_table.specs.declared.slot_table.PlanView.{PlanView}
use Rattle.flip_table.specs.declared.slot_table.WriterView.{WriterView}

-- `table` says of which table something is: no two have the same.
pub record FlipTableValue : Type 0 where
  pub table : TableId
  pub plan : PlanView

pub record WriterValue : Type 0 where
  pub table : TableId
  pub knows : WriterView

pub record CopierValue : Type 0 where
  pub table : TableId
  pub knows : CopierView

abbrev pub IsWriterOf : FlipTableValue → WriterValue → Type 0
IsWriterOf t w = (w.table ≡ t.table) × (w.knows.plan ≡ t.plan)

abbrev pub IsCopierOf : FlipTableValue → CopierValue → Type 0
IsCopierOf t c = (c.table ≡ t.table) × (c.knows.plan ≡ t.plan)

abbrev pub initial_seat : TableId → PlanView → ℕ → WriterValue
initial_seat table plan index = record { table = table; knows = initial_writer plan index }

-- the writers of the seats 0, 1, .. before any step
abbrev pub initial_writers : TableId → PlanView → List WriterValue
initial_writers table plan = map (initial_seat table plan) (range_with_len 0 plan.seats)
