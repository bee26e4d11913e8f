-- The plan as the views have it.
use Rattle.flip_table.specs.declared.slot_table.Plan.{Plan}
use Rattle.flip_table.specs.declared.slot_table.PlanView.{PlanView}

abbrev pub plan_of : Plan → PlanView
plan_of plan = record { owners = plan.writer_of.items; seats = plan.seats; limit = plan.limit }
