-- When a birth is refused: exactly where the new object's cell exceeds the room that is left (this profile).
use Rattle.std.specs.Prelude.{◌≡◌, ◌↔◌, ℕ, ◌+◌, Bool, false, if◌then◌else◌, IsTrue, List, [], ◌∷◌, ◌++◌, length, sum_by, None}
use Rattle.cil_model.specs.declared.trees.Tree.{Tree}
use Rattle.cil_model.specs.declared.limits.Limits.{Limits}
use Rattle.cil_model.specs.declared.phases.Phase.TheVariants.{Idle}
use Rattle.cil_model.specs.declared.reports.Report.{Report}
use Rattle.cil_model.specs.Chains.{is_thread_class}
use Rattle.reference_machine.specs.Cycles.{SpaceSizes, is_refused}
use Rattle.reference_machine.specs.States.{Contents, Instance, Array, HeapObject, State}
use Rattle.reference_machine.specs.Steps.{Answers, step}

-- the words of an object's cell: three, and one a field or element, the hidden field of a Cilvm.Thread counted
abbrev pub cell_words : Tree → Contents → ℕ
cell_words tree (Instance c fields) = 3 + (if is_thread_class tree c then 1 else 0) + length fields
cell_words tree (Array t elements) = 3 + length elements

-- those of all objects that were born
abbrev pub words_of_all : Tree → List HeapObject → ℕ
words_of_all tree objects = sum_by (λ (o : HeapObject). cell_words tree o.contents) objects

-- The one space of a machine that collects nothing: it has the words of the limit, and those of all births so far are used. (A machine with
-- two spaces has its own in place of this.)
abbrev pub spaces : Tree → Limits → State → SpaceSizes
spaces tree limits s = record { old = record { words = limits.words; used = words_of_all tree s.objects }; newer = None }

-- A step of the thread makes an object, unless that is refused, and its cell exceeds the room.
pub record ExceedsRoom (tree : Tree) (limits : Limits) (s : State) (t : ℕ) : Type 0 where
  pub report : Report
  pub after : State
  pub object : HeapObject
  pub without_refusal : step tree limits s t false ≡ Answers report after
  pub is_born : after.objects ≡ s.objects ++ object ∷ []
  pub exceeds : IsTrue (is_refused (spaces tree limits s) Idle (cell_words tree object.contents))

-- From a state on, each step of a list, of a thread and with whether its birth is refused, is refused exactly where it exceeds the room.
abbrev pub RefusesBeyondRoom : Tree → Limits → State → List (ℕ × Bool) → Type 0
RefusesBeyondRoom tree limits s [] = Unit {0}
RefusesBeyondRoom tree limits s (t ∷ ts) =
    (IsTrue t.1 ↔ ExceedsRoom tree limits s t.0)
    × ((report : Report) (after : State) → step tree limits s t.0 t.1 ≡ Answers report after → RefusesBeyondRoom tree limits after ts)
