-- The writers of a new flip.
use Rattle.std.proofs.Common.{◌≡◌, ℕ, zero, suc, ◌+◌, ◌<◌, ◌≤◌, All, Option, None, List, [], ◌∷◌, map, length, replicate, refl, ap, arith}
use Rattle.std.proofs.lemmas.List.{length-replicate}
use Rattle.std.proofs.lemmas.List.Elements.{All-map}
use Rattle.std.specs.List.{range_with_len}
use Rattle.atomic_table.specs.Seated.{TableId}
use Rattle.flip_table.specs.Tokens as Table
use Rattle.flip_table.specs.declared.slot_table.PlanView.{PlanView}
use Rattle.word_flip.specs.Objects.{object_of}
use Rattle.word_flip.specs.Tokens.{writer_value, initial_writer, initial_writers}

map_twice : {X Y Z : Type 0} (g : Y → Z) (f : X → Y) (h : X → Z) → ((x : X) → g (f x) ≡ h x) → (xs : List X) → map g (map f xs) ≡ map h xs
map_twice g f h same [] = refl
map_twice g f h same (x ∷ xs) = λ k. same x k ∷ map_twice g f h same xs k

nulls : (count : ℕ) → map object_of (replicate {A = ℕ} count 0) ≡ replicate count None
nulls zero = refl
nulls (suc count) = λ k. None ∷ nulls count k

pub opened : (table : TableId) (plan : PlanView) → map writer_value (Table.initial_writers table plan) ≡ initial_writers table plan
opened table plan = map_twice writer_value (Table.initial_seat table plan) (initial_writer table plan)
    (λ seat. ap (λ (written : List (Option ℕ)). record { table = table; plan = plan; seat = seat; stage = 0; polled = 0; polls = 0; loads = 0; loaded_word = 0; loaded = None; stores = 0; written = written }) (nulls (length plan.owners))) (range_with_len 0 plan.seats)

pub opened_idle : (table : TableId) (plan : PlanView) → All (λ token. (token.knows.pending ≡ None) × (length token.knows.written ≡ length token.knows.plan.owners)) (Table.initial_writers table plan)
opened_idle table plan = All-map (λ (token : Table.WriterValue). (token.knows.pending ≡ None) × (length token.knows.written ≡ length token.knows.plan.owners)) (Table.initial_seat table plan) (range_with_len 0 plan.seats)
    (λ k d l. (refl, length-replicate {A = ℕ} (length plan.owners) 0))

-- the limit of words is one above the number of objects
pub limit_within : (objects : ℕ) → objects ≤ 256 → (0 < objects + 1) × (objects + 1 ≤ 65536)
limit_within objects few = (omega arith, omega arith)

pub first_stage : 0 ≤ 2
first_stage = omega arith
