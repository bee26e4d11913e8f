-- What the flip of a stress run is, and what a seat owns in it (this profile).
use Rattle.std.specs.Prelude.{◌≡◌, ℕ, ◌*◌, ◌%◌, ◌<◌, length, count_by, nat_eq, slice_index}
use Rattle.flip_stress.specs.declared.sizes.Sizes.{Sizes}
use Rattle.word_flip.specs.Tokens.{CopierValue, FlipValue, WriterValue}

-- how many slots all objects have together
abbrev pub slot_count : Sizes → ℕ
slot_count sizes = sizes.objects * sizes.slots

-- The flip has these sizes, and the slot at index p is written by the seat p modulo the number of seats.
pub record IsFlipOf (sizes : Sizes) (flip : FlipValue) : Type 0 where
  pub objects_are : flip.objects ≡ sizes.objects
  pub slots_are : flip.slots ≡ sizes.slots
  pub seats_are : flip.plan.seats ≡ sizes.seats
  pub positions_are : length flip.plan.owners ≡ slot_count sizes
  pub dealt : (index : ℕ) → index < slot_count sizes → slice_index flip.plan.owners index ≡ index % sizes.seats

-- how many slots a writer has of its own
abbrev pub own_count : WriterValue → ℕ
own_count writer = count_by (nat_eq writer.seat) writer.plan.owners

-- It is still the same seat's writer, of the same flip.
abbrev pub IsSameSeat : WriterValue → WriterValue → Type 0
IsSameSeat before after = (after.table ≡ before.table) × (after.plan ≡ before.plan) × (after.seat ≡ before.seat)

-- It is still the copier of the same flip.
abbrev pub IsSameCopier : CopierValue → CopierValue → Type 0
IsSameCopier before after = (after.table ≡ before.table) × (after.plan ≡ before.plan)
