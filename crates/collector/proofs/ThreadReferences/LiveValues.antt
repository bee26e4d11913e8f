-- What a thread may hold is live, and lies in the heap; and which values may be stored in which slots.
use Rattle.std.proofs.Common.{◌≡◌, ◌⊎◌, inl, inr, ℕ, ◌<◌, Bool, true, false, refl, sym, ap, ◌∙◌, subst, arith}
use Rattle.std.specs.Prelude.{◌==◌, ◌||◌, ◌&&◌, not, if◌then◌else◌, is_some, Option, Some, None}
use Rattle.cil_model.specs.declared.phases.Phase.{Phase}
use Rattle.cil_model.specs.declared.trees.Tree.{Tree}
use Rattle.object_memory.specs.declared.addresses.Addr.{Addr}
use Rattle.object_memory.specs.declared.addresses.TheConstants.{ADDRESSES}
use Rattle.object_memory.specs.declared.kinds.Kind.{Kind}
use Rattle.object_memory.specs.declared.values.Value.{Value}
use Rattle.object_memory.specs.declared.values.Value.TheVariants.{Int32, Int64, Native, Ref}
use Rattle.object_memory.specs.Cells.{Cell, cell_in, literal_number}
use Rattle.object_memory.specs.Spaces.{Spaces, cell_at, first_of, is_there}
use Rattle.object_memory.specs.Objects.{Objects, object_cell}
use Rattle.object_memory.specs.Values.{value_word}
use Rattle.barriers.specs.Barriers.{is_value_in_heap}
use Rattle.phase_handshake.specs.Handshakes.{Handshakes}
use Rattle.phase_handshake.specs.declared.posts.Seat.{Seat}
use Rattle.collector.specs.References.{Test, ValuePasses, holds_reference, reference_in}
use Rattle.collector.specs.Phases.{is_live, is_new_address}
use Rattle.collector.specs.Holds.{AnyLive, Hold, MarkedOnly, NewOnly, hold_of, is_flipping, is_marking, may_hold, passes}
use Rattle.collector.proofs.Addresses.Disjunctions.{or_of_three}
use Rattle.collector.proofs.Marks.MarksOfStores.{Grows, passes_then}
use Rattle.cil_model.proofs.SameLaws.{never}
use Rattle.collector.proofs.Addresses.Tests.{flipping_is_late, marked_is_live, marking_is_mark, new_is_live}
use Rattle.collector.proofs.Addresses.GrowingBlocks.{in_new, in_old, live_lies, permanent}
use Rattle.std.proofs.lemmas.Bool.{or_right}

-- ---- threads

-- what a thread may hold, by what it has acknowledged and what is posted: nothing old from its own flip on, else whatever is live
abbrev pub held_by : (own posted_phase : Phase) → Hold
held_by own posted_phase = if is_flipping own && is_flipping posted_phase then NewOnly else AnyLive

-- what is held is live
pub held_is_live : (own posted_phase : Phase) (m : Spaces) (a : Addr) → passes (held_by own posted_phase) posted_phase m a ≡ true → is_live posted_phase m a ≡ true
held_is_live own posted_phase m a held = by_tests (is_flipping own) (is_flipping posted_phase) refl held
  where
    by_tests : (s t : Bool) → is_flipping posted_phase ≡ t → passes (if s && t then NewOnly else AnyLive) posted_phase m a ≡ true → is_live posted_phase m a ≡ true
    by_tests true true flipping h = new_is_live posted_phase m a (flipping_is_late posted_phase flipping) h
    by_tests _ _ flipping h = h

-- from its own flip on a thread holds what is new
pub held_is_new : (own posted_phase : Phase) (m : Spaces) (a : Addr) → is_flipping own ≡ true → is_flipping posted_phase ≡ true → passes (held_by own posted_phase) posted_phase m a ≡ true → is_new_address m a ≡ true
held_is_new own posted_phase m a flipping flipping' held =
    let both : (is_flipping own && is_flipping posted_phase) ≡ true = rw (flipping, flipping') refl in
    subst (λ t. passes (if t then NewOnly else AnyLive) posted_phase m a ≡ true) both held

-- a thread that answered a round holds less
pub may_hold_is_held : (h : Handshakes) (m : Spaces) (seat : Seat) (a : Addr) → may_hold h m seat a ≡ true → passes (held_by seat.phase h.posted_phase) h.posted_phase m a ≡ true
may_hold_is_held h m seat a held = by_tests (is_flipping seat.phase && is_flipping h.posted_phase) (is_marking h.posted_phase) refl (h.has_round && (seat.answered && not m.has_marked)) held
  where
    by_tests : (s t : Bool) → is_marking h.posted_phase ≡ t → (u : Bool) → passes (if s then NewOnly else if t && u then MarkedOnly else AnyLive) h.posted_phase m a ≡ true → passes (if s then NewOnly else AnyLive) h.posted_phase m a ≡ true
    by_tests false true marking true e = subst (λ q. is_live q m a ≡ true) (sym (marking_is_mark h.posted_phase marking)) (marked_is_live m a e)
    by_tests _ _ marking _ e = e

-- what a thread may hold it may hold still
pub may_hold_then : (h : Handshakes) (m n : Spaces) (seat : Seat) (a : Addr) → Grows m n → may_hold h m seat a ≡ true → may_hold h n seat a ≡ true
may_hold_then h m n seat a grows held = elim grows.has_marked [
  | inl same ↦ subst (λ t. passes (hold_of h t seat) h.posted_phase n a ≡ true) (sym same) (passes_then m n grows (hold_of h m.has_marked seat) h.posted_phase a held)
  | inr some ↦ subst (λ t. passes (hold_of h t seat) h.posted_phase n a ≡ true) (sym some) (subst (λ (hold : Hold). passes hold h.posted_phase n a ≡ true) (sym wide) (passes_then m n grows (held_by seat.phase h.posted_phase) h.posted_phase a (may_hold_is_held h m seat a held)))
]
  where
    by_tests : (s t u w : Bool) → (if s then NewOnly else if t && (u && (w && false)) then MarkedOnly else AnyLive) ≡ (if s then NewOnly else AnyLive)
    by_tests true t u w = refl
    by_tests false false u w = refl
    by_tests false true false w = refl
    by_tests false true true false = refl
    by_tests false true true true = refl

    -- once something was marked no round binds
    wide : hold_of h true seat ≡ held_by seat.phase h.posted_phase
    wide = by_tests (is_flipping seat.phase && is_flipping h.posted_phase) (is_marking h.posted_phase) h.has_round seat.answered

-- ---- values

-- a reference of no more bits than addresses have, or an integer
abbrev pub IsShort : Value → Type 0
IsShort (Ref a) = a.number < ADDRESSES
IsShort (Int32 n) = Unit {0}
IsShort (Int64 n) = Unit {0}
IsShort (Native n) = Unit {0}

abbrev pub is_reference : Value → Bool
is_reference (Ref a) = true
is_reference (Int32 n) = false
is_reference (Int64 n) = false
is_reference (Native n) = false

below_itself : (n : ℕ) → n < ADDRESSES → reference_in n ≡ record { number = n }
below_itself n short = ap (λ (k : ℕ). record { number = k }) (omega (arith, short))

-- the reference that its word holds
pub reference_again : (a : Addr) → a.number < ADDRESSES → reference_in a.number ≡ a
reference_again a short = below_itself a.number short

-- a value that passes, in a slot of references exactly where it is one
pub passes_in_slot : (tree : Tree) (test : Test) (kind : Kind) (slot : ℕ) (v : Value) → IsShort v → is_reference v ≡ holds_reference tree kind slot → ValuePasses test v → holds_reference tree kind slot ≡ true → test (reference_in (value_word v)) ≡ true
passes_in_slot tree test kind slot (Ref a) short same passing link = subst (λ x. test x ≡ true) (sym (reference_again a short)) passing
passes_in_slot tree test kind slot _ short same passing link = never (same ∙ link)

-- ---- what is live is there

there_by : (m : Spaces) (a : Addr) → (is_some (cell_in m.old a) ≡ true) ⊎ (is_some (cell_in m.new a) ≡ true) → is_some (cell_at m a) ≡ true
there_by m a = by_cells (cell_in m.old a) (cell_in m.new a)
  where
    by_cells : (x y : Option Cell) → (is_some x ≡ true) ⊎ (is_some y ≡ true) → is_some (first_of x y) ≡ true
    by_cells (Some c) y e = refl
    by_cells None y (inl e) = never e
    by_cells None y (inr e) = e

-- what is live is null, a literal, or an object of the heap
pub live_is_there : (posted_phase : Phase) (o : Objects) (a : Addr) → is_live posted_phase o.spaces a ≡ true → is_there o.spaces a ≡ true
live_is_there posted_phase o a live = elim (live_lies o.spaces a posted_phase live) [
  | permanent null ↦ or_of_three (a.number == 0) (is_some (literal_number a)) (is_some (object_cell o a)) null
  | in_old c lies ↦ in_block (inl (ap is_some lies))
  | in_new c lies ↦ in_block (inr (ap is_some lies))
]
  where
    in_block : (is_some (cell_in o.spaces.old a) ≡ true) ⊎ (is_some (cell_in o.spaces.new a) ≡ true) → is_there o.spaces a ≡ true
    in_block there =
        or_right (a.number == 0) (is_some (literal_number a) || is_some (object_cell o a))
        (or_right (is_some (literal_number a)) (is_some (object_cell o a)) (there_by o.spaces a there))

-- and so is a value that is live, or an integer
pub live_value_is_there : (posted_phase : Phase) (o : Objects) (v : Value) → ValuePasses (is_live posted_phase o.spaces) v → is_value_in_heap o v ≡ true
live_value_is_there posted_phase o (Ref a) live = live_is_there posted_phase o a live
live_value_is_there posted_phase o _ live = refl
