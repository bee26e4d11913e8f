-- Births by their space: what lies where afterwards, and that there is room for what may be born later.
use Rattle.std.proofs.Common.{◌≡◌, ◌≢◌, ◌⊎◌, inl, inr, ℕ, ◌+◌, ◌-◌, ◌<◌, ◌≤◌, Bool, true, false, refl, sym, ap, subst, ◌∙◌, arith}
use Rattle.std.specs.Prelude.{nat_le, nat_lt, replicate, if◌then◌else◌, Option, Some, None, IfSome}
use Rattle.std.proofs.lemmas.Bool.Decides.{nat_tests}
use Rattle.std.proofs.lemmas.Option.{same_Some}
use Rattle.object_memory.specs.declared.addresses.Addr.{Addr}
use Rattle.object_memory.specs.declared.addresses.TheConstants.{FIRST_LITERAL}
use Rattle.object_memory.specs.declared.kinds.Kind.{Kind}
use Rattle.object_memory.specs.Cells.{Cell, Cells, size, used_words, free_words, next_address, literal_number, cell_in, empty_cell}
use Rattle.object_memory.specs.Spaces.{Spaces, IsSpace, AreSpaces, cell_at, forward, with_old, BirthSpace, InOld, Listed, InBoth, InNew, room_at, address_at, give_birth, birth_at, HasShellRoom, HasGreyRoom}
use Rattle.object_memory.proofs.Blocks.{kept_in, was_in, last_in}
use Rattle.object_memory.proofs.TwoSpaces.TwoBlocks.{either, AreSpaces-with_old, AreSpaces-with_new, old_is_cell, new_is_cell}
use Rattle.object_memory.proofs.Rooms.{size-empty, HasShellRoom-with_old, HasShellRoom-with_both, HasGreyRoom-listed, HasGreyRoom-born}

-- the cell in the old block, or in the new one, that a birth makes
abbrev pub old_part : BirthSpace → Spaces → Kind → ℕ → Option Cell
old_part InOld m k n = Some (empty_cell k n false None)
old_part Listed m k n = Some (empty_cell k n true None)
old_part InBoth m k n = Some (empty_cell k n true (Some (next_address m.new)))
old_part InNew m k n = None

abbrev pub new_part : BirthSpace → Spaces → Kind → ℕ → Option Cell
new_part InOld m k n = None
new_part Listed m k n = None
new_part InBoth m k n = Some (empty_cell k n true (Some (next_address m.old)))
new_part InNew m k n = Some (empty_cell k n false None)

module _ (m : Spaces) (h : AreSpaces m) (k : Kind) (n : ℕ) where
  fits : (s : Cells) (b : Bool) (o : Option Addr) → 3 + n ≤ free_words s → size (empty_cell k n b o) ≤ free_words s
  fits s b o room = omega (arith, size-empty k n b o, room)

  pub AreSpaces-born : (p : BirthSpace) → 3 + n ≤ room_at p m → AreSpaces (give_birth p m k n)
  AreSpaces-born InOld room = AreSpaces-with_old m (empty_cell k n false None) h (fits m.old false None room)
  AreSpaces-born Listed room =
      let g = AreSpaces-with_old m (empty_cell k n true None) h (fits m.old true None room) in
      record { old = g.old; new = g.new; apart = g.apart }
  AreSpaces-born InBoth room =
      let b = Some (next_address m.new) in
      let a = Some (next_address m.old) in
      AreSpaces-with_new (with_old m (empty_cell k n true b)) (empty_cell k n true a)
      (AreSpaces-with_old m (empty_cell k n true b) h (fits m.old true b (omega (arith, room))))
      (fits m.new true a (omega (arith, room)))
  AreSpaces-born InNew room = AreSpaces-with_new m (empty_cell k n false None) h (fits m.new false None room)

  -- all cells of before stay, each in its block
  pub born-kept_old : (p : BirthSpace) (a : Addr) (c : Cell) → cell_in m.old a ≡ Some c → cell_in (give_birth p m k n).old a ≡ Some c
  born-kept_old InOld a c e = kept_in m.old (empty_cell k n false None) a c e
  born-kept_old Listed a c e = kept_in m.old (empty_cell k n true None) a c e
  born-kept_old InBoth a c e = kept_in m.old (empty_cell k n true (Some (next_address m.new))) a c e
  born-kept_old InNew a c e = e

  pub born-kept_new : (p : BirthSpace) (a : Addr) (c : Cell) → cell_in m.new a ≡ Some c → cell_in (give_birth p m k n).new a ≡ Some c
  born-kept_new InOld a c e = e
  born-kept_new Listed a c e = e
  born-kept_new InBoth a c e = kept_in m.new (empty_cell k n true (Some (next_address m.old))) a c e
  born-kept_new InNew a c e = kept_in m.new (empty_cell k n false None) a c e

  pub born-kept : (p : BirthSpace) → 3 + n ≤ room_at p m → (a : Addr) (c : Cell) → cell_at m a ≡ Some c → cell_at (give_birth p m k n) a ≡ Some c
  born-kept p room a c e = elim (either m a c e) [
    | inl old ↦ old_is_cell (give_birth p m k n) a c (born-kept_old p a c old)
    | inr new ↦ new_is_cell (give_birth p m k n) (AreSpaces-born p room) a c (born-kept_new p a c new)
  ]

  -- and no other cells come but the parts of what is born
  pub born-was_old : (p : BirthSpace) (a : Addr) (d : Cell) → cell_in (give_birth p m k n).old a ≡ Some d
      → (cell_in m.old a ≡ Some d) ⊎ ((a.number ≡ (next_address m.old).number) × (old_part p m k n ≡ Some d))
  born-was_old InOld a d e = elim (was_in m.old (empty_cell k n false None) a d e) [ inl was ↦ inl was | inr here ↦ inr (here.0, ap Some (sym here.1)) ]
  born-was_old Listed a d e = elim (was_in m.old (empty_cell k n true None) a d e) [ inl was ↦ inl was | inr here ↦ inr (here.0, ap Some (sym here.1)) ]
  born-was_old InBoth a d e = elim (was_in m.old (empty_cell k n true (Some (next_address m.new))) a d e) [ inl was ↦ inl was | inr here ↦ inr (here.0, ap Some (sym here.1)) ]
  born-was_old InNew a d e = inl e

  pub born-was_new : (p : BirthSpace) (a : Addr) (d : Cell) → cell_in (give_birth p m k n).new a ≡ Some d
      → (cell_in m.new a ≡ Some d) ⊎ ((a.number ≡ (next_address m.new).number) × (new_part p m k n ≡ Some d))
  born-was_new InOld a d e = inl e
  born-was_new Listed a d e = inl e
  born-was_new InBoth a d e = elim (was_in m.new (empty_cell k n true (Some (next_address m.old))) a d e) [ inl was ↦ inl was | inr here ↦ inr (here.0, ap Some (sym here.1)) ]
  born-was_new InNew a d e = elim (was_in m.new (empty_cell k n false None) a d e) [ inl was ↦ inl was | inr here ↦ inr (here.0, ap Some (sym here.1)) ]

  -- the parts lie at the ends
  pub born-old_last : (p : BirthSpace) (c : Cell) → old_part p m k n ≡ Some c → cell_in (give_birth p m k n).old (next_address m.old) ≡ Some c
  born-old_last InOld c e = last_in m.old (empty_cell k n false None) ∙ e
  born-old_last Listed c e = last_in m.old (empty_cell k n true None) ∙ e
  born-old_last InBoth c e = last_in m.old (empty_cell k n true (Some (next_address m.new))) ∙ e
  born-old_last InNew c e = absurd cc

  pub born-new_last : (p : BirthSpace) (c : Cell) → new_part p m k n ≡ Some c → cell_in (give_birth p m k n).new (next_address m.new) ≡ Some c
  born-new_last InOld c e = absurd cc
  born-new_last Listed c e = absurd cc
  born-new_last InBoth c e = last_in m.new (empty_cell k n true (Some (next_address m.old))) ∙ e
  born-new_last InNew c e = last_in m.new (empty_cell k n false None) ∙ e

  -- forwards of what was there stay
  forward_stays : (p : BirthSpace) (a : Addr) (o o' : Option Cell) → cell_in m.old a ≡ o → cell_in (give_birth p m k n).old a ≡ o' → a.number ≢ (next_address m.old).number
      → forward (give_birth p m k n) a ≡ forward m a
  forward_stays p a (Some c) o' e e' ne = rw (born-kept_old p a c e, e) refl
  forward_stays p a None None e e' ne = rw (e', e) refl
  forward_stays p a None (Some d) e e' ne = elim (born-was_old p a d e') [
    | inl was ↦ absurd (let both : None ≡ Some d = sym e ∙ was in cc)
    | inr here ↦ elim (ne here.0) [ ]
  ]

  pub forward-born : (p : BirthSpace) (a : Addr) → a.number ≢ (next_address m.old).number → forward (give_birth p m k n) a ≡ forward m a
  forward-born p a ne = forward_stays p a (cell_in m.old a) (cell_in (give_birth p m k n).old a) refl refl ne

  -- ---- room

  -- a birth in the new block alone takes room from the copies: it comes only when all are made
  pub HasShellRoom-born : (p : BirthSpace) → p ≢ InNew → HasShellRoom m → HasShellRoom (give_birth p m k n)
  HasShellRoom-born InOld ne room = HasShellRoom-with_old m h room (empty_cell k n false None)
  HasShellRoom-born Listed ne room =
      let r = HasShellRoom-with_old m h room (empty_cell k n true None) in
      record { words = r.words; long = r.long }
  HasShellRoom-born InBoth ne room =
      let b = next_address m.new in
      let a = next_address m.old in
      HasShellRoom-with_both m h room (empty_cell k n true (Some b)) (empty_cell k n true (Some a)) b refl refl
  HasShellRoom-born InNew ne room = elim (ne refl) [ ]

  -- how much of the list's room a birth takes
  abbrev pub listed : BirthSpace → ℕ
  listed InOld = 0
  listed Listed = 1
  listed InBoth = 0
  listed InNew = 0

  pub HasGreyRoom-at : (p : BirthSpace) (spare : ℕ) → 3 + n ≤ room_at p m → HasGreyRoom m.old spare → HasGreyRoom (give_birth p m k n).old (spare - listed p)
  HasGreyRoom-at InOld spare room g = omega (arith, HasGreyRoom-born m.old spare g (empty_cell k n false None) (fits m.old false None room))
  HasGreyRoom-at Listed spare room g = HasGreyRoom-listed m.old spare g (empty_cell k n true None) refl (fits m.old true None room)
  HasGreyRoom-at InBoth spare room g =
      let b = Some (next_address m.new) in
      omega (arith, HasGreyRoom-born m.old spare g (empty_cell k n true b) (fits m.old true b (omega (arith, room))))
  HasGreyRoom-at InNew spare room g = omega (arith, g)

  -- whatever was there is there after a birth, a refused one too, and a granted one keeps what a heap is
  abbrev pub outcome : BirthSpace → Bool → Spaces × Option Addr
  outcome p t = if t then (give_birth p m k n, Some (address_at p m)) else (m, None)

  kept_by : (p : BirthSpace) (t : Bool) → nat_le (3 + n) (room_at p m) ≡ t → (a : Addr) (c : Cell) → cell_at m a ≡ Some c
      → cell_at (outcome p t).0 a ≡ Some c
  kept_by p true test a c e = born-kept p (let room : 3 + n ≤ room_at p m = grind (arith, nat_tests) in room) a c e
  kept_by p false test a c e = e

  pub birth_at-kept : (p : BirthSpace) (a : Addr) (c : Cell) → cell_at m a ≡ Some c → cell_at (birth_at p m k n).0 a ≡ Some c
  birth_at-kept p a c e = kept_by p (nat_le (3 + n) (room_at p m)) refl a c e

  -- what is born has no literal's address
  offset_is : (s : Cells) → IsSpace s → 3 + n ≤ free_words s → literal_number (next_address s) ≡ None
  offset_is s space room =
      let low : s.start + used_words s.cells < FIRST_LITERAL = elim space.start [ inl start ↦ omega (arith, start, room, space.few) | inr start ↦ omega (arith, start, room, space.few) ] in
      let test : nat_lt (s.start + used_words s.cells) FIRST_LITERAL ≡ true = grind (arith, nat_tests) in
      rw test refl

  pub born-no_literal : (p : BirthSpace) → 3 + n ≤ room_at p m → literal_number (address_at p m) ≡ None
  born-no_literal InOld room = offset_is m.old h.old room
  born-no_literal Listed room = offset_is m.old h.old room
  born-no_literal InBoth room = offset_is m.old h.old (omega (arith, room))
  born-no_literal InNew room = offset_is m.new h.new room

  no_literal_by : (p : BirthSpace) (t : Bool) → nat_le (3 + n) (room_at p m) ≡ t → IfSome (outcome p t).1 (λ a. literal_number a ≡ None)
  no_literal_by p true test = born-no_literal p (grind (arith, nat_tests))
  no_literal_by p false test = tt

  pub birth_at-no_literal : (p : BirthSpace) → IfSome (birth_at p m k n).1 (λ a. literal_number a ≡ None)
  birth_at-no_literal p = no_literal_by p (nat_le (3 + n) (room_at p m)) refl

  -- the address is that of what is born
  here_is : (p : BirthSpace) → 3 + n ≤ room_at p m → (c : Cell) × (cell_at (give_birth p m k n) (address_at p m) ≡ Some c) × (c.kind ≡ k) × (c.slots ≡ replicate n 0)
  here_is InOld room = (empty_cell k n false None, old_is_cell (give_birth InOld m k n) (next_address m.old) (empty_cell k n false None) (born-old_last InOld (empty_cell k n false None) refl), refl, refl)
  here_is Listed room = (empty_cell k n true None, old_is_cell (give_birth Listed m k n) (next_address m.old) (empty_cell k n true None) (born-old_last Listed (empty_cell k n true None) refl), refl, refl)
  here_is InBoth room =
      let c = empty_cell k n true (Some (next_address m.new)) in
      (c, old_is_cell (give_birth InBoth m k n) (next_address m.old) c (born-old_last InBoth c refl), refl, refl)
  here_is InNew room =
      let c = empty_cell k n false None in
      (c, new_is_cell (give_birth InNew m k n) (AreSpaces-born InNew room) (next_address m.new) c (born-new_last InNew c refl), refl, refl)

  here_by : (p : BirthSpace) (t : Bool) → nat_le (3 + n) (room_at p m) ≡ t → (a : Addr) → (outcome p t).1 ≡ Some a
      → (c : Cell) × (cell_at (outcome p t).0 a ≡ Some c) × (c.kind ≡ k) × (c.slots ≡ replicate n 0)
  here_by p true test a e =
      subst (λ (x : Addr). (c : Cell) × (cell_at (give_birth p m k n) x ≡ Some c) × (c.kind ≡ k) × (c.slots ≡ replicate n 0)) (same_Some (address_at p m) a e)
      (here_is p (grind (arith, nat_tests)))
  here_by p false test a e = absurd cc

  pub birth_at-here : (p : BirthSpace) (a : Addr) → (birth_at p m k n).1 ≡ Some a → (c : Cell) × (cell_at (birth_at p m k n).0 a ≡ Some c) × (c.kind ≡ k) × (c.slots ≡ replicate n 0)
  birth_at-here p a e = here_by p (nat_le (3 + n) (room_at p m)) refl a e

  shell_room_by : (p : BirthSpace) (t : Bool) → p ≢ InNew → HasShellRoom m → HasShellRoom (outcome p t).0
  shell_room_by p true ne room = HasShellRoom-born p ne room
  shell_room_by p false ne room = room

  pub HasShellRoom-birth_at : (p : BirthSpace) → p ≢ InNew → HasShellRoom m → HasShellRoom (birth_at p m k n).0
  HasShellRoom-birth_at p ne room = shell_room_by p (nat_le (3 + n) (room_at p m)) ne room
