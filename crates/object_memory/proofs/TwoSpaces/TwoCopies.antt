-- Marks, shells, stores to both copies, and the clearing of marks and copies.
use Rattle.std.proofs.Common.{◌≡◌, ◌≢◌, ◌⊎◌, Bool, true, false, refl, sym, ap, subst, ◌∙◌}
use Rattle.std.specs.Prelude.{Some, None}
use Rattle.object_memory.specs.declared.addresses.Addr.{Addr}
use Rattle.object_memory.specs.Cells.{Cell, size, next_address, cell_in, with_last}
use Rattle.object_memory.specs.Spaces.{Spaces, AreSpaces, cell_at, change_at, with_new, with_shell, shell_of, set_mark, set_other, mark, marked_if, change_copies, HasShellRoom}
use Rattle.object_memory.proofs.Blocks.{kept_in, was_in, last_in, own_in, unchanged_in}
use Rattle.object_memory.proofs.TwoSpaces.TwoBlocks.{not_new, AreSpaces-with_new, AreSpaces-change, change-own, change-other}
use Rattle.object_memory.proofs.Rooms.{shell_fits}

-- ---- marks

module _ (m : Spaces) (h : AreSpaces m) (a : Addr) where
  -- one that was marked stays as it is, and so does everything other
  pub mark-black : (c : Cell) → cell_in m.old a ≡ Some c → c.marked ≡ true → mark m a ≡ (m, false)
  mark-black c e marked = rw (e, marked) refl

  pub mark-none : cell_in m.old a ≡ None → mark m a ≡ (m, false)
  mark-none e = rw e refl

  pub mark-white : (c : Cell) → cell_in m.old a ≡ Some c → c.marked ≡ false → mark m a ≡ (marked_if true m a, true)
  mark-white c e marked = rw (e, marked) refl

  -- an old cell is marked afterwards
  is_marked_by : (c : Cell) (b : Bool) → cell_in m.old a ≡ Some c → c.marked ≡ b → (d : Cell) × (cell_in (mark m a).0.old a ≡ Some d) × (d.marked ≡ true)
  is_marked_by c true e marked = (c, ap (λ (x : Spaces × Bool). cell_in x.0.old a) (mark-black c e marked) ∙ e, marked)
  is_marked_by c false e marked = (set_mark c, ap (λ (x : Spaces × Bool). cell_in x.0.old a) (mark-white c e marked) ∙ own_in set_mark m.old a c e, refl)

  pub mark_marks : (c : Cell) → cell_in m.old a ≡ Some c → (d : Cell) × (cell_in (mark m a).0.old a ≡ Some d) × (d.marked ≡ true)
  mark_marks c e = is_marked_by c c.marked e refl

-- ---- shells

module _ (m : Spaces) (h : AreSpaces m) (room : HasShellRoom m) (a : Addr) (c : Cell) (e : cell_in m.old a ≡ Some c) (bare : c.other ≡ None) where
  abbrev b : Addr
  b = next_address m.new

  abbrev wide : Spaces
  wide = with_new m (shell_of a c)

  are_wide : AreSpaces wide
  are_wide = AreSpaces-with_new m (shell_of a c) h (shell_fits m h room a c e bare)

  pub AreSpaces-shell : AreSpaces (with_shell m a c)
  AreSpaces-shell = AreSpaces-change (set_other b) (λ x. refl) wide a are_wide

  -- no new cell changes
  pub shell-new_block : (with_shell m a c).new ≡ with_last m.new (shell_of a c)
  shell-new_block = unchanged_in (set_other b) wide.new a (not_new wide are_wide a c e)

  pub shell-old : cell_in (with_shell m a c).old a ≡ Some (set_other b c)
  shell-old = own_in (set_other b) m.old a c e

  pub shell-new : cell_in (with_shell m a c).new b ≡ Some (shell_of a c)
  shell-new = subst (λ s. cell_in s b ≡ Some (shell_of a c)) (sym shell-new_block) (last_in m.new (shell_of a c))

  pub shell-kept_new : (x : Addr) (d : Cell) → cell_in m.new x ≡ Some d → cell_in (with_shell m a c).new x ≡ Some d
  shell-kept_new x d g = subst (λ s. cell_in s x ≡ Some d) (sym shell-new_block) (kept_in m.new (shell_of a c) x d g)

  pub shell-was_new : (x : Addr) (d : Cell) → cell_in (with_shell m a c).new x ≡ Some d → (cell_in m.new x ≡ Some d) ⊎ ((x.number ≡ b.number) × (d ≡ shell_of a c))
  shell-was_new x d g = was_in m.new (shell_of a c) x d (subst (λ s. cell_in s x ≡ Some d) shell-new_block g)

-- ---- stores to both copies

module _ (f g : Cell → Cell) (keeps : (c : Cell) → size (f c) ≡ size c) (keeps' : (c : Cell) → size (g c) ≡ size c) (m : Spaces) (a : Addr) where
  -- both copies are changed
  module _ (b : Addr) (c d : Cell) (one : cell_at m a ≡ Some c) (other : c.other ≡ Some b) (two : cell_at m b ≡ Some d) (ne : a.number ≢ b.number) where
    done : change_copies f g m a ≡ change_at g (change_at f m a) b
    done = rw (one, other) refl

    pub change_copies-own : cell_at (change_copies f g m a) a ≡ Some (f c)
    change_copies-own =
        ap (λ n. cell_at n a) done
        ∙ change-other g keeps' (change_at f m a) b a (λ e. ne (sym e))
        ∙ change-own f m a c one

    pub change_copies-other : cell_at (change_copies f g m a) b ≡ Some (g d)
    change_copies-other =
        ap (λ n. cell_at n b) done
        ∙ change-own g (change_at f m a) b d (change-other f keeps m a b ne ∙ two)

    pub change_copies-else : (x : Addr) → a.number ≢ x.number → b.number ≢ x.number → cell_at (change_copies f g m a) x ≡ cell_at m x
    change_copies-else x na nb =
        ap (λ n. cell_at n x) done
        ∙ change-other g keeps' (change_at f m a) b x nb
        ∙ change-other f keeps m a x na

  -- the only one is
  module _ (c : Cell) (one : cell_at m a ≡ Some c) (bare : c.other ≡ None) where
    pub change_copies-alone : change_copies f g m a ≡ change_at f m a
    change_copies-alone = rw (one, bare) refl
