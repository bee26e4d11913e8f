-- Which cell lies where after a store: each copy that it reaches shows the word, a new one the forward of a reference where there is one; each
-- other one stays as it was but for its mark.
use Rattle.std.proofs.Common.{◌≡◌, ◌≢◌, ◌⊎◌, inl, inr, ℕ, Bool, true, false, List, refl, sym, ap, ◌∙◌, subst}
use Rattle.std.specs.Prelude.{not, if◌then◌else◌, Option, Some, None}
use Rattle.std.proofs.lemmas.Option.{same_Some}
use Rattle.cil_model.specs.declared.phases.Phase.{Phase}
use Rattle.cil_model.specs.declared.phases.Phase.TheVariants.{Mark}
use Rattle.cil_model.specs.declared.trees.Tree.{Tree}
use Rattle.object_memory.specs.declared.addresses.Addr.{Addr}
use Rattle.object_memory.specs.declared.values.Value.{Value}
use Rattle.object_memory.specs.Cells.{Cell}
use Rattle.object_memory.specs.Spaces.{Spaces, cell_at, change_copies, is_old, other_of}
use Rattle.object_memory.specs.Objects.{Objects, object_cell}
use Rattle.object_memory.proofs.TwoSpaces.TwoBlocks.{change-other, change-own}
use Rattle.object_memory.proofs.TwoSpaces.TwoCopies.{change_copies-alone, change_copies-else, change_copies-other, change_copies-own}
use Rattle.barriers.specs.Barriers.{stored_static}
use Rattle.collector.specs.Soundness.{IsSoundHeap}
use Rattle.collector.specs.declared.progress.Progress.{Progress}
use Rattle.collector.proofs.Addresses.TagChanges.{KeepsTags, keeps_size}
use Rattle.collector.proofs.HeapStores.ReachedCopies.{changed_by}
use Rattle.collector.proofs.ThreadReferences.StorableValues.{other_lies}
use Rattle.collector.proofs.Marks.MarkedHeaps.{with_marked-literals}

-- ---- what a store reaches

-- the copy at its address, and the other one where it changes both
abbrev pub IsReached : (both : Bool) → Objects → (a x : Addr) → Type 0
IsReached both o a x = (a ≡ x) ⊎ ((both ≡ true) × (other_of (object_cell o a) ≡ Some x))

-- how the copy at an address is changed
abbrev pub change_for : Bool → (f g : Cell → Cell) → Objects → Addr → Cell → Cell
change_for both f g o x c = if both then (if is_old o.spaces x then f c else g c) else f c

different : (a x : Addr) → (a ≡ x → ⊥) → a.number ≢ x.number
different a x ne same = ne (ap (λ (k : ℕ). record { number = k }) same)

module _ (tree : Tree) (posted_phase : Phase) (has_round : Bool) (words : ℕ) (p : Progress) (o : Objects) (sound : IsSoundHeap tree posted_phase has_round words p o.spaces) (a : Addr) (c : Cell) (lies : object_cell o a ≡ Some c) where
  abbrev m : Spaces
  m = o.spaces

  module _ (f g : Cell → Cell) (keeps : KeepsTags f) (keeps' : KeepsTags g) where
    copies_own : cell_at (change_copies f g m a) a ≡ Some (f c)
    copies_own = by_other c.other refl
      where
        by_other : (r : Option Addr) → c.other ≡ r → cell_at (change_copies f g m a) a ≡ Some (f c)
        by_other None no_copy = ap (λ n. cell_at n a) (change_copies-alone f g (keeps_size f keeps) (keeps_size g keeps') m a c lies no_copy) ∙ change-own f m a c lies
        by_other (Some b) other =
            let u = other_lies tree posted_phase has_round words p o sound a c lies b other in
            change_copies-own f g (keeps_size f keeps) (keeps_size g keeps') m a b c u.0 lies other u.1.lies u.1.apart

    copies_other : (b : Addr) (d : Cell) → c.other ≡ Some b → object_cell o b ≡ Some d → cell_at (change_copies f g m a) b ≡ Some (g d)
    copies_other b d other there =
        let u = other_lies tree posted_phase has_round words p o sound a c lies b other in
        change_copies-other f g (keeps_size f keeps) (keeps_size g keeps') m a b c d lies other there u.1.apart

    copies_else : (x : Addr) → (a ≡ x → ⊥) → (c.other ≡ Some x → ⊥) → cell_at (change_copies f g m a) x ≡ cell_at m x
    copies_else x apart beside = by_other c.other refl
      where
        by_other : (r : Option Addr) → c.other ≡ r → cell_at (change_copies f g m a) x ≡ cell_at m x
        by_other None no_copy = ap (λ n. cell_at n x) (change_copies-alone f g (keeps_size f keeps) (keeps_size g keeps') m a c lies no_copy) ∙ change-other f (keeps_size f keeps) m a x (different a x apart)
        by_other (Some b) other =
            let u = other_lies tree posted_phase has_round words p o sound a c lies b other in
            change_copies-else f g (keeps_size f keeps) (keeps_size g keeps') m a b c u.0 lies other u.1.lies u.1.apart x (different a x apart) (different b x (λ same. beside (other ∙ ap Some same)))

  module _ (f g : Cell → Cell) (keeps : KeepsTags f) (keeps' : KeepsTags g) where
    -- through the old copy, or the new one

    own_by_age : (t : Bool) → cell_at (if t then change_copies f g m a else change_copies g f m a) a ≡ Some (if t then f c else g c)
    own_by_age true = copies_own f g keeps keeps'
    own_by_age false = copies_own g f keeps' keeps

    other_by_age : (t : Bool) (b : Addr) (d : Cell) → c.other ≡ Some b → object_cell o b ≡ Some d → cell_at (if t then change_copies f g m a else change_copies g f m a) b ≡ Some (if not t then f d else g d)
    other_by_age true b d other there = copies_other f g keeps keeps' b d other there
    other_by_age false b d other there = copies_other g f keeps' keeps b d other there

    else_by_age : (t : Bool) (x : Addr) → (a ≡ x → ⊥) → (c.other ≡ Some x → ⊥) → cell_at (if t then change_copies f g m a else change_copies g f m a) x ≡ cell_at m x
    else_by_age true x apart beside = copies_else f g keeps keeps' x apart beside
    else_by_age false x apart beside = copies_else g f keeps' keeps x apart beside

    own_changes : (both : Bool) → object_cell (changed_by both f g o a) a ≡ Some (change_for both f g o a c)
    own_changes true = own_by_age (is_old m a)
    own_changes false = change-own f m a c lies

    other_changes : (b : Addr) (d : Cell) → c.other ≡ Some b → object_cell o b ≡ Some d → object_cell (changed_by true f g o a) b ≡ Some (change_for true f g o b d)
    other_changes b d other there =
        let u = other_lies tree posted_phase has_round words p o sound a c lies b other in
        other_by_age (is_old m a) b d other there ∙ ap (λ t. Some (if t then f d else g d)) (sym u.1.age)

    -- each copy that is reached is changed
    pub reached_changes : (both : Bool) (x : Addr) (d : Cell) → IsReached both o a x → object_cell o x ≡ Some d → object_cell (changed_by both f g o a) x ≡ Some (change_for both f g o x d)
    reached_changes both x d (inl same) there =
        let cells : c ≡ d = same_Some c d (sym lies ∙ ap (object_cell o) same ∙ there) in
        subst (λ (y : Addr). object_cell (changed_by both f g o a) y ≡ Some (change_for both f g o y d)) same (own_changes both ∙ ap (λ (z : Cell). Some (change_for both f g o a z)) cells)
    reached_changes both x d (inr other) there =
        subst (λ t. object_cell (changed_by t f g o a) x ≡ Some (change_for t f g o x d)) (sym other.0) (other_changes x d (sym (ap other_of lies) ∙ other.1) there)

    -- each other object stays
    pub unreached_stays : (both : Bool) (x : Addr) → (IsReached both o a x → ⊥) → object_cell (changed_by both f g o a) x ≡ object_cell o x
    unreached_stays true x unreached = else_by_age (is_old m a) x (λ same. unreached (inl same)) (λ other. unreached (inr (refl, ap other_of lies ∙ other)))
    unreached_stays false x unreached = change-other f (keeps_size f keeps) m a x (different a x (λ same. unreached (inl same)))

-- ---- literals

-- a store to a static field changes no monitor of a literal
pub static_literals : (own : Phase) (o : Objects) (statics : List Value) (number : ℕ) (v : Value) → (stored_static own o statics number v).0.literals ≡ o.literals
static_literals Mark o statics number v = with_marked-literals o v
static_literals _ o statics number v = refl
