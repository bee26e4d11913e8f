-- What the steps of Allocate and Copy leave as it is: all that is read through old addresses, and through new ones all but the word that is copied.
use Rattle.std.proofs.Common.{◌≡◌, ◌⊎◌, inl, inr, ℕ, Bool, true, refl, sym, ap, subst, ◌∙◌}
use Rattle.std.specs.Prelude.{◌||◌, Some, None, unwrap_or}
use Rattle.cil_model.specs.declared.phases.Phase.TheVariants.{Allocate, Copy}
use Rattle.cil_model.specs.declared.trees.Tree.{Tree}
use Rattle.object_memory.specs.declared.addresses.Addr.{Addr}
use Rattle.object_memory.specs.Cells.{Cell, Cells, next_address, cell_in}
use Rattle.object_memory.specs.Spaces.{Spaces, change_at, forward, other_of, set_other, shell_of, with_shell}
use Rattle.object_memory.specs.Objects.{Objects}
use Rattle.object_memory.proofs.Blocks.{unchanged_in}
use Rattle.object_memory.proofs.TwoSpaces.TwoBlocks.{IsAfter, own, still, after_in, before_in, not_old}
use Rattle.object_memory.proofs.TwoSpaces.TwoCopies.{shell-kept_new, shell-was_new}
use Rattle.collector.specs.References.{is_permanent}
use Rattle.collector.specs.Phases.{is_live, is_marked_cell, is_marked_old}
use Rattle.collector.specs.Soundness.{IsSoundHeap}
use Rattle.collector.specs.CopySteps.{address_after_cell, next_copy_step, next_shell_step}
use Rattle.collector.specs.declared.progress.Attempt.{Attempt}
use Rattle.collector.specs.declared.progress.Progress.{Progress}
use Rattle.collector.proofs.Copies.CopiedWords.{filled, filled_size}
use Rattle.collector.proofs.Copies.AllocateWork.{looked_cases}
use Rattle.collector.proofs.Copies.CopyWork.{IsStep, copied_cases, none_stored, one_stored}
use Rattle.collector.proofs.Addresses.Tests.{same_address, same_cell}
use Rattle.collector.proofs.Addresses.TagChanges.{read_alike}

-- an object shows what it showed, and may have got another copy
pub record IsStill (c d : Cell) : Type 0 where
  pub kind : d.kind ≡ c.kind
  pub slots : d.slots ≡ c.slots
  pub marked : d.marked ≡ c.marked
  pub monitor : d.monitor ≡ c.monitor
  pub other : (c.other ≡ None) ⊎ (d.other ≡ c.other)

-- all but the objects stays
pub record IsElseStill (o n : Objects) : Type 0 where
  pub literals : n.literals ≡ o.literals
  pub grey : n.spaces.grey ≡ o.spaces.grey
  pub has_marked : n.spaces.has_marked ≡ o.spaces.has_marked
  pub is_open : n.spaces.is_open ≡ o.spaces.is_open

same_still : (c d : Cell) → d ≡ c → IsStill c d
same_still c d e = subst (IsStill c) (sym e) (record { kind = refl; slots = refl; marked = refl; monitor = refl; other = inr refl })

-- where objects differ in their cells alone, all else stays
else_still : (o n : Objects) (m : Spaces) → m.grey ≡ o.spaces.grey → m.has_marked ≡ o.spaces.has_marked → m.is_open ≡ o.spaces.is_open → n ≡ record o { spaces = m } → IsElseStill o n
else_still o n m grey has_marked is_open e = subst (IsElseStill o) (sym e) (record { literals = refl; grey = grey; has_marked = has_marked; is_open = is_open })

-- ---- a copy is made

module _ (m : Spaces) (a : Addr) (c : Cell) (lies : cell_in m.old a ≡ Some c) (no_copy : c.other ≡ None) where
  abbrev b : Addr
  b = next_address m.new

  shelled : (x : Addr) (e d : Cell) → cell_in m.old x ≡ Some e → x.number ≡ a.number → d ≡ set_other b e → IsStill e d
  shelled x e d there same equal =
      let is : e ≡ c = same_cell m.old x a e c same there lies in
      subst (IsStill e) (sym equal) (record { kind = refl; slots = refl; marked = refl; monitor = refl; other = inl (ap (λ (z : Cell). z.other) is ∙ no_copy) })

  shell_stays : (x : Addr) (e : Cell) → cell_in m.old x ≡ Some e → (d : Cell) × (cell_in (with_shell m a c).old x ≡ Some d) × IsStill e d
  shell_stays x e there =
      let r = before_in (set_other b) (λ z. refl) m.old a x e there in
      (r.0, r.1, elim r.2 [ own same equal ↦ shelled x e r.0 there same equal | still ne equal ↦ same_still e r.0 equal ])

  shell_was : (x : Addr) (d : Cell) → cell_in (with_shell m a c).old x ≡ Some d → (e : Cell) × (cell_in m.old x ≡ Some e) × IsStill e d
  shell_was x d there =
      let r = after_in (set_other b) (λ z. refl) m.old a x d there in
      (r.0, r.1, elim r.2 [ own same equal ↦ shelled x r.0 d r.1 same equal | still ne equal ↦ same_still r.0 d equal ])

module _ (p : Progress) (o : Objects) where
  -- what is read through an old address stays, and nothing else comes
  pub looked_old : (x : Addr) (c : Cell) → cell_in o.spaces.old x ≡ Some c → (d : Cell) × (cell_in (next_shell_step p o).1.spaces.old x ≡ Some d) × IsStill c d
  looked_old x c there = elim (looked_cases p o) [
    | inl same ↦ (c, ap (λ (z : Objects). cell_in z.spaces.old x) same ∙ there, same_still c c refl)
    | inr h ↦ (
        let r = shell_stays o.spaces (address_after_cell o.spaces.old p.cursor) h.0 h.1 h.3 x c there in
        (r.0, ap (λ (z : Objects). cell_in z.spaces.old x) h.4 ∙ r.1, r.2))
  ]

  pub looked_was_old : (x : Addr) (d : Cell) → cell_in (next_shell_step p o).1.spaces.old x ≡ Some d → (c : Cell) × (cell_in o.spaces.old x ≡ Some c) × IsStill c d
  looked_was_old x d there = elim (looked_cases p o) [
    | inl same ↦ (d, sym (ap (λ (z : Objects). cell_in z.spaces.old x) same) ∙ there, same_still d d refl)
    | inr h ↦ shell_was o.spaces (address_after_cell o.spaces.old p.cursor) h.0 h.1 h.3 x d (sym (ap (λ (z : Objects). cell_in z.spaces.old x) h.4) ∙ there)
  ]

  pub looked_else : IsElseStill o (next_shell_step p o).1
  looked_else = elim (looked_cases p o) [
    | inl same ↦ else_still o (next_shell_step p o).1 o.spaces refl refl refl same
    | inr h ↦ else_still o (next_shell_step p o).1 (with_shell o.spaces (address_after_cell o.spaces.old p.cursor) h.0) refl refl refl h.4
  ]

  -- what is live stays live, and nothing else becomes so
  pub looked_live : (x : Addr) → is_live Allocate (next_shell_step p o).1.spaces x ≡ is_live Allocate o.spaces x
  looked_live x = ap (λ t. is_permanent x || t) (elim (looked_cases p o) [
    | inl same ↦ ap (λ (z : Objects). is_marked_old z.spaces x) same
    | inr h ↦
        ap (λ (z : Objects). is_marked_old z.spaces x) h.4
        ∙ read_alike is_marked_cell (set_other (next_address o.spaces.new)) (λ z. refl) (λ z. refl) o.spaces.old (address_after_cell o.spaces.old p.cursor) x
  ])

  module _ (tree : Tree) (has_round : Bool) (words : ℕ) (sound : IsSoundHeap tree Allocate has_round words p o.spaces) where
    -- no new object changes
    pub looked_new : (y : Addr) (d : Cell) → cell_in o.spaces.new y ≡ Some d → cell_in (next_shell_step p o).1.spaces.new y ≡ Some d
    looked_new y d there = elim (looked_cases p o) [
      | inl same ↦ ap (λ (z : Objects). cell_in z.spaces.new y) same ∙ there
      | inr h ↦
          ap (λ (z : Objects). cell_in z.spaces.new y) h.4
          ∙ shell-kept_new o.spaces sound.blocks.spaces (sound.copies.room (inr refl)) (address_after_cell o.spaces.old p.cursor) h.0 h.1 h.3 y d there
    ]

    -- and what comes is the copy of a marked object that had none
    pub looked_was_new : (y : Addr) (d : Cell) → cell_in (next_shell_step p o).1.spaces.new y ≡ Some d → (cell_in o.spaces.new y ≡ Some d)
        ⊎ ((c : Cell) × (cell_in o.spaces.old (address_after_cell o.spaces.old p.cursor) ≡ Some c) × (c.marked ≡ true) × (c.other ≡ None)
        × (y.number ≡ (next_address o.spaces.new).number) × (d ≡ shell_of (address_after_cell o.spaces.old p.cursor) c))
    looked_was_new y d there = elim (looked_cases p o) [
      | inl same ↦ inl (sym (ap (λ (z : Objects). cell_in z.spaces.new y) same) ∙ there)
      | inr h ↦ (
          let now = sym (ap (λ (z : Objects). cell_in z.spaces.new y) h.4) ∙ there in
          elim (shell-was_new o.spaces sound.blocks.spaces (sound.copies.room (inr refl)) (address_after_cell o.spaces.old p.cursor) h.0 h.1 h.3 y d now) [
            | inl was ↦ inl was
            | inr is ↦ inr (h.0, h.1, h.2, h.3, is.0, is.1)
          ])
    ]

-- ---- a word is copied

module _ (tree : Tree) (p : Progress) (o : Objects) where
  -- a new object stays, or it is the other copy of an old one, and gets what was loaded of that one's next word
  pub data IsFilling (y : Addr) (d e : Cell) : Type 0 where
    same : e ≡ d → IsFilling y d e
    word : (a : Addr) (c : Cell) (t : Attempt) → cell_in o.spaces.old a ≡ Some c → c.other ≡ Some y → e ≡ filled tree o.spaces c t p.copied_words d → IsFilling y d e

  -- what the store of a word leaves of a new object
  filling : (at : ℕ) (c : Cell) (b : Addr) (t : Attempt) (y : Addr) (d e : Cell) → cell_in o.spaces.old (record { number = at }) ≡ Some c → c.other ≡ Some b → IsAfter (filled tree o.spaces c t p.copied_words) b y d e → IsFilling y d e
  filling at c b t y d e lies other (own number equal) = word (record { number = at }) c t lies (other ∙ ap Some (same_address b y (sym number))) equal
  filling at c b t y d e lies other (still ne equal) = same equal

  -- a new object after a step, by what the step was
  new_then : (o' : Objects) → IsStep tree p o o' → (y : Addr) (d : Cell) → cell_in o.spaces.new y ≡ Some d → (e : Cell) × (cell_in o'.spaces.new y ≡ Some e) × IsFilling y d e
  new_then o' (none_stored equal) y d there = (d, ap (λ (z : Objects). cell_in z.spaces.new y) equal ∙ there, same refl)
  new_then o' (one_stored at c b t lies other is) y d there =
      let f = filled tree o.spaces c t p.copied_words in
      let r = before_in f (λ z. filled_size tree o.spaces c t p.copied_words z) o.spaces.new b y d there in
      (r.0, ap (λ (z : Objects). cell_in z.spaces.new y) is ∙ r.1, filling at c b t y d r.0 lies other r.2)

  pub copied_new : (y : Addr) (d : Cell) → cell_in o.spaces.new y ≡ Some d → (e : Cell) × (cell_in (next_copy_step tree p o).1.spaces.new y ≡ Some e) × IsFilling y d e
  copied_new y d there = new_then (next_copy_step tree p o).1 (copied_cases tree p o) y d there

  new_was : (o' : Objects) → IsStep tree p o o' → (y : Addr) (e : Cell) → cell_in o'.spaces.new y ≡ Some e → (d : Cell) × (cell_in o.spaces.new y ≡ Some d) × IsFilling y d e
  new_was o' (none_stored equal) y e there = (e, sym (ap (λ (z : Objects). cell_in z.spaces.new y) equal) ∙ there, same refl)
  new_was o' (one_stored at c b t lies other is) y e there =
      let f = filled tree o.spaces c t p.copied_words in
      let now = sym (ap (λ (z : Objects). cell_in z.spaces.new y) is) ∙ there in
      let r = after_in f (λ z. filled_size tree o.spaces c t p.copied_words z) o.spaces.new b y e now in
      (r.0, r.1, filling at c b t y r.0 e lies other r.2)

  pub copied_was_new : (y : Addr) (e : Cell) → cell_in (next_copy_step tree p o).1.spaces.new y ≡ Some e → (d : Cell) × (cell_in o.spaces.new y ≡ Some d) × IsFilling y d e
  copied_was_new y e there = new_was (next_copy_step tree p o).1 (copied_cases tree p o) y e there

  step_else : (o' : Objects) → IsStep tree p o o' → IsElseStill o o'
  step_else o' (none_stored equal) = else_still o o' o.spaces refl refl refl equal
  step_else o' (one_stored at c b t lies other e) = else_still o o' (change_at (filled tree o.spaces c t p.copied_words) o.spaces b) refl refl refl e

  pub copied_else : IsElseStill o (next_copy_step tree p o).1
  copied_else = step_else (next_copy_step tree p o).1 (copied_cases tree p o)

  -- the old block stays as it is
  old_still : (has_round : Bool) (words : ℕ) → IsSoundHeap tree Copy has_round words p o.spaces → (o' : Objects) → IsStep tree p o o' → o'.spaces.old ≡ o.spaces.old
  old_still has_round words sound o' (none_stored equal) = ap (λ (z : Objects). z.spaces.old) equal
  old_still has_round words sound o' (one_stored at c b t lies other is) =
      let d = sound.copies.out (record { number = at }) b c lies other in
      let none = not_old o.spaces sound.blocks.spaces b d.0 d.1 in
      ap (λ (z : Objects). z.spaces.old) is ∙ unchanged_in (filled tree o.spaces c t p.copied_words) o.spaces.old b none

  pub copied_old : (has_round : Bool) (words : ℕ) → IsSoundHeap tree Copy has_round words p o.spaces → (next_copy_step tree p o).1.spaces.old ≡ o.spaces.old
  copied_old has_round words sound = old_still has_round words sound (next_copy_step tree p o).1 (copied_cases tree p o)

  -- and so does what is live, and each forward
  pub copied_live : (has_round : Bool) (words : ℕ) → IsSoundHeap tree Copy has_round words p o.spaces → (x : Addr) → is_live Copy (next_copy_step tree p o).1.spaces x ≡ is_live Copy o.spaces x
  copied_live has_round words sound x = ap (λ (s : Cells). is_permanent x || is_marked_cell (cell_in s x)) (copied_old has_round words sound)

  pub copied_forward : (has_round : Bool) (words : ℕ) → IsSoundHeap tree Copy has_round words p o.spaces → (x : Addr) → forward (next_copy_step tree p o).1.spaces x ≡ forward o.spaces x
  copied_forward has_round words sound x = ap (λ (s : Cells). unwrap_or (other_of (cell_in s x)) x) (copied_old has_round words sound)
