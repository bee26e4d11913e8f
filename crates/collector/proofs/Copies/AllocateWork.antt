-- The work of Allocate keeps the heap sound: an object that is marked gets its copy, the cursor moves on, and at the end of it each marked object has one.
use Rattle.std.proofs.Common.{◌≡◌, ◌≢◌, ◌⊎◌, inl, inr, ℕ, ◌+◌, ◌<◌, Bool, true, false, length, refl, sym, ap, subst, ◌∙◌, arith}
use Rattle.std.specs.Prelude.{◌&&◌, is_none, if◌then◌else◌, Option, Some, None}
use Rattle.std.proofs.lemmas.List.{length-replicate}
use Rattle.std.proofs.lemmas.Option.{same_Some}
use Rattle.cil_model.specs.declared.phases.Phase.TheVariants.{Allocate, Copy}
use Rattle.cil_model.specs.declared.trees.Tree.{Tree}
use Rattle.object_memory.specs.declared.addresses.Addr.{Addr}
use Rattle.object_memory.specs.Cells.{Cell, size, used_words, next_address, cell_in}
use Rattle.object_memory.specs.Spaces.{Spaces, AreSpaces, HasShellRoom, IsOffset, set_other, shell_of, with_shell}
use Rattle.object_memory.specs.Objects.{Objects}
use Rattle.object_memory.proofs.Blocks.{range_in}
use Rattle.object_memory.proofs.Offsets.{cell, end, at_offset, below_next}
use Rattle.object_memory.proofs.Rooms.{HasShellRoom-shell}
use Rattle.object_memory.proofs.TwoSpaces.TwoBlocks.{own, still, after_in, before_in}
use Rattle.object_memory.proofs.TwoSpaces.TwoCopies.{AreSpaces-shell, shell-old, shell-new, shell-kept_new, shell-was_new}
use Rattle.collector.specs.References.{SlotsPass, is_permanent}
use Rattle.collector.specs.Phases.{HasLooked, is_live, is_marked_old, is_new_address, no_progress, is_marked_cell}
use Rattle.collector.specs.Soundness.{AreBlocks, AreCopies, AreCopied, IsSoundHeap, IsInCopy}
use Rattle.collector.specs.CopySteps.{address_after_cell, next_shell_step, needs_copy, shell_step}
use Rattle.collector.specs.declared.progress.Progress.{Progress}
use Rattle.collector.proofs.BlockWalks.ChangedBlocks.{IsOffset-change}
use Rattle.collector.proofs.BlockWalks.CollectorOffsets.{HasCursor-begun}
use Rattle.collector.proofs.Copies.CopyTests.{new_stays, some_is_other}
use Rattle.collector.proofs.Addresses.Tests.{same_address, slots_weaken, same_cell}
use Rattle.collector.proofs.Addresses.Disjunctions.{or_more}
use Rattle.collector.proofs.Addresses.TagChanges.{read_alike}
use Rattle.collector.proofs.Births.HeapsAfterBirths.{zeros_pass}
use Rattle.collector.proofs.PhaseChanges.LaterPhases.{AreBlocks-kept, IsSoundHeap-on}

-- while copies are made, two copies agree where their headers do
are_shells : (tree : Tree) (p : Progress) (m : Spaces) (a : Addr) (c d : Cell) → d.kind ≡ c.kind → length d.slots ≡ length c.slots → d.other ≡ Some a → AreCopies tree Allocate p m a c d
are_shells tree p m a c d kind count back = record {
  kind = kind;
  count = count;
  back = λ posted_phase. back;
  words = λ word h. elim h [ inl done ↦ elim done [ ] | inr stored ↦ (let wrong = stored.copying in absurd cc) ];
}

module _ (tree : Tree) (has_round : Bool) (words : ℕ) (p : Progress) (m : Spaces) (sound : IsSoundHeap tree Allocate has_round words p m) where
  -- ---- an object gets its copy

  module _ (a : Addr) (c : Cell) (lies : cell_in m.old a ≡ Some c) (marked : c.marked ≡ true) (no_copy : c.other ≡ None) where
    abbrev b : Addr
    b = next_address m.new

    abbrev after : Spaces
    after = with_shell m a c

    spaces : AreSpaces m
    spaces = sound.blocks.spaces

    room : HasShellRoom m
    room = sound.copies.room (inr refl)

    -- an old object is the one with the new copy, or it is as it was
    data WasOld (x : Addr) (d : Cell) : Type 0 where
      copied : x ≡ a → d ≡ set_other b c → WasOld x d
      kept : cell_in m.old x ≡ Some d → WasOld x d

    was_old : (x : Addr) (d : Cell) → cell_in after.old x ≡ Some d → WasOld x d
    was_old x d e =
        let r = after_in (set_other b) (λ y. refl) m.old a x d e in
        elim r.2 [
          | own same equal ↦ (
              let here = same_address x a same in
              let is : r.0 ≡ c = same_cell m.old x a r.0 c same r.1 lies in
              copied here (equal ∙ ap (set_other b) is))
          | still ne equal ↦ kept (r.1 ∙ ap Some (sym equal))
        ]

    shell_out : (x y : Addr) (d : Cell) → cell_in after.old x ≡ Some d → d.other ≡ Some y → (e : Cell) × (cell_in after.new y ≡ Some e) × AreCopies tree Allocate p after x d e
    shell_out x y d at other = by_case (was_old x d at)
      where
        by_case : WasOld x d → (e : Cell) × (cell_in after.new y ≡ Some e) × AreCopies tree Allocate p after x d e
        by_case (copied here is) =
            let there : b ≡ y = same_Some b y (sym (ap (λ (z : Cell). z.other) is) ∙ other) in
            let new = subst (λ z. cell_in after.new z ≡ Some (shell_of a c)) there (shell-new m spaces room a c lies no_copy) in
            let kind = sym (ap (λ (z : Cell). z.kind) is) in
            let count = length-replicate {A = ℕ} (length c.slots) 0 ∙ sym (ap (λ (z : Cell). length z.slots) is) in
            (shell_of a c, new, are_shells tree p after x d (shell_of a c) kind count (ap Some (sym here)))
        by_case (kept was) =
            let r = sound.copies.out x y d was other in
            (r.0, shell-kept_new m spaces room a c lies no_copy y r.0 r.1, are_shells tree p after x d r.0 r.2.kind r.2.count (r.2.back (inl (λ wrong. absurd cc))))

    shell_back : (x y : Addr) (e : Cell) → cell_in after.new y ≡ Some e → e.other ≡ Some x → (d : Cell) × (cell_in after.old x ≡ Some d) × (d.other ≡ Some y)
    shell_back x y e at other = by_case (shell-was_new m spaces room a c lies no_copy y e at)
      where
        by_case : (cell_in m.new y ≡ Some e) ⊎ ((y.number ≡ b.number) × (e ≡ shell_of a c)) → (d : Cell) × (cell_in after.old x ≡ Some d) × (d.other ≡ Some y)
        by_case (inl was) =
            let r = sound.copies.back x y e was other in
            let now = before_in (set_other b) (λ z. refl) m.old a x r.0 r.1 in
            elim now.2 [
              | own same equal ↦ (
                  let is : r.0 ≡ c = same_cell m.old x a r.0 c same r.1 lies in
                  let wrong : Some y ≡ None = sym r.2 ∙ ap (λ (z : Cell). z.other) is ∙ no_copy in
                  absurd cc)
              | still ne equal ↦ (now.0, now.1, ap (λ (z : Cell). z.other) equal ∙ r.2)
            ]
        by_case (inr (same, is)) =
            let here : a ≡ x = same_Some a x (sym (ap (λ (z : Cell). z.other) is) ∙ other) in
            let there : b ≡ y = same_address b y (sym same) in
            (set_other b c, subst (λ z. cell_in after.old z ≡ Some (set_other b c)) here (shell-old m spaces room a c lies no_copy), ap Some there)

    shells_then : (x : Addr) (d : Cell) → cell_in after.old x ≡ Some d → d.marked ≡ true → HasLooked Allocate p after x → d.other ≢ None
    shells_then x d at dark looked = by_case (was_old x d at)
      where
        by_case : WasOld x d → d.other ≢ None
        by_case (copied here is) = some_is_other d.other b (ap (λ (z : Cell). z.other) is)
        by_case (kept was) = sound.copies.shells x d was dark looked

    marked_then : (x : Addr) (d : Cell) → cell_in after.old x ≡ Some d → d.other ≢ None → d.marked ≡ true
    marked_then x d at other = by_case (was_old x d at)
      where
        by_case : WasOld x d → d.marked ≡ true
        by_case (copied here is) = ap (λ (z : Cell). z.marked) is ∙ marked
        by_case (kept was) = sound.copies.marked_only x d was other

    live_stays : (x : Addr) → is_live Allocate m x ≡ true → is_live Allocate after x ≡ true
    live_stays x h = or_more (is_permanent x) (is_marked_old m x) (is_marked_old after x) (λ was. read_alike is_marked_cell (set_other b) (λ z. refl) (λ z. refl) m.old a x ∙ was) h

    old_then : (x : Addr) (d : Cell) → cell_in after.old x ≡ Some d → d.marked ≡ true → SlotsPass tree (is_live Allocate after) d
    old_then x d at dark = by_case (was_old x d at)
      where
        by_case : WasOld x d → SlotsPass tree (is_live Allocate after) d
        by_case (copied here is) = subst (SlotsPass tree (is_live Allocate after)) (sym is) (slots_weaken tree (is_live Allocate m) (is_live Allocate after) live_stays c (sound.copies.old_references a c lies marked))
        by_case (kept was) = slots_weaken tree (is_live Allocate m) (is_live Allocate after) live_stays d (sound.copies.old_references x d was dark)

    new_then : (y : Addr) (e : Cell) → cell_in after.new y ≡ Some e → SlotsPass tree (is_new_address after) e
    new_then y e at = by_case (shell-was_new m spaces room a c lies no_copy y e at)
      where
        stays : (x : Addr) → is_new_address m x ≡ true → is_new_address after x ≡ true
        stays x h = new_stays m after (λ z d there. (d, shell-kept_new m spaces room a c lies no_copy z d there)) x h

        by_case : (cell_in m.new y ≡ Some e) ⊎ ((y.number ≡ b.number) × (e ≡ shell_of a c)) → SlotsPass tree (is_new_address after) e
        by_case (inl was) = slots_weaken tree (is_new_address m) (is_new_address after) stays e (sound.copies.new_references y e was)
        by_case (inr (same, is)) = subst (SlotsPass tree (is_new_address after)) (sym is) (zeros_pass tree (is_new_address after) refl (shell_of a c) (length c.slots) refl)

    shell_copied : AreCopied tree Allocate p after
    shell_copied = record {
      no_copy = λ x d at early. absurd cc;
      unmarked = λ x d at over. absurd cc;
      out = shell_out;
      back = shell_back;
      shells = shells_then;
      marked_only = marked_then;
      old_references = old_then;
      new_references = new_then;
      room = λ posted_phase. HasShellRoom-shell m spaces room a c lies no_copy;
    }

    shell_blocks : AreBlocks Allocate words after
    shell_blocks =
        AreBlocks-kept Allocate Allocate words m after sound.blocks refl (AreSpaces-shell m spaces room a c lies no_copy) refl refl refl (λ early. absurd cc) (λ over. absurd cc)

    shell_sound : IsSoundHeap tree Allocate has_round words p after
    shell_sound = record {
      blocks = shell_blocks;
      copies = shell_copied;
      cursor = record { offset = λ posted_phase. IsOffset-change (set_other b) (λ z. refl) m.old a (m.old.start + p.cursor) (sound.cursor.offset posted_phase); attempts = λ posted_phase. absurd cc; words = λ posted_phase. absurd cc };
      loaded = λ posted_phase. absurd cc;
      marks = λ posted_phase. absurd cc;
      cleared = λ posted_phase. absurd cc;
    }

  -- ---- the cursor moves on

  module _ (c : Cell) (lies : cell_in m.old (address_after_cell m.old p.cursor) ≡ Some c) (done : c.marked ≡ true → c.other ≢ None) where
    abbrev next : Progress
    next = record p { cursor = p.cursor + size c }

    next_shells : (x : Addr) (d : Cell) → cell_in m.old x ≡ Some d → d.marked ≡ true → HasLooked Allocate next m x → d.other ≢ None
    next_shells x d at dark looked = by_case (below_next m.old (m.old.start + p.cursor) c lies x d at (omega (arith, looked)))
      where
        by_case : (x.number < m.old.start + p.cursor) ⊎ (x.number ≡ m.old.start + p.cursor) → d.other ≢ None
        by_case (inl before) = sound.copies.shells x d at dark before
        by_case (inr same) =
            let is : c ≡ d = same_cell m.old (address_after_cell m.old p.cursor) x c d (sym same) lies at in
            subst (λ (z : Cell). z.other ≢ None) is (done (ap (λ (z : Cell). z.marked) is ∙ dark))

    next_offset : IsOffset m.old (m.old.start + next.cursor)
    next_offset = elim (at_offset m.old (m.old.start + p.cursor) (sound.cursor.offset (inl refl))) [
      | cell d there following ↦ (
          let is : d ≡ c = same_Some d c (sym there ∙ lies) in
          let far : m.old.start + p.cursor + size d ≡ m.old.start + next.cursor = (let same = ap size is in omega (arith, same)) in
          subst (IsOffset m.old) far following)
      | end is ↦ absurd (omega (arith, is, (range_in m.old (address_after_cell m.old p.cursor) c lies).1))
    ]

    next_sound : IsSoundHeap tree Allocate has_round words next m
    next_sound =
        IsSoundHeap-on tree Allocate Allocate has_round has_round words p next m sound refl refl refl (λ e. absurd cc)
        (λ x d word at some short is. elim is [ inl before ↦ elim before [ ] | inr stored ↦ (let wrong = stored.copying in absurd cc) ]) next_shells sound.copies.old_references
        (λ e. sound.copies.room (inr e)) (record { offset = λ posted_phase. next_offset; attempts = λ posted_phase. absurd cc; words = λ posted_phase. absurd cc }) (λ e. absurd cc) (λ e. absurd cc)

-- ---- a step

-- which objects have to have a copy, and which have not
needs_parts : (c : Cell) → needs_copy c ≡ true → (c.marked ≡ true) × (c.other ≡ None)
needs_parts c h = by_tests c.marked c.other refl refl h
  where
    by_tests : (t : Bool) (o : Option Addr) → c.marked ≡ t → c.other ≡ o → (t && is_none o) ≡ true → (c.marked ≡ true) × (c.other ≡ None)
    by_tests true None marked no_copy e = (marked, no_copy)
    by_tests _ _ marked no_copy e = absurd cc

needs_none : (c : Cell) → needs_copy c ≡ false → c.marked ≡ true → c.other ≢ None
needs_none c h marked no_copy = let wrong : true ≡ false = sym (rw (marked, no_copy) refl) ∙ h in absurd cc

looked_by_need : (p : Progress) (o : Objects) (c : Cell) (t : Bool) → cell_in o.spaces.old (address_after_cell o.spaces.old p.cursor) ≡ Some c → needs_copy c ≡ t
    → ((if t then record o { spaces = with_shell o.spaces (address_after_cell o.spaces.old p.cursor) c } else o) ≡ o)
    ⊎ ((d : Cell) × (cell_in o.spaces.old (address_after_cell o.spaces.old p.cursor) ≡ Some d) × (d.marked ≡ true) × (d.other ≡ None)
    × ((if t then record o { spaces = with_shell o.spaces (address_after_cell o.spaces.old p.cursor) c } else o) ≡ record o { spaces = with_shell o.spaces (address_after_cell o.spaces.old p.cursor) d }))
looked_by_need p o c true lies needs = let parts = needs_parts c needs in inr (c, lies, parts.0, parts.1, refl)
looked_by_need p o c false lies needs = inl refl

looked_by_cell : (p : Progress) (o : Objects) (r : Option Cell) → cell_in o.spaces.old (address_after_cell o.spaces.old p.cursor) ≡ r
    → ((shell_step p o r).1 ≡ o)
    ⊎ ((c : Cell) × (cell_in o.spaces.old (address_after_cell o.spaces.old p.cursor) ≡ Some c) × (c.marked ≡ true) × (c.other ≡ None)
    × ((shell_step p o r).1 ≡ record o { spaces = with_shell o.spaces (address_after_cell o.spaces.old p.cursor) c }))
looked_by_cell p o None lies = inl refl
looked_by_cell p o (Some c) lies = looked_by_need p o c (needs_copy c) lies refl

-- the objects after a step: they stay, or the object at the cursor has got its copy
pub looked_cases : (p : Progress) (o : Objects) → ((next_shell_step p o).1 ≡ o)
    ⊎ ((c : Cell) × (cell_in o.spaces.old (address_after_cell o.spaces.old p.cursor) ≡ Some c) × (c.marked ≡ true) × (c.other ≡ None)
    × ((next_shell_step p o).1 ≡ record o { spaces = with_shell o.spaces (address_after_cell o.spaces.old p.cursor) c }))
looked_cases p o = looked_by_cell p o (cell_in o.spaces.old (address_after_cell o.spaces.old p.cursor)) refl

module _ (tree : Tree) (has_round : Bool) (words : ℕ) (p : Progress) (o : Objects) (sound : IsSoundHeap tree Allocate has_round words p o.spaces) where
  step_by_need : (c : Cell) → cell_in o.spaces.old (address_after_cell o.spaces.old p.cursor) ≡ Some c → (t : Bool) → needs_copy c ≡ t
      → IsSoundHeap tree Allocate has_round words (record p { cursor = p.cursor + size c }) (if t then record o { spaces = with_shell o.spaces (address_after_cell o.spaces.old p.cursor) c } else o).spaces
  step_by_need c lies true needs =
      let parts = needs_parts c needs in
      let a = address_after_cell o.spaces.old p.cursor in
      let b = next_address o.spaces.new in
      let shelled = shell_sound tree has_round words p o.spaces sound a c lies parts.0 parts.1 in
      let there = shell-old o.spaces sound.blocks.spaces (sound.copies.room (inr refl)) a c lies parts.1 in
      next_sound tree has_round words p (with_shell o.spaces a c) shelled (set_other b c) there (λ marked wrong. absurd cc)
  step_by_need c lies false needs = next_sound tree has_round words p o.spaces sound c lies (needs_none c needs)

  step_by_cell : (r : Option Cell) → cell_in o.spaces.old (address_after_cell o.spaces.old p.cursor) ≡ r → IsSoundHeap tree Allocate has_round words (shell_step p o r).0 (shell_step p o r).1.spaces
  step_by_cell None lies = sound
  step_by_cell (Some c) lies = step_by_need c lies (needs_copy c) refl

  -- a step of Allocate keeps the heap sound
  pub looked_sound : IsSoundHeap tree Allocate has_round words (next_shell_step p o).0 (next_shell_step p o).1.spaces
  looked_sound = step_by_cell (cell_in o.spaces.old (address_after_cell o.spaces.old p.cursor)) refl

  -- ---- the end

  none_left : (r : Option Cell) → (shell_step p o r).2 ≡ false → r ≡ None
  none_left None e = refl
  none_left (Some c) e = absurd cc

  module _ (over : (next_shell_step p o).2 ≡ false) where
    -- the cursor is after all old objects
    at_end : o.spaces.old.start + p.cursor ≡ o.spaces.old.start + used_words o.spaces.old.cells
    at_end = elim (at_offset o.spaces.old (o.spaces.old.start + p.cursor) (sound.cursor.offset (inl refl))) [
      | cell d there following ↦ (
          let none = none_left (cell_in o.spaces.old (address_after_cell o.spaces.old p.cursor)) over in
          let wrong : Some d ≡ None = sym there ∙ none in
          absurd cc)
      | end is ↦ is
    ]

    -- each marked object has a copy
    all_shells : (x : Addr) (d : Cell) → cell_in o.spaces.old x ≡ Some d → d.marked ≡ true → d.other ≢ None
    all_shells x d at dark = sound.copies.shells x d at dark (let range = range_in o.spaces.old x d at in omega (arith, at_end, range.1))

    -- no word is copied yet
    none_copied : (a : Addr) (c : Cell) (word : ℕ) → cell_in o.spaces.old a ≡ Some c → IsInCopy Copy no_progress o.spaces a c word → ⊥
    none_copied a c word lies (inl (inl before)) = let range = range_in o.spaces.old a c lies in absurd (omega (arith, range.0, before))
    none_copied a c word lies (inl (inr (same, few))) = absurd (omega (arith, few))
    none_copied a c word lies (inr stored) = let wrong = stored.stored in absurd cc

    -- where no step of Allocate is left, Copy can be posted
    pub copy_posted : IsSoundHeap tree Copy has_round words no_progress o.spaces
    copy_posted =
        IsSoundHeap-on tree Allocate Copy has_round has_round words p no_progress o.spaces sound refl refl refl (λ e. absurd cc)
        (λ a c word lies some short is. absurd (none_copied a c word lies is)) (λ x d at dark looked. all_shells x d at dark) sound.copies.old_references
        (λ e. absurd cc) (HasCursor-begun Copy o.spaces) (λ copying is. absurd cc) (λ e. absurd cc)
