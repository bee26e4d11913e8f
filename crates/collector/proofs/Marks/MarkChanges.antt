-- Blocks that differ in marks alone: what was marked, old, new or live stays so, and so does all that is true of a heap in Mark but for marks.
use Rattle.std.proofs.Common.{◌≡◌, inl, inr, ℕ, Bool, true, [], refl, sym, ap, subst, ◌∙◌}
use Rattle.std.specs.Prelude.{is_some, Some, None, slice_get}
use Rattle.std.proofs.lemmas.Option.{none-some}
use Rattle.cil_model.specs.declared.phases.Phase.TheVariants.{Mark}
use Rattle.cil_model.specs.declared.trees.Tree.{Tree}
use Rattle.object_memory.specs.declared.addresses.Addr.{Addr}
use Rattle.object_memory.specs.Cells.{Cell, Cells, cell_in}
use Rattle.object_memory.specs.Spaces.{AreSpaces, HasShellRoom, Spaces, cell_at}
use Rattle.object_memory.proofs.TwoSpaces.TwoBlocks.{either, new_is_cell, old_is_cell}
use Rattle.collector.specs.References.{SlotsPass, holds_reference, reference_in}
use Rattle.collector.specs.Phases.{is_live}
use Rattle.collector.specs.Soundness.{AreBlocks, AreCopied, AreMarked, IsSoundHeap}
use Rattle.collector.specs.declared.progress.Progress.{Progress}
use Rattle.collector.proofs.BlockWalks.CollectorOffsets.{HasCursor-else}
use Rattle.collector.proofs.Addresses.Tests.{mark_is, marked_cell, never, none_is_new, old_cell, old_is}
use Rattle.collector.proofs.Addresses.GrowingBlocks.{TestsStay, live_stays}
use Rattle.collector.proofs.PhaseChanges.LaterPhases.{AreBlocks-kept}

-- ---- blocks that differ in marks alone

-- the same cell, but that it may be marked now
pub record IsDarker (c d : Cell) : Type 0 where
  pub kind : d.kind ≡ c.kind
  pub slots : d.slots ≡ c.slots
  pub other : d.other ≡ c.other
  pub monitor : d.monitor ≡ c.monitor
  pub marked : c.marked ≡ true → d.marked ≡ true

-- the same cells in both blocks, but that more old ones may be marked
pub record AreDarker (m n : Spaces) : Type 0 where
  pub kept : (a : Addr) (c : Cell) → cell_in m.old a ≡ Some c → (d : Cell) × (cell_in n.old a ≡ Some d) × IsDarker c d
  pub was : (a : Addr) (d : Cell) → cell_in n.old a ≡ Some d → (c : Cell) × (cell_in m.old a ≡ Some c) × IsDarker c d
  pub new : n.new ≡ m.new
  pub held : n.is_open ≡ m.is_open
  pub words : n.old.words ≡ m.old.words
  pub spaces : AreSpaces m → AreSpaces n
  pub room : AreSpaces m → HasShellRoom m → HasShellRoom n

pub IsDarker-refl : (c : Cell) → IsDarker c c
IsDarker-refl c = record { kind = refl; slots = refl; other = refl; monitor = refl; marked = λ e. e }

IsDarker-trans : (c d e : Cell) → IsDarker c d → IsDarker d e → IsDarker c e
IsDarker-trans c d e f g = record {
  kind = g.kind ∙ f.kind;
  slots = g.slots ∙ f.slots;
  other = g.other ∙ f.other;
  monitor = g.monitor ∙ f.monitor;
  marked = λ h. g.marked (f.marked h);
}

-- blocks with the same cells
pub AreDarker-same : (m n : Spaces) → n.old ≡ m.old → n.new ≡ m.new → n.is_open ≡ m.is_open → AreDarker m n
AreDarker-same m n old new held = record {
  kept = λ a c e. (c, ap (λ s. cell_in s a) old ∙ e, IsDarker-refl c);
  was = λ a d e. (d, sym (ap (λ s. cell_in s a) old) ∙ e, IsDarker-refl d);
  new = new;
  held = held;
  words = ap (λ s. s.words) old;
  spaces = λ h. record { old = rw old h.old; new = rw new h.new; apart = rw (old, new) h.apart };
  room = λ h r. record { words = rw (old, new) r.words; long = rw (old, new) r.long };
}

pub AreDarker-trans : (m n o : Spaces) → AreDarker m n → AreDarker n o → AreDarker m o
AreDarker-trans m n o f g = record {
  kept = λ a c e. let d = f.kept a c e in let x = g.kept a d.0 d.1 in (x.0, x.1, IsDarker-trans c d.0 x.0 d.2 x.2);
  was = λ a e there. let d = g.was a e there in let x = f.was a d.0 d.1 in (x.0, x.1, IsDarker-trans x.0 d.0 e x.2 d.2);
  new = g.new ∙ f.new;
  held = g.held ∙ f.held;
  words = g.words ∙ f.words;
  spaces = λ h. g.spaces (f.spaces h);
  room = λ h r. g.room (f.spaces h) (f.room h r);
}

module _ (m n : Spaces) (darker : AreDarker m n) where
  -- what was marked, old, new or there stays so
  pub darker_tests : TestsStay m n
  darker_tests = record {
    old = λ a h. let c = old_cell m a h in let d = darker.kept a c.0 c.1 in old_is n a d.0 d.1;
    marked = λ a h. let c = marked_cell m a h in let d = darker.kept a c.0 c.1 in mark_is n a d.0 d.1 ∙ d.2.marked c.2;
    new = λ a h. subst (λ s. is_some (cell_in s a) ≡ true) (sym darker.new) h;
  }

  pub stays_there : AreSpaces m → (a : Addr) (c : Cell) → cell_at m a ≡ Some c → (d : Cell) × (cell_at n a ≡ Some d) × IsDarker c d
  stays_there spaces a c e = elim (either m a c e) [
    | inl old ↦ let d = darker.kept a c old in (d.0, old_is_cell n a d.0 d.1, d.2)
    | inr new ↦ (c, new_is_cell n (darker.spaces spaces) a c (subst (λ s. cell_in s a ≡ Some c) (sym darker.new) new), IsDarker-refl c)
  ]

  -- ---- and all that is true of the heap in Mark, but for marks

  AreBlocks-darker : (words : ℕ) → AreBlocks Mark words m → AreBlocks Mark words n
  AreBlocks-darker words blocks =
      AreBlocks-kept Mark Mark words m n blocks refl (darker.spaces blocks.spaces) darker.held darker.words (ap (λ (s : Cells). s.words) darker.new)
      (λ early. ap (λ s. s.cells) darker.new ∙ blocks.none_new early) (λ e. never (sym e))

  slots_then : (tree : Tree) (c d : Cell) → IsDarker c d → SlotsPass tree (is_live Mark m) c → SlotsPass tree (is_live Mark n) d
  slots_then tree c d same h slot word there held =
      live_stays m n darker_tests (reference_in word) Mark
      (h slot word (subst (λ l. slice_get l slot ≡ Some word) same.slots there) (subst (λ k. holds_reference tree k slot ≡ true) same.kind held))

-- no object has a copy in Mark, and none is new: so only this is asked of copies then
pub AreCopied-in_mark : (tree : Tree) (p : Progress) (m : Spaces) → m.new.cells ≡ []
    → ((a : Addr) (c : Cell) → cell_in m.old a ≡ Some c → c.other ≡ None)
    → ((a : Addr) (c : Cell) → cell_in m.old a ≡ Some c → SlotsPass tree (is_live Mark m) c)
    → HasShellRoom m → AreCopied tree Mark p m
AreCopied-in_mark tree p m none no_copy references room = record {
  no_copy = λ a c e early. no_copy a c e;
  unmarked = λ a c e between. never (sym between);
  out = λ a b c e other. absurd (none-some b (sym (no_copy a c e) ∙ other));
  back = λ a b d e other. absurd (none-some d (sym (none_is_new m b none) ∙ e));
  shells = λ a c e marked looked. absurd looked;
  marked_only = λ a c e other. absurd (other (no_copy a c e));
  old_references = λ a c e read. references a c e;
  new_references = λ b d e. absurd (none-some d (sym (none_is_new m b none) ∙ e));
  room = λ early. room;
}

module _ (tree : Tree) (has_round : Bool) (words : ℕ) (p : Progress) (m n : Spaces) (sound : IsSoundHeap tree Mark has_round words p m) (darker : AreDarker m n) where
  AreCopied-darker : (q : Progress) → AreCopied tree Mark q n
  AreCopied-darker q = AreCopied-in_mark tree q n
      (ap (λ s. s.cells) darker.new ∙ sound.blocks.none_new refl)
      (λ a d e. let c = darker.was a d e in c.2.other ∙ sound.copies.no_copy a c.0 c.1 refl)
      (λ a d e. let c = darker.was a d e in slots_then m n darker tree c.0 d c.2 (sound.copies.old_references a c.0 c.1 refl))
      (darker.room sound.blocks.spaces (sound.copies.room (inl refl)))

  pub IsSoundHeap-darker : (round_then : Bool) (q : Progress) → AreMarked tree round_then q n → IsSoundHeap tree Mark round_then words q n
  IsSoundHeap-darker round_then q marks = record {
    blocks = AreBlocks-darker m n darker words sound.blocks;
    copies = AreCopied-darker q;
    cursor = HasCursor-else Mark q n (λ e. absurd cc) (λ e. absurd cc);
    loaded = λ e. absurd cc;
    marks = λ posted_phase. marks;
    cleared = λ posted_phase. absurd cc;
  }
