-- A heap that is sound is so in another phase, and with other progress, where no more is copied, looked for or read than it was.
use Rattle.std.proofs.Common.{◌≡◌, ◌≢◌, inl, inr, ℕ, ◌≤◌, Bool, true, false, [], length, refl, sym, ap, subst, ◌∙◌, arith}
use Rattle.std.specs.Prelude.{if◌then◌else◌, Some, None}
use Rattle.cil_model.specs.declared.phases.Phase.{Phase}
use Rattle.cil_model.specs.declared.phases.Phase.TheVariants.{Allocate, Copy, Reclaim}
use Rattle.cil_model.specs.declared.trees.Tree.{Tree}
use Rattle.cil_model.proofs.SameLaws.{never}
use Rattle.object_memory.specs.declared.addresses.Addr.{Addr}
use Rattle.object_memory.specs.Cells.{Cell, cell_in}
use Rattle.object_memory.specs.Spaces.{AreSpaces, HasShellRoom, Spaces}
use Rattle.collector.specs.References.{SlotsPass}
use Rattle.collector.specs.Phases.{HasLooked, is_before_copies, is_live, is_of_cycle, is_read}
use Rattle.collector.specs.Soundness.{AreBlocks, AreCopies, HasCursor, IsCleared, IsInCopy, IsLoaded, IsSoundHeap}
use Rattle.collector.specs.declared.progress.Progress.{Progress}
use Rattle.collector.proofs.Copies.CopiedWords.{are_copies}

-- blocks of as many words are as they should be in a phase that is of a cycle where the first one is
pub AreBlocks-kept : (posted_phase next : Phase) (words : ℕ) (m n : Spaces) → AreBlocks posted_phase words m → is_of_cycle posted_phase ≡ is_of_cycle next → AreSpaces n
    → n.is_open ≡ m.is_open → n.old.words ≡ m.old.words → n.new.words ≡ m.new.words → (is_before_copies next ≡ true → n.new.cells ≡ []) → (is_of_cycle next ≡ false → n.grey ≡ [])
    → AreBlocks next words n
AreBlocks-kept posted_phase next words m n blocks cycle spaces held old new none_new none_grey = record {
  few = blocks.few;
  spaces = spaces;
  held = held ∙ blocks.held ∙ cycle;
  old_words = subst (λ w. w ≤ words) (sym old) blocks.old_words;
  new_words = subst (λ w. w ≤ (if is_of_cycle next then words else 0)) (sym new) (subst (λ t. m.new.words ≤ (if t then words else 0)) cycle blocks.new_words);
  grows = λ e. (let g = blocks.grows (cycle ∙ e) in omega (arith, old, new, g));
  none_new = none_new;
  none_grey = none_grey;
}

-- the same heap in a phase from Allocate on: each word that is in a copy was so, and each object that was looked for has its copy
module _ (tree : Tree) (posted_phase next : Phase) (has_round round_then : Bool) (words : ℕ) (p q : Progress) (m : Spaces) (sound : IsSoundHeap tree posted_phase has_round words p m) where
  pub IsSoundHeap-on : is_of_cycle posted_phase ≡ true → is_of_cycle next ≡ true → is_before_copies next ≡ false → posted_phase ≢ Reclaim
      → ((a : Addr) (c : Cell) (word : ℕ) → cell_in m.old a ≡ Some c → c.other ≢ None → word ≤ length c.slots → IsInCopy next q m a c word → IsInCopy posted_phase p m a c word)
      → ((a : Addr) (c : Cell) → cell_in m.old a ≡ Some c → c.marked ≡ true → HasLooked next q m a → c.other ≢ None)
      → ((a : Addr) (c : Cell) → cell_in m.old a ≡ Some c → is_read next c ≡ true → SlotsPass tree (is_live next m) c)
      → (next ≡ Allocate → HasShellRoom m) → HasCursor next q m → (next ≡ Copy → IsLoaded tree q m) → (next ≡ Reclaim → IsCleared q m) → IsSoundHeap tree next round_then words q m
  IsSoundHeap-on in_cycle cycle late held was_in looked references room cursor loaded cleared = record {
    blocks = AreBlocks-kept posted_phase next words m m sound.blocks (in_cycle ∙ sym cycle) sound.blocks.spaces refl refl refl (λ early. never (sym late ∙ early)) (λ between. never (sym between ∙ cycle));
    copies = record {
      no_copy = λ a c lies early. never (sym late ∙ early);
      unmarked = λ a c lies between. never (sym between ∙ cycle);
      out = λ a b c lies other. (let r = sound.copies.out a b c lies other in (r.0, r.1, copies a c r.0 lies (λ none. absurd (let wrong : Some b ≡ None = sym other ∙ none in cc)) r.2));
      back = sound.copies.back;
      shells = looked;
      marked_only = sound.copies.marked_only;
      old_references = references;
      new_references = sound.copies.new_references;
      room = λ e. elim e [ inl is ↦ never (sym late ∙ ap is_before_copies is) | inr is ↦ room is ];
    };
    cursor = cursor;
    loaded = loaded;
    marks = λ is. never (sym late ∙ ap is_before_copies is);
    cleared = cleared;
  }
    where
      copies : (a : Addr) (c d : Cell) → cell_in m.old a ≡ Some c → c.other ≢ None → AreCopies tree posted_phase p m a c d → AreCopies tree next q m a c d
      copies a c d lies some h = are_copies tree next q m a c d h.kind h.count (λ e. h.back (inl held)) (λ word short is. h.words word (was_in a c word lies some short is))
