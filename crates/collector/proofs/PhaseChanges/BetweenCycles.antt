-- Between cycles a heap is sound where nothing is noted at its objects, and what they refer to is there.
use Rattle.std.proofs.Common.{◌≡◌, ◌⊎◌, ℕ, Bool, false, Some, None, inl, inr, refl, sym, ap, ◌∙◌}
use Rattle.cil_model.specs.declared.phases.Phase.{Phase}
use Rattle.cil_model.specs.declared.phases.Phase.TheVariants.{Idle, Mark, Allocate}
use Rattle.cil_model.specs.declared.trees.Tree.{Tree}
use Rattle.cil_model.proofs.Lists.{none_is_some}
use Rattle.object_memory.specs.declared.addresses.Addr.{Addr}
use Rattle.object_memory.specs.Cells.{Cell, cell_from, cell_in}
use Rattle.object_memory.specs.Spaces.{Spaces}
use Rattle.collector.proofs.BlockWalks.CollectorOffsets.{HasCursor-else}
use Rattle.collector.specs.References.{SlotsPass}
use Rattle.collector.specs.Phases.{is_live}
use Rattle.collector.specs.Soundness.{AreBlocks, IsSoundHeap}
use Rattle.collector.specs.declared.progress.Progress.{Progress}

-- ---- one object

-- nothing is noted at it, and each reference in its slots is null, a literal or an object's
pub record IsQuiet (tree : Tree) (m : Spaces) (c : Cell) : Type 0 where
  pub no_copy : c.other ≡ None
  pub unmarked : c.marked ≡ false
  pub references : SlotsPass tree (is_live Idle m) c

-- each of the old block is so
abbrev pub AreQuiet : Tree → Spaces → Type 0
AreQuiet tree m = (a : Addr) (c : Cell) → cell_in m.old a ≡ Some c → IsQuiet tree m c

-- ---- the whole heap

idle_is_not : (p : Phase) → (p ≡ Mark) ⊎ (p ≡ Allocate) → p ≡ Idle → ⊥
idle_is_not p (inl e) same = absurd cc
idle_is_not p (inr e) same = absurd cc

module _ (tree : Tree) (has_round : Bool) (words : ℕ) (p : Progress) (m : Spaces) where
  -- the new block is empty
  nothing_new : AreBlocks Idle words m → (b : Addr) (d : Cell) → cell_in m.new b ≡ Some d → ⊥
  nothing_new blocks b d lies = let none : cell_in m.new b ≡ None = ap (λ cells. cell_from m.new.start cells b.number) (blocks.none_new refl) in none_is_some d (sym none ∙ lies)

  -- it is sound
  pub quiet_is_sound : AreBlocks Idle words m → AreQuiet tree m → IsSoundHeap tree Idle has_round words p m
  quiet_is_sound blocks each = record {
    blocks = blocks;
    copies = record {
      no_copy = λ a c lies early. (each a c lies).no_copy;
      unmarked = λ a c lies idle. (each a c lies).unmarked;
      out = λ a b c lies out. none_is_some b (sym (each a c lies).no_copy ∙ out);
      back = λ a b d lies back. absurd (nothing_new blocks b d lies);
      shells = λ a c lies marked looked. absurd looked;
      marked_only = λ a c lies other. absurd (other (each a c lies).no_copy);
      old_references = λ a c lies read. (each a c lies).references;
      new_references = λ b d lies. absurd (nothing_new blocks b d lies);
      room = λ e. absurd (idle_is_not Idle e refl);
    };
    cursor = HasCursor-else Idle p m (λ e. absurd cc) (λ e. absurd cc);
    loaded = λ e. absurd cc;
    marks = λ e. absurd (idle_is_not Idle (inl e) refl);
    cleared = λ e. absurd cc;
  }
