-- Where marking begins and ends: a cycle opens, a round of it is posted, and where nothing is left to mark, Allocate can be posted.
use Rattle.std.proofs.Common.{◌≡◌, ◌≢◌, inl, inr, ℕ, ◌+◌, ◌<◌, ◌≤◌, Bool, true, false, List, [], ◌∷◌, refl, sym, subst, ◌∙◌, arith}
use Rattle.std.specs.Prelude.{◌&&◌, not, Some}
use Rattle.std.proofs.lemmas.Bool.{and_parts, not-true}
use Rattle.std.proofs.lemmas.List.Elements.{All-nil}
use Rattle.cil_model.specs.declared.phases.Phase.{Phase}
use Rattle.cil_model.specs.declared.phases.Phase.TheVariants.{Idle, Mark, Allocate}
use Rattle.cil_model.specs.declared.trees.Tree.{Tree}
use Rattle.object_memory.specs.declared.addresses.Addr.{Addr}
use Rattle.object_memory.specs.Cells.{Cell, cell_in}
use Rattle.object_memory.specs.Spaces.{Spaces, open_cycle}
use Rattle.object_memory.specs.Objects.{Objects}
use Rattle.object_memory.proofs.Blocks.{range_in}
use Rattle.object_memory.proofs.TwoSpaces.TwoBlocks.{AreSpaces-opened}
use Rattle.object_memory.proofs.Rooms.{HasShellRoom-opened}
use Rattle.phase_handshake.specs.Handshakes.{Handshakes, all_answered}
use Rattle.collector.specs.References.{SlotsPass}
use Rattle.collector.specs.Phases.{is_marked_address, is_marked_old, no_progress}
use Rattle.collector.specs.Soundness.{AreMarked, IsListed, IsSoundHeap}
use Rattle.collector.specs.MarkSteps.{is_closed, is_none_grey}
use Rattle.collector.specs.Holds.{HasNotBegun}
use Rattle.collector.specs.declared.progress.Progress.{Progress}
use Rattle.collector.proofs.Addresses.Tests.{marked_cell, never}
use Rattle.collector.proofs.BlockWalks.CollectorOffsets.{HasCursor-begun}
use Rattle.collector.proofs.Marks.MarkChanges.{AreCopied-in_mark, AreDarker-same, IsSoundHeap-darker}
use Rattle.collector.proofs.PhaseChanges.LaterPhases.{IsSoundHeap-on}

-- each marked old object refers to marked ones alone
abbrev pub IsClosedMarking : Tree → Spaces → Type 0
IsClosedMarking tree m = (a : Addr) (c : Cell) → cell_in m.old a ≡ Some c → c.marked ≡ true → SlotsPass tree (is_marked_address m) c

-- ---- a cycle opens

module _ (tree : Tree) (has_round : Bool) (words : ℕ) (p : Progress) (m : Spaces) (sound : IsSoundHeap tree Idle has_round words p m) (next : ℕ) (grows : m.old.words ≤ next) (most : next ≤ words) where
  -- nothing is marked then
  opened_unmarked : (a : Addr) (c : Cell) → cell_in m.old a ≡ Some c → c.marked ≡ true → ⊥
  opened_unmarked a c e marked = never (sym (sound.copies.unmarked a c e refl) ∙ marked)

  opened_marks : AreMarked tree false no_progress (open_cycle m next)
  opened_marks = record {
    listed = All-nil (λ a. is_marked_old (open_cycle m next) a ≡ true);
    black = λ a c e marked. absurd (opened_unmarked a c e marked);
    fresh = λ none. refl;
    oldest = λ g rest c list lies slot word near there held. absurd (omega (arith, near));
    closed = λ round clean a c e marked. absurd (opened_unmarked a c e marked);
  }

  -- a cycle opens in Mark, with nothing done
  pub IsSoundHeap-opened : IsSoundHeap tree Mark false words no_progress (open_cycle m next)
  IsSoundHeap-opened = record {
    blocks = record {
      few = sound.blocks.few;
      spaces = AreSpaces-opened m sound.blocks.spaces next (omega (arith, most, sound.blocks.few));
      held = refl;
      old_words = sound.blocks.old_words;
      new_words = most;
      grows = λ cycle. grows;
      none_new = λ early. refl;
      none_grey = λ between. refl;
    };
    copies = AreCopied-in_mark tree no_progress (open_cycle m next) refl
        (λ a c e. sound.copies.no_copy a c e refl)
        (λ a c e. sound.copies.old_references a c e refl)
        (HasShellRoom-opened m next grows);
    cursor = HasCursor-begun Mark (open_cycle m next);
    loaded = λ e. absurd cc;
    marks = λ posted_phase. opened_marks;
    cleared = λ posted_phase. absurd cc;
  }

  -- and the collector has not begun
  pub HasNotBegun-opened : HasNotBegun Mark false no_progress (open_cycle m next)
  HasNotBegun-opened = record {
    nothing = refl;
    no_round = λ posted_phase. refl;
    all_grey = λ posted_phase a h. let c = marked_cell (open_cycle m next) a h in absurd (opened_unmarked a c.0 c.1 c.2);
  }

-- nor has it of any other phase that it posts
pub HasNotBegun-posted : (posted_phase : Phase) (has_round : Bool) (m : Spaces) → posted_phase ≢ Mark → HasNotBegun posted_phase has_round no_progress m
HasNotBegun-posted posted_phase has_round m other = record { nothing = refl; no_round = λ e. absurd (other e); all_grey = λ e. absurd (other e) }

-- ---- a round is posted

module _ (tree : Tree) (has_round : Bool) (words : ℕ) (p : Progress) (m : Spaces) (sound : IsSoundHeap tree Mark has_round words p m) where
  -- where nothing is grey, each marked object refers to marked ones alone
  pub black-is_closed : m.grey ≡ [] → IsClosedMarking tree m
  black-is_closed none a c e marked = elim ((sound.marks refl).black a c e marked) [
    | inl listed ↦ elim (subst (λ l. IsListed l a) none listed) [ ]
    | inr black ↦ black
  ]

  -- so a round can be posted, which begins with nothing marked
  pub IsSoundHeap-round : m.grey ≡ [] → IsSoundHeap tree Mark true words p (record m { has_marked = false })
  IsSoundHeap-round none =
      let marks = sound.marks refl in
      IsSoundHeap-darker tree has_round words p m (record m { has_marked = false }) sound (AreDarker-same m (record m { has_marked = false }) refl refl refl) true p
      (record { listed = marks.listed; black = marks.black; fresh = marks.fresh; oldest = marks.oldest; closed = λ round clean. black-is_closed none })

  -- ---- marking ends

  shells_then : (a : Addr) (c : Cell) → cell_in m.old a ≡ Some c → a.number < m.old.start + 0 → ⊥
  shells_then a c e early = absurd (omega (arith, early, (range_in m.old a c e).0))

  -- where each marked object refers to marked ones alone, Allocate can be posted
  pub IsSoundHeap-allocate : IsClosedMarking tree m → (round_then : Bool) → IsSoundHeap tree Allocate round_then words no_progress m
  IsSoundHeap-allocate closed round_then =
      IsSoundHeap-on tree Mark Allocate has_round round_then words p no_progress m sound refl refl refl (λ e. absurd cc)
      (λ a c word lies some short is. absurd (some (sound.copies.no_copy a c lies refl))) (λ a c lies marked early. absurd (shells_then a c lies early)) closed
      (λ e. sound.copies.room (inl refl)) (HasCursor-begun Allocate m) (λ e. absurd cc) (λ e. absurd cc)

-- what the end of marking takes
pub record HasClosed (p : Progress) (o : Objects) (h : Handshakes) : Type 0 where
  pub statics : p.scanned_statics ≡ true
  pub none_grey : o.spaces.grey ≡ []
  pub round : h.has_round ≡ true
  pub answered : all_answered h ≡ true
  pub clean : o.spaces.has_marked ≡ false

no_grey : (list : List Addr) → is_none_grey list ≡ true → list ≡ []
no_grey [] e = refl
no_grey (g ∷ rest) e = never e

pub is_closed-means : (p : Progress) (o : Objects) (h : Handshakes) → is_closed p o h ≡ true → HasClosed p o h
is_closed-means p o h e =
    let s = and_parts p.scanned_statics (is_none_grey o.spaces.grey && (h.has_round && (all_answered h && not o.spaces.has_marked))) e in
    let g = and_parts (is_none_grey o.spaces.grey) (h.has_round && (all_answered h && not o.spaces.has_marked)) s.1 in
    let r = and_parts h.has_round (all_answered h && not o.spaces.has_marked) g.1 in
    let a = and_parts (all_answered h) (not o.spaces.has_marked) r.1 in
    record { statics = s.0; none_grey = no_grey o.spaces.grey g.0; round = r.0; answered = a.0; clean = not-true o.spaces.has_marked a.1 }

module _ (tree : Tree) (words : ℕ) (p : Progress) (o : Objects) (h : Handshakes) (sound : IsSoundHeap tree Mark h.has_round words p o.spaces) (closed : is_closed p o h ≡ true) where
  -- where nothing is left to mark, each marked object refers to marked ones alone,
  pub is_closed-marking : IsClosedMarking tree o.spaces
  is_closed-marking = black-is_closed tree h.has_round words p o.spaces sound (is_closed-means p o h closed).none_grey

  -- and Allocate can be posted
  pub IsSoundHeap-closed : IsSoundHeap tree Allocate h.has_round words no_progress o.spaces
  IsSoundHeap-closed = IsSoundHeap-allocate tree h.has_round words p o.spaces sound is_closed-marking h.has_round
