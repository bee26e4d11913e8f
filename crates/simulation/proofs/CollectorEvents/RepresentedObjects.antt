-- Events of the collector keep what a machine represents, where its names are those of what is live.
use Rattle.std.proofs.Common.{◌≡◌, ◌⊎◌, inl, inr, ℕ, ◌+◌, ◌-◌, Bool, true, false, List, [], Option, Some, None, slice_get, refl, sym, ap, ◌∙◌, subst}
use Rattle.std.specs.Option.{option_map_or}
use Rattle.std.proofs.lemmas.Option.{none-some}
use Rattle.interpreter.specs.cil_model.declared.phases.Phase.{Phase}
use Rattle.interpreter.specs.cil_model.declared.phases.Phase.TheVariants.{Mark, Allocate, Copy, HeapFlip, Reclaim}
use Rattle.interpreter.specs.cil_model.declared.reports.Report.{Report}
use Rattle.interpreter.specs.cil_model.declared.trees.Tree.{Tree}
use Rattle.interpreter.specs.cil_model.Fields.{FieldKey}
use Rattle.interpreter.specs.reference_machine.Values.{Born, ObjectName, Value as StateValue}
use Rattle.interpreter.specs.reference_machine.States.{HeapObject, State}
use Rattle.interpreter.specs.object_memory.declared.addresses.Addr.{Addr}
use Rattle.interpreter.specs.object_memory.declared.values.Value.{Value}
use Rattle.interpreter.specs.object_memory.Cells.{Cell, cell_in, size}
use Rattle.interpreter.specs.object_memory.Objects.{Objects, object_cell}
use Rattle.interpreter.specs.object_memory.Spaces.{Spaces, clear, first_of, found_in, is_noted, open_cycle, other_of, AreSpaces}
use Rattle.interpreter.specs.instructions.barriers.Barriers.{forward_value}
use Rattle.collector.specs.Phases.{is_live, is_read}
use Rattle.collector.specs.Soundness.{IsSoundHeap}
use Rattle.collector.specs.MarkSteps.{statics_scanned}
use Rattle.collector.specs.CopySteps.{next_copy_step, next_shell_step}
use Rattle.collector.specs.Flips.{clear_step_at, next_clear_step, flip_step, next_flip_step, retire_old}
use Rattle.collector.specs.Holds.{AnyLive}
use Rattle.collector.specs.declared.progress.Progress.{Progress}
use Rattle.collector.specs.phase_handshake.Handshakes.{Handshakes}
use Rattle.simulation.specs.Agreement.{Agree}
use Rattle.simulation.specs.MachineStates.{MachineState}
use Rattle.simulation.specs.Sound.{IsSound}
use Rattle.simulation.specs.CollectorSteps.{collect, initial_words}
use Rattle.simulation.specs.Refines.{AreTwins, IsCell, IsHeap, IsMonitor, IsOfContents, IsValue, Names, RefinesUnder}
use Rattle.interpreter.proofs.object_memory.TwoSpaces.TwoBlocks.{either, new_is_cell, old_is_cell}
use Rattle.collector.proofs.Addresses.Tests.{is_new_live, live_is_late, live_is_read, never, new_has_cell, none_is_new}
use Rattle.collector.proofs.Marks.MarkChanges.{AreDarker, AreDarker-same, stays_there}
use Rattle.collector.proofs.Marks.MarkedHeaps.{AreDarker-with_all_marked, with_all_marked-literals}
use Rattle.collector.proofs.Marks.MarkWork.{AreDarker-next_mark_step, next_mark_step-literals}
use Rattle.collector.proofs.Copies.AllocateWork.{looked_sound}
use Rattle.collector.proofs.Copies.UnchangedReads.{copied_else, copied_live, copied_old, looked_else, looked_live, looked_new, looked_old}
use Rattle.collector.proofs.Copies.CopyWork.{copied_sound}
use Rattle.collector.proofs.PhaseChanges.ReclaimWork.{ShowsSame, cleared_shows, cleared_sound, cleared_stays, retired_cell, retired_sound}
use Rattle.simulation.proofs.Representation.NormalNames.{IsNormal, other_cell}
use Rattle.simulation.proofs.ListLaws.AgreeingLists.{agree_changed}
use Rattle.simulation.proofs.Memory.NamedAddresses.{literal_beside}
use Rattle.simulation.proofs.CollectorEvents.EventCases.{IsWork, allocated, allocates_copy, by_cases, cleared, clears_object, copied, copies_word, ends_cycle, flips_static, marked, marks_object, opens_cycle, posting, posts_round, scans_statics}
use Rattle.simulation.proofs.CollectedHeap.TwoCopies.{value_forwarded}

-- ---- objects that show the same through each name

-- the literals are the same, each named object shows what it did, and the same names are twins
pub record ShowsNames (name : Names) (o o' : Objects) : Type 0 where
  pub literals : o'.literals ≡ o.literals
  pub shows : (a n : ℕ) → name a ≡ Some (Born n) → (c : Cell) → object_cell o (record { number = a }) ≡ Some c → (d : Cell) × (object_cell o' (record { number = a }) ≡ Some d) × ShowsSame c d
  pub stay : (a b : ℕ) (n k : ObjectName) → name a ≡ Some n → name b ≡ Some k → AreTwins o.spaces a b → AreTwins o'.spaces a b
  pub were : (a b : ℕ) (n k : ObjectName) → name a ≡ Some n → name b ≡ Some k → AreTwins o'.spaces a b → AreTwins o.spaces a b

-- a cell that stays
shows_itself : (c : Cell) → ShowsSame c c
shows_itself c = record { kind = refl; slots = refl; monitor = refl }

-- a cell that shows the same is one of the same object
cell_shown : (tree : Tree) (name : Names) (c d : Cell) (object : HeapObject) → ShowsSame c d → IsCell tree name c object → IsCell tree name d object
cell_shown tree name c d object same is = record {
  contents = subst (λ k. IsOfContents tree name k d.slots object.contents object.thread) (sym same.kind)
      (subst (λ l. IsOfContents tree name c.kind l object.contents object.thread) (sym same.slots) is.contents);
  monitor = subst (λ m. IsMonitor m object.monitor) (sym same.monitor) is.monitor;
}

-- and a heap with such objects holds the same
pub heap_shown : (tree : Tree) (name : Names) (o o' : Objects) (s : State) → ShowsNames name o o' → IsHeap tree name o s → IsHeap tree name o' s
heap_shown tree name o o' s same heap = record {
  null_unnamed = heap.null_unnamed;
  small = heap.small;
  names = record {
    one = λ a b n ea eb. elim (heap.names.one a b n ea eb) [ inl equal ↦ inl equal | inr twins ↦ inr (same.stay a b n n ea eb twins) ];
    twins = λ a b n k ea eb twins. heap.names.twins a b n k ea eb (same.were a b n k ea eb twins);
  };
  born = λ a n e.
      (let r = heap.born a n e in
      let d = same.shows a n e r.cell r.lies in
      record { no_literal = r.no_literal; cell = d.0; lies = d.1; object = r.object; is = r.is; refines = cell_shown tree name r.cell d.0 r.object d.2 r.refines });
  literals = λ a characters e. literal_beside tree o o' s s same.literals refl a characters (heap.literals a characters e);
  each_literal = heap.each_literal;
}

module _ (name : Names) (c : MachineState) (s : State) (refines : RefinesUnder name c s) where
  -- a machine with such objects represents the same state
  pub refines_shown : (o : Objects) → ShowsNames name c.objects o → RefinesUnder name (record c { objects = o }) s
  refines_shown o same = record {
    memory = record { heap = heap_shown c.tree name c.objects o s same refines.memory.heap; static_values = refines.memory.static_values; printed_is = refines.memory.printed_is };
    threads = refines.threads;
  }

-- ---- twins

-- twins of one heap are twins of another in which each old object has the same other copy
twins_by : (m m' : Spaces) → ((a : Addr) → other_of (cell_in m'.old a) ≡ other_of (cell_in m.old a)) → (a b : ℕ) → AreTwins m a b → AreTwins m' a b
twins_by m m' same a b (inl e) = inl (same (record { number = a }) ∙ e)
twins_by m m' same a b (inr e) = inr (same (record { number = b }) ∙ e)

-- where a live object has no live copy, none are twins of live ones
twins_never : {A : Type 0} (m : Spaces) (live : Addr → Type 0) → ((a b : Addr) → live a → live b → other_of (cell_in m.old a) ≡ Some b → ⊥) → (a b : ℕ) → live (record { number = a }) → live (record { number = b }) → AreTwins m a b → A
twins_never m live none a b la lb (inl e) = absurd (none (record { number = a }) (record { number = b }) la lb e)
twins_never m live none a b la lb (inr e) = absurd (none (record { number = b }) (record { number = a }) lb la e)

module _ {A : Type 0} (tree : Tree) (posted_phase : Phase) (has_round : Bool) (words : ℕ) (p : Progress) (m : Spaces) (sound : IsSoundHeap tree posted_phase has_round words p m) (a b : ℕ)
    (live_a : is_live posted_phase m (record { number = a }) ≡ true) (live_b : is_live posted_phase m (record { number = b }) ≡ true) where
  -- until new objects are live
  twins_early : is_new_live posted_phase ≡ false → AreTwins m a b → A
  twins_early early = twins_never m (λ x. is_live posted_phase m x ≡ true) none a b live_a live_b
    where
      none : (x y : Addr) → is_live posted_phase m x ≡ true → is_live posted_phase m y ≡ true → other_of (cell_in m.old x) ≡ Some y → ⊥
      none x y lx ly e =
          let c = other_cell (cell_in m.old x) y e in
          let d = sound.copies.out x y c.0 c.1 c.2 in
          never (sym early ∙ live_is_late m sound.blocks.spaces y d.0 posted_phase d.1 ly)

  -- and once old ones aren't
  twins_late : ((c : Cell) → is_read posted_phase c ≡ false) → AreTwins m a b → A
  twins_late late = twins_never m (λ x. is_live posted_phase m x ≡ true) none a b live_a live_b
    where
      none : (x y : Addr) → is_live posted_phase m x ≡ true → is_live posted_phase m y ≡ true → other_of (cell_in m.old x) ≡ Some y → ⊥
      none x y lx ly e =
          let c = other_cell (cell_in m.old x) y e in
          never (sym (late c.0) ∙ live_is_read m sound.blocks.spaces x c.0 posted_phase c.1 lx)

-- ---- Idle and Mark

-- a cycle opens
pub opened_shows : (name : Names) (o : Objects) (words : ℕ) → o.spaces.new.cells ≡ [] → ShowsNames name o (record o { spaces = open_cycle o.spaces words })
opened_shows name o words none = record {
  literals = refl;
  shows = λ a n e c lies. (c, sym (ap (first_of (cell_in o.spaces.old (record { number = a }))) (none_is_new o.spaces (record { number = a }) none)) ∙ lies, shows_itself c);
  stay = λ a b n k ea eb twins. twins;
  were = λ a b n k ea eb twins. twins;
}

-- an object that is marked has the same other copy
pub darker_other : (m m' : Spaces) → AreDarker m m' → (a : Addr) → other_of (cell_in m'.old a) ≡ other_of (cell_in m.old a)
darker_other m m' darker a = by_cells (cell_in m.old a) (cell_in m'.old a) refl refl
  where
    by_cells : (x y : Option Cell) → cell_in m.old a ≡ x → cell_in m'.old a ≡ y → other_of y ≡ other_of x
    by_cells None None was is = refl
    by_cells None (Some d) was is = let c = darker.was a d is in absurd (none-some c.0 (sym was ∙ c.1))
    by_cells (Some c) y was is = let d = darker.kept a c was in ap other_of (sym is ∙ d.1) ∙ d.2.other

-- which changes nothing that is shown
pub darker_shows : (name : Names) (o o' : Objects) → AreSpaces o.spaces → o'.literals ≡ o.literals → AreDarker o.spaces o'.spaces → ShowsNames name o o'
darker_shows name o o' spaces literals darker = record {
  literals = literals;
  shows = λ a n e c lies.
      (let d = stays_there o.spaces o'.spaces darker spaces (record { number = a }) c lies in
      (d.0, d.1, record { kind = d.2.kind; slots = d.2.slots; monitor = d.2.monitor }));
  stay = λ a b n k ea eb twins. twins_by o.spaces o'.spaces (darker_other o.spaces o'.spaces darker) a b twins;
  were = λ a b n k ea eb twins. twins_by o'.spaces o.spaces (λ x. sym (darker_other o.spaces o'.spaces darker x)) a b twins;
}

-- ---- Allocate and Copy

-- an object gets its copy
pub looked_shows : (name : Names) (o : Objects) (has_round : Bool) (tree : Tree) (words : ℕ) (p : Progress) → IsSoundHeap tree Allocate has_round words p o.spaces → IsNormal Allocate o.spaces name → ShowsNames name o (next_shell_step p o).1
looked_shows name o has_round tree words p sound normal = record {
  literals = (looked_else p o).literals;
  shows = λ a n e c lies. by_block (record { number = a }) c (either o.spaces (record { number = a }) c lies);
  stay = λ a b n k ea eb twins. twins_early tree Allocate has_round words p o.spaces sound a b (normal.live a n ea) (normal.live b k eb) refl twins;
  were = λ a b n k ea eb twins.
      twins_early tree Allocate has_round words (next_shell_step p o).0 (next_shell_step p o).1.spaces after a b (looked_live p o (record { number = a }) ∙ normal.live a n ea) (looked_live p o (record { number = b }) ∙ normal.live b k eb) refl twins;
}
  where
    after : IsSoundHeap tree Allocate has_round words (next_shell_step p o).0 (next_shell_step p o).1.spaces
    after = looked_sound tree has_round words p o sound

    by_block : (x : Addr) (c : Cell) → (cell_in o.spaces.old x ≡ Some c) ⊎ (cell_in o.spaces.new x ≡ Some c) → (d : Cell) × (object_cell (next_shell_step p o).1 x ≡ Some d) × ShowsSame c d
    by_block x c (inl old) =
        let d = looked_old p o x c old in
        (d.0, old_is_cell (next_shell_step p o).1.spaces x d.0 d.1, record { kind = d.2.kind; slots = d.2.slots; monitor = d.2.monitor })
    by_block x c (inr new) = (c, new_is_cell (next_shell_step p o).1.spaces after.blocks.spaces x c (looked_new p o tree has_round words sound x c new), shows_itself c)

-- a word is copied, of an object that isn't live yet
pub copied_shows : (name : Names) (o : Objects) (has_round : Bool) (tree : Tree) (words : ℕ) (p : Progress) → IsSoundHeap tree Copy has_round words p o.spaces → IsNormal Copy o.spaces name → ShowsNames name o (next_copy_step tree p o).1
copied_shows name o has_round tree words p sound normal = record {
  literals = (copied_else tree p o).literals;
  shows = λ a n e c lies. by_block (record { number = a }) c (normal.live a (Born n) e) (either o.spaces (record { number = a }) c lies);
  stay = λ a b n k ea eb twins. twins_early tree Copy has_round words p o.spaces sound a b (normal.live a n ea) (normal.live b k eb) refl twins;
  were = λ a b n k ea eb twins.
      twins_early tree Copy has_round words (next_copy_step tree p o).0 (next_copy_step tree p o).1.spaces (copied_sound tree has_round words p o sound) a b
      (live (record { number = a }) ∙ normal.live a n ea) (live (record { number = b }) ∙ normal.live b k eb) refl twins;
}
  where
    live : (x : Addr) → is_live Copy (next_copy_step tree p o).1.spaces x ≡ is_live Copy o.spaces x
    live x = copied_live tree p o has_round words sound x

    by_block : (x : Addr) (c : Cell) → is_live Copy o.spaces x ≡ true → (cell_in o.spaces.old x ≡ Some c) ⊎ (cell_in o.spaces.new x ≡ Some c)
        → (d : Cell) × (object_cell (next_copy_step tree p o).1 x ≡ Some d) × ShowsSame c d
    by_block x c live_x (inl old) =
        (c, old_is_cell (next_copy_step tree p o).1.spaces x c (ap (λ s. cell_in s x) (copied_old tree p o has_round words sound) ∙ old), shows_itself c)
    by_block x c live_x (inr new) = never (live_is_late o.spaces sound.blocks.spaces x c Copy new live_x)

-- ---- HeapFlip

module _ (name : Names) (o : Objects) (has_round : Bool) (tree : Tree) (words : ℕ) (p : Progress) (sound : IsSoundHeap tree HeapFlip has_round words p o.spaces) (normal : IsNormal HeapFlip o.spaces name) where
  -- a static field is flipped
  pub flipped_agree : (statics : List Value) (fields : List (FieldKey × StateValue)) → Agree (λ v (f : FieldKey × StateValue). IsValue name v f.1) statics fields
      → Agree (λ v (f : FieldKey × StateValue). IsValue name v f.1) (next_flip_step p o statics).1 fields
  flipped_agree statics fields agree = by_field (slice_get statics p.flipped_statics) refl
    where
      by_field : (x : Option Value) → slice_get statics p.flipped_statics ≡ x → Agree (λ v (f : FieldKey × StateValue). IsValue name v f.1) (flip_step p o statics x).1 fields
      by_field None is = agree
      by_field (Some v) is =
          agree_changed (λ w (f : FieldKey × StateValue). IsValue name w f.1) statics fields p.flipped_statics v (forward_value o v) is (λ f refines. value_forwarded tree HeapFlip has_round words p o sound refl name normal.filled v f.1 refines) agree

-- ---- Reclaim

-- no monitor of a literal changes
cleared_literals : (p : Progress) (o : Objects) (x : Option ℕ) → (clear_step_at p o x).1.literals ≡ o.literals
cleared_literals p o None = refl
cleared_literals p o (Some at) = by_cell (cell_in o.spaces.new (record { number = at }))
  where
    by_cell : (x : Option Cell)
        → (option_map_or {U = Progress × Objects × Bool} (λ (c : Cell). (record p { cursor = at - o.spaces.new.start + size c }, record o { spaces = clear o.spaces (record { number = at }) }, true)) x (p, o, false)).1.literals ≡ o.literals
    by_cell None = refl
    by_cell (Some c) = refl

-- a new object is cleared
pub cleared_shows_names : (name : Names) (o : Objects) (has_round : Bool) (tree : Tree) (words : ℕ) (p : Progress) → IsSoundHeap tree Reclaim has_round words p o.spaces → IsNormal Reclaim o.spaces name → ShowsNames name o (next_clear_step p o).1
cleared_shows_names name o has_round tree words p sound normal = record {
  literals = cleared_literals p o (found_in is_noted o.spaces.new (o.spaces.new.start + p.cursor));
  shows = λ a n e c lies. cleared_shows tree has_round words p o sound (record { number = a }) c lies;
  stay = λ a b n k ea eb twins. twins_late tree Reclaim has_round words p o.spaces sound a b (normal.live a n ea) (normal.live b k eb) (λ c. refl) twins;
  were = λ a b n k ea eb twins.
      twins_late tree Reclaim has_round words (next_clear_step p o).0 (next_clear_step p o).1.spaces (cleared_sound tree has_round words p o sound) a b
      (cleared_stays tree has_round words p o sound AnyLive (record { number = a }) (normal.live a n ea)) (cleared_stays tree has_round words p o sound AnyLive (record { number = b }) (normal.live b k eb)) (λ c. refl) twins;
}

-- the new block is the only one then
pub retired_shows : (name : Names) (o : Objects) (has_round : Bool) (tree : Tree) (words : ℕ) (p : Progress) → IsSoundHeap tree Reclaim has_round words p o.spaces → IsNormal Reclaim o.spaces name → (next_clear_step p o).2 ≡ false → ShowsNames name o (retire_old o)
retired_shows name o has_round tree words p sound normal over = record {
  literals = refl;
  shows = λ a n e c lies. (c, retired_cell o sound.blocks.spaces (record { number = a }) c (new_has_cell o.spaces sound.blocks.spaces (record { number = a }) c lies (normal.live a (Born n) e)), shows_itself c);
  stay = λ a b n k ea eb twins. twins_late tree Reclaim has_round words p o.spaces sound a b (normal.live a n ea) (normal.live b k eb) (λ c. refl) twins;
  were = λ a b n k ea eb twins. twins_never (retire_old o).spaces (λ x. Unit {0}) no_copy a b tt tt twins;
}
  where
    no_copy : (x y : Addr) → Unit {0} → Unit {0} → other_of (cell_in (retire_old o).spaces.old x) ≡ Some y → ⊥
    no_copy x y _ _ e =
        let c = other_cell (cell_in (retire_old o).spaces.old x) y e in
        absurd (none-some y (sym ((retired_sound tree has_round words p o sound over).copies.no_copy x c.0 c.1 refl) ∙ c.2))

-- ---- each phase

module _ (name : Names) (c : MachineState) (s : State) where
  -- objects are marked
  dark_refines : IsSound (posting Mark c) → (o : Objects) → o.literals ≡ c.objects.literals → AreDarker c.objects.spaces o.spaces → RefinesUnder name c s → RefinesUnder name (record c { objects = o }) s
  dark_refines sound o literals darker refines = refines_shown name c s refines o (darker_shows name c.objects o sound.heap.blocks.spaces literals darker)

  -- what is represented doesn't depend on the posts and the progress
  beside : (d : MachineState) → RefinesUnder name d s → (h : Handshakes) (p : Progress) → RefinesUnder name (record d { posts = h; progress = p }) s
  beside d refines h p = record { memory = refines.memory; threads = refines.threads }

  work_refines : (x : Phase) (after : MachineState × Report) → IsWork c x after → IsSound (posting x c) → IsNormal x c.objects.spaces name → RefinesUnder name c s → RefinesUnder name after.0 s
  work_refines _ _ opens_cycle sound normal refines = beside _ (refines_shown name c s refines _ (opened_shows name c.objects (initial_words c) (sound.heap.blocks.none_new refl))) _ _
  work_refines _ _ (scans_statics early) sound normal refines =
      beside _ (dark_refines sound (statics_scanned c.progress c.objects c.statics).1 (with_all_marked-literals c.statics c.objects) (AreDarker-with_all_marked c.statics c.objects sound.heap.blocks.spaces) refines) _ _
  work_refines _ _ (marks_object scanned step) sound normal refines =
      beside _ (dark_refines sound (marked c).1 (next_mark_step-literals c.tree c.progress c.objects) (AreDarker-next_mark_step c.tree c.posts.has_round c.limits.max_words c.progress c.objects sound.heap) refines) _ _
  work_refines _ _ (posts_round scanned over more answered) sound normal refines =
      beside _ (dark_refines sound (record c.objects { spaces = record c.objects.spaces { has_marked = false } }) refl (AreDarker-same c.objects.spaces (record c.objects.spaces { has_marked = false }) refl refl refl) refines) _ _
  work_refines _ _ (allocates_copy step) sound normal refines = beside _ (refines_shown name c s refines (allocated c).1 (looked_shows name c.objects c.posts.has_round c.tree c.limits.max_words c.progress sound.heap normal)) _ _
  work_refines _ _ (copies_word step) sound normal refines = beside _ (refines_shown name c s refines (copied c).1 (copied_shows name c.objects c.posts.has_round c.tree c.limits.max_words c.progress sound.heap normal)) _ _
  work_refines _ _ (flips_static step) sound normal refines = record {
    memory = record {
      heap = refines.memory.heap;
      static_values = flipped_agree name c.objects c.posts.has_round c.tree c.limits.max_words c.progress sound.heap normal c.statics s.statics refines.memory.static_values;
      printed_is = refines.memory.printed_is;
    };
    threads = refines.threads;
  }
  work_refines _ _ (clears_object step) sound normal refines = beside _ (refines_shown name c s refines (cleared c).1 (cleared_shows_names name c.objects c.posts.has_round c.tree c.limits.max_words c.progress sound.heap normal)) _ _
  work_refines _ _ (ends_cycle over) sound normal refines = beside _ (refines_shown name c s refines (retire_old c.objects) (retired_shows name c.objects c.posts.has_round c.tree c.limits.max_words c.progress sound.heap normal over)) _ _
  work_refines _ _ _ sound normal refines = record { memory = refines.memory; threads = refines.threads }

  -- after an event of the collector a machine represents the same state, under the same names
  pub collected_refines : IsSound c → IsNormal c.posts.posted_phase c.objects.spaces name → RefinesUnder name c s → RefinesUnder name (collect c).0 s
  collected_refines sound normal refines = by_cases c (λ x. RefinesUnder name x.0 s) (λ seen after is. work_refines c.posts.posted_phase after is sound normal refines) (λ late. refines)
