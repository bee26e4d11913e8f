-- The memory of a thread with the names that a cycle keeps: each name is one that the thread had where its step began, or that of an object born since; and
-- what has to have a name has one of these, or had to have it where the step began.
use Rattle.std.proofs.Common.{◌≡◌, ◌⊎◌, ◌≤◌, ℕ, true, List, [], ◌∷◌, length, replicate, Option, Some, None, refl, inl, inr, sym, ◌∙◌, subst, arith}
use Rattle.std.proofs.lemmas.List.{length-append, length-set}
use Rattle.interpreter.proofs.cil_model.Lists.{none_is_some}
use Rattle.interpreter.specs.cil_model.declared.phases.Phase.TheVariants.{Mark}
use Rattle.interpreter.specs.cil_model.declared.trees.Tree.{Tree}
use Rattle.interpreter.specs.cil_model.Legality.{IsLegal}
use Rattle.interpreter.specs.reference_machine.Values.{Born, ObjectName, Value as StateValue}
use Rattle.interpreter.specs.reference_machine.States.{Contents, Free as IsFree, HeapObject, State, next_name, with_birth as with_state_birth, with_object}
use Rattle.interpreter.specs.object_memory.declared.addresses.Addr.{Addr}
use Rattle.interpreter.specs.object_memory.declared.kinds.Kind.{Kind}
use Rattle.interpreter.specs.object_memory.declared.values.Value.{Value}
use Rattle.interpreter.specs.object_memory.declared.values.Value.TheVariants.{Ref}
use Rattle.interpreter.specs.object_memory.Cells.{cell_in, null}
use Rattle.interpreter.specs.object_memory.Objects.{Objects}
use Rattle.interpreter.specs.object_memory.Spaces.{AreSpaces, is_old}
use Rattle.interpreter.specs.instructions.barriers.Barriers.{object_born, stored_int, stored_monitor, stored_value}
use Rattle.collector.specs.phase_handshake.Handshakes.{Handshakes, IsClose}
use Rattle.collector.specs.phase_handshake.declared.posts.Seat.{Seat}
use Rattle.collector.specs.Holds.{IsOnTime}
use Rattle.collector.specs.declared.progress.Progress.{Progress}
use Rattle.collector.proofs.ThreadReferences.AfterStores.{marked_first, monitor_alike, static_marks, value_alike, word_alike}
use Rattle.collector.proofs.Births.BirthSoundness.{near_of_close}
use Rattle.collector.proofs.Addresses.TagChanges.{AreAlike}
use Rattle.collector.proofs.Addresses.Tests.{old_cell, permanent_not_old}
use Rattle.simulation.specs.Refines.{IsOfContents, IsValue, null_reference, reference, Names}
use Rattle.simulation.proofs.CollectedHeap.CollectedMemory.{collected}
use Rattle.simulation.proofs.CollectedHeap.NewObjects.{births_copied, births_only, collected_births}
use Rattle.simulation.proofs.CollectedHeap.VisibleNames.{FitsCollected, first_hold, means}
use Rattle.simulation.proofs.RetainedWords.CycleNames.{IsNamed, KeepsNames, birth_adds, birth_copies, copies_alike, first_adds, first_copies, is_kept, kept_alike, kept_is_held, kept_is_live}
use Rattle.simulation.proofs.Memory.MemoryModels.{IsBirth, MemoryModel}

-- a name that was there, or that of an object born since there were this number
abbrev pub IsKnown : Names → ℕ → ObjectName → Type 0
IsKnown own begun n = ((a : ℕ) × (own a ≡ Some n)) ⊎ ((k : ℕ) × (Born k ≡ n) × (begun ≤ k))

-- ---- what a store marks has a name

reference_is : (a x : Addr) → Ref a ≡ Ref x → a ≡ x
reference_is a x e = cc

module _ (name : Names) (o : Objects) (spaces : AreSpaces o.spaces) (x : Addr) (old : is_old o.spaces x ≡ true) where
  value_named : (v : Value) (u : StateValue) → IsValue name v u → v ≡ Ref x → IsNamed name x
  value_named v u null_reference e =
      let c = old_cell o.spaces x old in
      none_is_some c.0 (sym (subst (λ (a : Addr). cell_in o.spaces.old a ≡ None) (reference_is null x e) (permanent_not_old o.spaces spaces null refl)) ∙ c.1)
  value_named v u (reference a n is) e = (n, subst (λ (b : Addr). name b.number ≡ Some n) (reference_is a x e) is)
  value_named v u _ e = absurd cc

module _ (tree : Tree) (legal : IsLegal tree) (words : ℕ) (h : Handshakes) (p : Progress) (seat : Seat) (close : IsClose h seat) (rounds : h.posted_phase ≡ Mark → h.has_round ≡ true → p.scanned_statics ≡ true) (first : Objects)
    (time : IsOnTime seat.phase h.posted_phase h.has_round p first.spaces) (all : Names) (own : Names) (begun : ℕ) where
  -- the heap with its names
  pub record FitsNamed (name : Names) (o : Objects) (ss : List Value) (s : State) : Type 0 where
    pub fits : FitsCollected tree words h p seat first all name o ss s
    pub names : KeepsNames h.posted_phase (IsKnown own begun) first.spaces o.spaces name
    pub more : begun ≤ length s.objects

  module _ (name : Names) (o : Objects) (ss : List Value) (s : State) (fit : FitsNamed name o ss s) where
    -- ---- the same names

    -- where the same addresses are marked and new
    pub alike_names : (o' : Objects) → AreAlike o.spaces o'.spaces → KeepsNames h.posted_phase (IsKnown own begun) first.spaces o'.spaces name
    alike_names o' alike = record {
      known = fit.names.known;
      kept = λ x kept. fit.names.kept x (kept_alike h.posted_phase o.spaces o'.spaces alike x kept);
      copies = λ are. copies_alike h.posted_phase o.spaces o'.spaces alike (fit.names.copies are);
    }

    -- where a named value is marked first
    pub marked_names : (v : Value) (u : StateValue) → IsValue name v u → KeepsNames h.posted_phase (IsKnown own begun) first.spaces (marked_first seat.phase o v).spaces name
    marked_names v u refines = record {
      known = fit.names.known;
      kept = λ x kept. elim (first_adds seat.phase h.posted_phase o fit.fits.sound.blocks.spaces v x kept) [
        | inl was ↦ fit.names.kept x was
        | inr here ↦ inr (value_named name o fit.fits.sound.blocks.spaces x here.1 v u refines here.0)
      ];
      copies = λ are. first_copies seat.phase h.posted_phase o fit.fits.sound.blocks.spaces v (fit.names.copies are);
    }

    pub stored_names : (a : Addr) (slot : ℕ) (v : Value) (u : StateValue) → IsValue name v u → KeepsNames h.posted_phase (IsKnown own begun) first.spaces (stored_value seat.phase o a slot v).spaces name
    stored_names a slot v u refines =
        let marked = marked_names v u refines in
        let alike = value_alike o a slot v seat.phase in
        record {
          known = marked.known;
          kept = λ x kept. marked.kept x (kept_alike h.posted_phase (marked_first seat.phase o v).spaces (stored_value seat.phase o a slot v).spaces alike x kept);
          copies = λ are. copies_alike h.posted_phase (marked_first seat.phase o v).spaces (stored_value seat.phase o a slot v).spaces alike (marked.copies are);
        }

    -- an object in place of another leaves the same number
    pub same_count : (n : ℕ) (object : HeapObject) → begun ≤ length (with_object s (Born n) object).objects
    same_count n object = subst (λ k. begun ≤ k) (sym (length-set s.objects n object)) fit.more

    -- ---- births

    module _ (k : Kind) (count : ℕ) (contents : Contents) (refines : (names : Names) → IsOfContents tree names k (replicate count 0) contents None) (born : Objects) (a : Addr) (e : ◌≡◌ {A = Objects × Option Addr} (object_born seat.phase o k count) (born, Some a)) where
      abbrev b : IsBirth (FitsCollected tree words h p seat first all) name ss s contents born a
      b = collected_births tree words h p seat close first time all name o ss s fit.fits k count contents refines born a e

      known_then : (x : ℕ) (n : ObjectName) → b.names x ≡ Some n → IsKnown own begun n
      known_then x n is = elim (births_only tree words h p seat close first time all name o ss s fit.fits k count contents refines born a e x n is) [
        | inl was ↦ fit.names.known x n was
        | inr new ↦ inr (length s.objects, new, fit.more)
      ]

      kept_then : (x : Addr) → is_kept h.posted_phase born.spaces x ≡ true → (is_kept h.posted_phase first.spaces x ≡ true) ⊎ IsNamed b.names x
      kept_then x kept = elim (birth_adds seat.phase h.posted_phase (near_of_close h seat close) o fit.fits.sound.blocks.spaces k count born a e x kept) [
        | inl was ↦ elim (fit.names.kept x was) [ inl before ↦ inl before | inr named ↦ inr (named.0, b.extends x.number named.0 named.1) ]
        | inr here ↦ inr (
          next_name s,
          elim here [
            | inl same ↦ subst (λ (y : Addr). b.names y.number ≡ Some (next_name s)) (sym same) b.named
            | inr other ↦
                births_copied tree words h p seat close first time all name o ss s fit.fits k count contents refines born a e x other (kept_is_live h.posted_phase born.spaces x kept)
                (kept_is_held h.posted_phase h.has_round born.spaces (first_hold h seat first) (means tree words h p seat first all b.names born ss (with_state_birth s contents) b.fits) x kept)
          ],
        )
      ]

      names_then : KeepsNames h.posted_phase (IsKnown own begun) first.spaces born.spaces b.names
      names_then = record {
        known = known_then;
        kept = kept_then;
        copies = λ are. birth_copies seat.phase h.posted_phase (near_of_close h seat close) o fit.fits.sound.blocks.spaces k count born a e (fit.names.copies are);
      }

      more_then : begun ≤ length (with_state_birth s contents).objects
      more_then = let one = length-append s.objects (record { contents = contents; monitor = IsFree; thread = None } ∷ []) in omega (arith, one, fit.more)

      pub born_named : IsBirth FitsNamed name ss s contents born a
      born_named = record { names = b.names; extends = b.extends; named = b.named; fits = record { fits = b.fits; names = names_then; more = more_then } }

  -- a thread's memory with its names
  unfoldable pub named : MemoryModel tree
  unfolding collected
  named =
      let base : MemoryModel tree = collected tree legal words h p seat close rounds first time all in
      record {
        phase = seat.phase;
        Fits = FitsNamed;
        reads = λ name o ss s fit typed. base.reads name o ss s fit.fits typed;
        statics = λ name o ss s fit. base.statics name o ss s fit.fits;
        with_objects = λ name o ss s s' fit same. record {
          fits = base.with_objects name o ss s s' fit.fits same;
          names = fit.names;
          more = subst (λ (objects : List HeapObject). begun ≤ length objects) (sym same.objects) fit.more;
        };
        comparable = λ name o ss s fit a b is is'. base.comparable name o ss s fit.fits a b is is';
        same = λ name o ss s fit a b n k is is'. base.same name o ss s fit.fits a b n k is is';
        same_null = λ name o ss s fit. base.same_null name o ss s fit.fits;
        null_name = λ name o ss s fit b k is. base.null_name name o ss s fit.fits b k is;
        name_null = λ name o ss s fit a n is. base.name_null name o ss s fit.fits a n is;
        storable = λ name o ss s fit a n is cell lies slot v u inside refines. base.storable name o ss s fit.fits a n is cell lies slot v u inside refines;
        slots = λ name o ss s fit typed a n is cell lies slot v u inside sort refines object linked after. record {
          fits = base.slots name o ss s fit.fits typed a n is cell lies slot v u inside sort refines object linked after;
          names = stored_names name o ss s fit a slot v u refines;
          more = same_count name o ss s fit n object;
        };
        word_storable = λ name o ss s fit a n is cell lies slot inside. base.word_storable name o ss s fit.fits a n is cell lies slot inside;
        hidden = λ name o ss s fit typed a n is cell lies slot w inside none object linked after. record {
          fits = base.hidden name o ss s fit.fits typed a n is cell lies slot w inside none object linked after;
          names = alike_names name o ss s fit (stored_int seat.phase o a slot w) (word_alike seat.phase o a slot w);
          more = same_count name o ss s fit n object;
        };
        monitor_storable = λ name o ss s fit a n is. base.monitor_storable name o ss s fit.fits a n is;
        monitors = λ name o ss s fit typed a n is cell lies monitor object linked after. record {
          fits = base.monitors name o ss s fit.fits typed a n is cell lies monitor object linked after;
          names = alike_names name o ss s fit (stored_monitor seat.phase o a monitor) (monitor_alike seat.phase o a monitor);
          more = same_count name o ss s fit n object;
        };
        literals = λ name o ss s fit a characters is monitor u refines. record {
          fits = base.literals name o ss s fit.fits a characters is monitor u refines;
          names = alike_names name o ss s fit (stored_monitor seat.phase o a monitor) (monitor_alike seat.phase o a monitor);
          more = fit.more;
        };
        static_storable = λ name o ss s fit v u refines. base.static_storable name o ss s fit.fits v u refines;
        static_stores = λ name o ss s fit n v u inside refines entries fields. record {
          fits = base.static_stores name o ss s fit.fits n v u inside refines entries fields;
          names = subst (λ (x : Objects). KeepsNames h.posted_phase (IsKnown own begun) first.spaces x.spaces name) (sym (static_marks o ss n v seat.phase)) (marked_names name o ss s fit v u refines);
          more = fit.more;
        };
        bears = λ name o ss s fit. base.bears name o ss s fit.fits;
        refusals = λ name o ss s fit k count born e. base.refusals name o ss s fit.fits k count born e;
        births = born_named;
      }
