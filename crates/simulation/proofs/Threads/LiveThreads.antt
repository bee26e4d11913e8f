-- A live thread of a machine that represents a state: its seat, the names of what it may hold, and the memory that its instructions use.
use Rattle.std.proofs.Common.{◌≡◌, ◌⊎◌, ℕ, true, List, length, Some, slice_get, inl, inr, sym, ap, subst, arith}
use Rattle.std.specs.Option.{option_map_or}
use Rattle.interpreter.specs.cil_model.declared.phases.Phase.TheVariants.{Idle}
use Rattle.interpreter.specs.reference_machine.Values.{ObjectName}
use Rattle.interpreter.specs.reference_machine.States.{Frame as StateFrame, State}
use Rattle.interpreter.specs.object_memory.declared.addresses.Addr.{Addr}
use Rattle.interpreter.specs.object_memory.declared.values.Value.{Value}
use Rattle.interpreter.specs.object_memory.Objects.{Objects}
use Rattle.collector.specs.phase_handshake.Handshakes.{IsClose, seat_of}
use Rattle.collector.specs.phase_handshake.declared.posts.Seat.{Seat}
use Rattle.collector.specs.Holds.{IsOnTime, passes}
use Rattle.collector.specs.Phases.{is_live}
use Rattle.collector.specs.Soundness.{IsListed}
use Rattle.interpreter.specs.threads_monitors.Frames.{Frames}
use Rattle.interpreter.specs.threads_monitors.Roots.{roots}
use Rattle.interpreter.specs.threads_monitors.declared.threads.ThreadStatus.TheVariants.{Live}
use Rattle.simulation.specs.MachineStates.{MachineState, mutator_of}
use Rattle.simulation.specs.Refines.{AreFrames, Extends, Names, Represents}
use Rattle.simulation.proofs.CollectedHeap.CollectedMemory.{frames_cut}
use Rattle.simulation.proofs.CollectedHeap.VisibleNames.{FitsCollected, begins, cut_is, cut_names, first_hold}
use Rattle.simulation.proofs.Representation.MoreNames.{frames_extend}
use Rattle.simulation.proofs.RetainedWords.CycleNames.{AreCopiesOfMarked, is_kept}
use Rattle.simulation.proofs.Memory.MemoryModels.{IsModelled, IsReadable, MemoryModel}
use Rattle.simulation.proofs.RetainedWords.ThreadNames.{IsKnown, named}
use Rattle.simulation.proofs.Representation.NormalContents.{RefinesNormally, has_seat, normal_from, normal_keeps, normal_names, sound_is_held}
use Rattle.simulation.proofs.CollectedHeap.MemoryWithRoom.{KeepsRoom, in_room, keeps_itself}

module _ (c : MachineState) (s : State) (r : Represents c s) where
  -- the machine represents the state under normal names
  pub normally : RefinesNormally c s
  normally = normal_names c (sound_is_held c r.sound) r.accepted.legal s r.typed r.refines.name r.refines.by

  -- each of these was there, and what is live keeps its name
  pub normally_from : (a : ℕ) (n : ObjectName) → normally.name a ≡ Some n → (b : ℕ) × (r.refines.name b ≡ Some n)
  unfolding normally
  normally_from = normal_from c (sound_is_held c r.sound) r.accepted.legal s r.typed r.refines.name r.refines.by

  pub normally_keeps : (a : ℕ) (n : ObjectName) → is_live c.posts.posted_phase c.objects.spaces (record { number = a }) ≡ true → r.refines.name a ≡ Some n → normally.name a ≡ Some n
  unfolding normally
  normally_keeps = normal_keeps c (sound_is_held c r.sound) r.accepted.legal s r.typed r.refines.name r.refines.by

  -- Names of objects that a step leaves: all that was named keeps its name, and what a cycle keeps then it kept before, or it has a name that was there or
  -- that of an object born in the step.
  pub record KeepsOwnNames (o : Objects) (name : Names) : Type 0 where
    pub extends : Extends normally.name name
    pub kept : (a : Addr) → is_kept c.posts.posted_phase o.spaces a ≡ true → (is_kept c.posts.posted_phase c.objects.spaces a ≡ true) ⊎ ((n : ObjectName) × (name a.number ≡ Some n) × IsKnown normally.name (length s.objects) n)
    pub copies : AreCopiesOfMarked c.posts.posted_phase c.objects.spaces → AreCopiesOfMarked c.posts.posted_phase o.spaces

  module _ (t left : ℕ) (m : Frames) (there : slice_get c.threads t ≡ Some (record { thread_status = Live m; steps_left = left })) where
    -- ---- the seat

    pub seat_there : (seat : Seat) × (seat_of c.posts t ≡ Some seat)
    seat_there = has_seat c (sound_is_held c r.sound) t left m there

    abbrev pub seat : Seat
    seat = seat_there.0

    close : IsClose c.posts seat
    close = r.sound.seated.close.phases t seat seat_there.1

    time : IsOnTime seat.phase c.posts.posted_phase c.posts.has_round c.progress c.objects.spaces
    time = r.sound.on_time t seat seat_there.1

    -- what the thread may hold in this step
    abbrev pub own_passes : Objects → Addr → Type 0
    own_passes o a = passes (first_hold c.posts seat c.objects) c.posts.posted_phase o.spaces a ≡ true

    -- ---- the memory

    -- the names of what the thread may hold
    pub own_names : Names
    own_names = cut_names (first_hold c.posts seat c.objects) c.posts.posted_phase c.objects.spaces normally.name

    -- the heap as it is for the thread
    abbrev pub FitsOwn : Names → Objects → List Value → State → Type 0
    FitsOwn names o ss s' = FitsCollected c.tree c.limits.max_words c.posts c.progress seat c.objects normally.name names o ss s'

    -- that of the machine
    pub own_fits : FitsOwn own_names c.objects c.statics s
    unfolding own_names
    own_fits = begins c.tree c.limits.max_words c.posts c.progress seat c.objects normally.name c.statics s r.sound.heap normally.by.memory.heap normally.normal.live normally.normal.filled normally.by.memory.static_values r.sound.statics

    -- the memory of its instructions
    pub own_model : MemoryModel c.tree
    own_model = in_room c.tree (named c.tree r.accepted.legal c.limits.max_words c.posts c.progress seat close r.sound.rounds c.objects time normally.name own_names (length s.objects)) c.objects s.objects

    -- is in the thread's phase
    pub own_phase_is : own_model.phase ≡ (mutator_of c t).phase
    unfolding own_model in_room named
    own_phase_is = sym (ap (λ o. option_map_or (λ (x : Seat). x.phase) o Idle) seat_there.1)

    pub own_memory : IsModelled c.tree own_model own_names c.objects c.statics c.printed s
    unfolding own_model in_room named
    own_memory = record { fits = record { fits = record { fits = own_fits; names = record { known = λ a n is. inl (a, is); kept = λ a kept. inl kept; copies = λ are. are }; more = omega arith }; room = keeps_itself c.tree seat.phase c.objects s.objects }; printed_is = normally.by.memory.printed_is }

    pub own_reads : IsReadable c.tree own_names c.objects s
    own_reads = own_model.reads own_names c.objects c.statics s own_memory.fits r.typed

    -- and what fits it fits
    module _ (names : Names) (o : Objects) (ss : List Value) (printed : List ℕ) (s' : State) (memory : IsModelled c.tree own_model names o ss printed s') where
      pub fits_of : FitsOwn names o ss s'
      unfolding own_model in_room named
      fits_of = memory.fits.fits.fits

      pub room_of : KeepsRoom c.tree (mutator_of c t).phase c.objects o s.objects s'.objects
      unfolding own_model in_room named
      room_of = subst (λ p. KeepsRoom c.tree p c.objects o s.objects s'.objects) own_phase_is memory.fits.room

      -- and what is kept in it has one of its names
      pub names_of : KeepsOwnNames o fits_of.whole
      unfolding own_model own_names in_room named fits_of
      names_of = record {
        extends = memory.fits.fits.fits.extends;
        kept = λ a kept. elim (memory.fits.fits.names.kept a kept) [
          | inl was ↦ inl was
          | inr is ↦ inr (
            is.0,
            (memory.fits.fits.fits.cut a.number is.0 is.1).0,
            elim (memory.fits.fits.names.known a.number is.0 is.1) [
              | inl own ↦ inl (own.0, (cut_is (first_hold c.posts seat c.objects) c.posts.posted_phase c.objects.spaces normally.name own.0 is.0 own.1).0)
              | inr new ↦ inr new
            ],
          )
        ];
        copies = memory.fits.fits.names.copies;
      }

    -- ---- frames

    -- the thread holds what it may
    pub own_roots_pass : (a : Addr) → IsListed (roots m) a → own_passes c.objects a
    own_roots_pass a listed = r.sound.threads t left m seat there seat_there.1 a listed

    -- so its frames stand under its names
    pub own_frames : (gs : List StateFrame) → AreFrames c.tree c.limits normally.name m gs → AreFrames c.tree c.limits own_names m gs
    own_frames gs h =
        frames_cut c.tree c.limits.max_words c.posts c.progress seat c.objects normally.name own_names c.objects c.statics s own_fits c.limits m gs (frames_extend normally.name own_fits.whole own_fits.extends c.tree c.limits m gs h) own_roots_pass
