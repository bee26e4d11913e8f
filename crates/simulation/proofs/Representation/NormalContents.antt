-- A machine represents its state under normal names too, in each phase that is posted.
use Rattle.std.proofs.Common.{◌≡◌, ℕ, true, false, ◌∷◌, Option, Some, None, slice_get, refl, sym, ap, ◌∙◌, suc, List, []}
use Rattle.std.specs.Prelude.{is_some}
use Rattle.std.specs.Option.{option_map_or}
use Rattle.interpreter.specs.cil_model.Fields.{FieldKey}
use Rattle.interpreter.specs.cil_model.Legality.{IsLegal}
use Rattle.interpreter.specs.reference_machine.Values.{ObjectName, Value as StateValue}
use Rattle.interpreter.specs.reference_machine.States.{State, Thread as StateThread}
use Rattle.interpreter.specs.object_memory.declared.addresses.Addr.{Addr}
use Rattle.interpreter.specs.object_memory.declared.values.Value.{Value}
use Rattle.interpreter.specs.threads_monitors.Frames.{Frames, Frame}
use Rattle.interpreter.specs.threads_monitors.Roots.{roots}
use Rattle.interpreter.specs.threads_monitors.Threads.{is_live}
use Rattle.interpreter.specs.threads_monitors.declared.threads.ThreadStatus.{ThreadStatus}
use Rattle.interpreter.specs.threads_monitors.declared.threads.ThreadStatus.TheVariants.{Live}
use Rattle.interpreter.specs.threads_monitors.declared.threads.Thread.{Thread}
use Rattle.interpreter.proofs.cil_model.SameLaws.{never}
use Rattle.reference_machine.specs.TypedStates.{IsTyped}
use Rattle.collector.specs.References.{ValuePasses}
use Rattle.collector.specs.Phases.{is_live as is_live_address}
use Rattle.collector.specs.Soundness.{IsListed, IsSoundHeap}
use Rattle.collector.specs.Holds.{may_hold, static_may_hold}
use Rattle.collector.specs.phase_handshake.Handshakes.{seat_of}
use Rattle.collector.specs.phase_handshake.declared.posts.Seat.{Seat}
use Rattle.collector.proofs.Addresses.Tests.{may_hold_live, static_may_hold_live, value_weakens}
use Rattle.simulation.specs.MachineStates.{MachineState}
use Rattle.simulation.specs.Sound.{AreSeated, IsSound}
use Rattle.simulation.specs.Refines.{Names, IsThread, IsValue, RefinesUnder}
use Rattle.simulation.proofs.Representation.NormalNames.{IsNormal, filled, filled_from, filled_heap, filled_is_normal, is_filled}
use Rattle.simulation.proofs.Representation.FrameReferences.{Passes}
use Rattle.simulation.specs.Agreement.{Agree}
use Rattle.simulation.proofs.Representation.RootReferences.{status_kept, value_kept}

-- lists agree in another relation, where it follows from the items at each index
agree_by_index : {A B : Type 0} (R S : A → B → Type 0) (xs : List A) (ys : List B) → ((n : ℕ) (x : A) (y : B) → slice_get xs n ≡ Some x → R x y → S x y) → Agree R xs ys → Agree S xs ys
agree_by_index R S [] [] f h = h
agree_by_index R S (x ∷ xs) (y ∷ ys) f h = (f 0 x y refl h.0, agree_by_index R S xs ys (λ n z w is. f (suc n) z w is) h.1)
agree_by_index R S _ _ f h = elim h [ ]

-- what is true of a sound machine whatever phase is the last one: of seats, of the heap, and of what threads and static fields hold
pub record IsHeldSoundly (c : MachineState) : Type 0 where
  pub seated : AreSeated c.posts c.threads
  pub heap : IsSoundHeap c.tree c.posts.posted_phase c.posts.has_round c.limits.max_words c.progress c.objects.spaces
  pub threads : (t left : ℕ) (fs : Frames) (seat : Seat) → slice_get c.threads t ≡ Some (record { thread_status = Live fs; steps_left = left }) → seat_of c.posts t ≡ Some seat →
      (a : Addr) → IsListed (roots fs) a → may_hold c.posts c.objects.spaces seat a ≡ true
  pub statics : (number : ℕ) (v : Value) → slice_get c.statics number ≡ Some v → ValuePasses (static_may_hold c.posts.posted_phase c.objects.spaces c.progress number) v

-- that is so of each sound machine
pub sound_is_held : (c : MachineState) → IsSound c → IsHeldSoundly c
sound_is_held c sound = record { seated = sound.seated; heap = sound.heap; threads = sound.threads; statics = sound.statics }

-- under normal names
pub record RefinesNormally (c : MachineState) (s : State) : Type 0 where
  pub name : Names
  pub normal : IsNormal c.posts.posted_phase c.objects.spaces name
  pub by : RefinesUnder name c s

module _ (c : MachineState) (held : IsHeldSoundly c) where
  -- a live thread has a seat
  pub has_seat : (t left : ℕ) (fs : Frames) → slice_get c.threads t ≡ Some (record { thread_status = Live fs; steps_left = left }) → (seat : Seat) × (seat_of c.posts t ≡ Some seat)
  has_seat t left fs there = by_seat (seat_of c.posts t) refl
    where
      live : is_some (seat_of c.posts t) ≡ true
      live = sym (held.seated.live t) ∙ ap (λ o. option_map_or is_live o false) there

      by_seat : (o : Option Seat) → seat_of c.posts t ≡ o → (seat : Seat) × (seat_of c.posts t ≡ Some seat)
      by_seat None is = never (sym (ap is_some is) ∙ live)
      by_seat (Some seat) is = (seat, is)

  -- each reference of a live thread is live,
  pub thread_is_live : (t left : ℕ) (fs : Frames) → slice_get c.threads t ≡ Some (record { thread_status = Live fs; steps_left = left }) → (a : Addr) → IsListed (roots fs) a → is_live_address c.posts.posted_phase c.objects.spaces a ≡ true
  thread_is_live t left fs there a listed =
      let seat = has_seat t left fs there in
      may_hold_live c.posts c.objects.spaces seat.0 a (held.threads t left fs seat.0 there seat.1 a listed)

  -- and so is each of a static field
  pub static_is_live : (number : ℕ) (v : Value) → slice_get c.statics number ≡ Some v → ValuePasses (is_live_address c.posts.posted_phase c.objects.spaces) v
  static_is_live number v there =
      value_weakens (static_may_hold c.posts.posted_phase c.objects.spaces c.progress number) (is_live_address c.posts.posted_phase c.objects.spaces)
      (static_may_hold_live c.posts.posted_phase c.objects.spaces c.progress number) v (held.statics number v there)

  module _ (legal : IsLegal c.tree) (s : State) (typed : IsTyped c.tree s) (name : Names) (refines : RefinesUnder name c s) where
    abbrev names : Names
    names = filled c.posts.posted_phase c.objects.spaces name

    kept : (a : ℕ) (n : ObjectName) → is_live_address c.posts.posted_phase c.objects.spaces (record { number = a }) ≡ true → name a ≡ Some n → names a ≡ Some n
    kept = is_filled c.posts.posted_phase c.objects.spaces name

    thread_refines : (t : ℕ) (x : Thread) (u : StateThread) → slice_get c.threads t ≡ Some x → IsThread c.tree c.limits name x u → IsThread c.tree c.limits names x u
    thread_refines t x u there h = record {
      thread_status = status_kept (is_live_address c.posts.posted_phase c.objects.spaces) name names kept c.tree c.limits x.thread_status u.frames u.ended pass h.thread_status;
      steps_left = h.steps_left;
    }
      where
        pass : (m : Frames) → x.thread_status ≡ Live m → (a : Addr) → IsListed (roots m) a → is_live_address c.posts.posted_phase c.objects.spaces a ≡ true
        pass m is =
            let here : slice_get c.threads t ≡ Some (record { thread_status = Live m; steps_left = x.steps_left }) = there ∙ ap (λ (y : ThreadStatus). Some (record { thread_status = y; steps_left = x.steps_left })) is in
            thread_is_live t x.steps_left m here

    -- what stands under some names stands under normal ones
    pub normal_names : RefinesNormally c s
    normal_names = record {
      name = names;
      normal = filled_is_normal c.tree c.posts.posted_phase c.posts.has_round c.limits.max_words c.progress c.objects held.heap name s refines.memory.heap;
      by = record {
        memory = record {
          heap = filled_heap c.tree c.posts.posted_phase c.posts.has_round c.limits.max_words c.progress c.objects held.heap name s refines.memory.heap legal typed;
          static_values = agree_by_index (λ v (f : FieldKey × StateValue). IsValue name v f.1) (λ v (f : FieldKey × StateValue). IsValue names v f.1) c.statics s.statics
              (λ n v f there. value_kept (is_live_address c.posts.posted_phase c.objects.spaces) name names kept v f.1 (static_is_live n v there)) refines.memory.static_values;
          printed_is = refines.memory.printed_is;
        };
        threads = agree_by_index (IsThread c.tree c.limits name) (IsThread c.tree c.limits names) c.threads s.threads thread_refines refines.threads;
      };
    }

    -- each of them was there,
    pub normal_from : (a : ℕ) (n : ObjectName) → normal_names.name a ≡ Some n → (b : ℕ) × (name b ≡ Some n)
    unfolding normal_names
    normal_from a n is = filled_from c.posts.posted_phase c.objects.spaces name a n is

    -- and what is live keeps its name
    pub normal_keeps : (a : ℕ) (n : ObjectName) → is_live_address c.posts.posted_phase c.objects.spaces (record { number = a }) ≡ true → name a ≡ Some n → normal_names.name a ≡ Some n
    unfolding normal_names
    normal_keeps a n live is = kept a n live is
