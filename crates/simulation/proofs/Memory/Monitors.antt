-- The monitor at a named address corresponds to that of the object, before and after a change of both.
use Rattle.std.proofs.Common.{◌≡◌, ℕ, List, Some, option_map, slice_get, refl, sym, ap, ◌∙◌, subst}
use Rattle.std.specs.Prelude.{unwrap_or}
use Rattle.std.specs.Option.{option_map_or}
use Rattle.interpreter.specs.cil_model.declared.trees.Tree.{Tree}
use Rattle.interpreter.specs.cil_model.declared.limits.Limits.{Limits}
use Rattle.interpreter.specs.reference_machine.Values.{ObjectName, Born, Literal}
use Rattle.interpreter.specs.reference_machine.States.{Monitor as StateMonitor, HeapObject, State, with_object, monitor_of, with_monitor as with_state_monitor}
use Rattle.simulation.specs.Counts.{IsCountedMonitor, IsCounted}
use Rattle.interpreter.specs.object_memory.declared.addresses.Addr.{Addr}
use Rattle.interpreter.specs.object_memory.declared.monitors.Monitor.{Monitor}
use Rattle.interpreter.specs.object_memory.declared.values.Value.{Value}
use Rattle.interpreter.specs.object_memory.Cells.{Cell}
use Rattle.interpreter.specs.object_memory.Objects.{Objects, object_cell, monitor_at}
use Rattle.interpreter.specs.instructions.barriers.Barriers.{stored_monitor}
use Rattle.simulation.specs.Refines.{Names, IsMonitor, IsBornAt, IsLiteralAt}
use Rattle.simulation.proofs.Memory.ReferenceSlots.{IsLinked, typed_is_linked}
use Rattle.interpreter.specs.cil_model.Legality.{IsLegal}
use Rattle.interpreter.specs.reference_machine.TypedStates.{IsTyped}
use Rattle.simulation.proofs.Memory.MemoryModels.{MemoryModel, IsModelled, IsReadable}

-- the monitors of an object under a name, which are alike
pub record AreMonitors (o : Objects) (s : State) (a : Addr) (n : ObjectName) : Type 0 where
  pub monitor : Monitor
  pub held : monitor_at o a ≡ Some monitor
  pub state_monitor : StateMonitor
  pub state_held : monitor_of s n ≡ Some state_monitor
  pub refines : IsMonitor monitor state_monitor

module _ (tree : Tree) (name : Names) (o : Objects) (s : State) (heap : IsReadable tree name o s) (a : Addr) where
  born_monitors : (n : ℕ) → name a.number ≡ Some (Born n) → AreMonitors o s a (Born n)
  born_monitors n named =
      let here = heap.born a.number n named in
      record {
        monitor = here.cell.monitor;
        held = ap (λ x. option_map_or (slice_get o.literals) x (option_map (λ (c : Cell). c.monitor) (object_cell o a))) here.no_literal ∙ ap (option_map (λ (c : Cell). c.monitor)) here.lies;
        state_monitor = here.object.monitor;
        state_held = ap (option_map (λ (x : HeapObject). x.monitor)) here.is;
        refines = here.refines.monitor;
      }

  literal_monitors : (characters : List ℕ) → name a.number ≡ Some (Literal characters) → AreMonitors o s a (Literal characters)
  literal_monitors characters named =
      let here = heap.literals a.number characters named in
      record {
        monitor = here.monitor;
        held = ap (λ x. option_map_or (slice_get o.literals) x (option_map (λ (c : Cell). c.monitor) (object_cell o a))) here.has_id ∙ here.held;
        state_monitor = here.state_monitor;
        state_held = here.state_held;
        refines = here.refines;
      }

  pub monitors_there : (n : ObjectName) → name a.number ≡ Some n → AreMonitors o s a n
  monitors_there (Born n) named = born_monitors n named
  monitors_there (Literal characters) named = literal_monitors characters named

module _ (tree : Tree) (model : MemoryModel tree) (name : Names) (o : Objects) (statics : List Value) (printed : List ℕ) (limits : Limits) (s : State) (a : Addr) (n : ObjectName) where
  -- the memory with other monitors of the object
  pub record IsChanged (monitor : Monitor) (changed : StateMonitor) : Type 0 where
    pub memory : IsModelled tree model name (stored_monitor model.phase o a monitor) statics printed (with_state_monitor s n changed)
    pub others : (with_state_monitor s n changed).threads ≡ s.threads

  -- its monitors, which may change alike
  pub record IsMonitorAt : Type 0 where
    pub are : AreMonitors o s a n
    pub counted : IsCountedMonitor limits s are.state_monitor
    pub changes : (new : Monitor) (changed : StateMonitor) → IsMonitor new changed → IsChanged new changed

module _ (tree : Tree) (model : MemoryModel tree) (name : Names) (o : Objects) (statics : List Value) (printed : List ℕ) (limits : Limits) (s : State) (memory : IsModelled tree model name o statics printed s) (legal : IsLegal tree) (typed : IsTyped tree s) (counted : IsCounted limits s) (a : Addr) where
  -- of an object that was born
  born_monitor : (n : ℕ) → name a.number ≡ Some (Born n) → IsMonitorAt tree model name o statics printed limits s a (Born n)
  unfolding born_monitors
  born_monitor n named = record {
    are = born_monitors tree name o s (model.reads name o statics s memory.fits typed) a n named;
    counted = counted.objects n here.object here.is;
    changes = changes;
  }
    where
      here : IsBornAt tree name o s a.number n
      here = (model.reads name o statics s memory.fits typed).born a.number n named

      linked : IsLinked tree here.cell.kind here.object.contents
      linked = typed_is_linked tree legal s name here.cell.kind here.cell.slots here.object.contents here.object.thread (typed.objects n here.object here.is) here.refines.contents

      changes : (new : Monitor) (changed : StateMonitor) → IsMonitor new changed → IsChanged tree model name o statics printed limits s a (Born n) new changed
      changes new changed h =
          let after : State = with_object s (Born n) (record here.object { monitor = changed }) in
          let state_is : with_state_monitor s (Born n) changed ≡ after = ap (λ x. unwrap_or (option_map (λ (y : HeapObject). with_object s (Born n) (record y { monitor = changed })) x) s) here.is in
          let known : IsModelled tree model name (stored_monitor model.phase o a new) statics printed after =
          record {
            fits = model.monitors name o statics s memory.fits typed a n named here.cell here.lies new (record here.object { monitor = changed }) linked (record { contents = here.refines.contents; monitor = h });
            printed_is = memory.printed_is;
          }
          in record {
            memory = subst (λ x. IsModelled tree model name (stored_monitor model.phase o a new) statics printed x) (sym state_is) known;
            others = ap (λ (x : State). x.threads) state_is;
          }

  -- of a literal
  literal_monitor : (characters : List ℕ) → name a.number ≡ Some (Literal characters) → IsMonitorAt tree model name o statics printed limits s a (Literal characters)
  unfolding literal_monitors
  literal_monitor characters named = record {
    are = literal_monitors tree name o s (model.reads name o statics s memory.fits typed) a characters named;
    counted = counted.literals characters here.state_monitor here.state_held;
    changes = λ new changed h. record {
      memory = record {
        fits = model.literals name o statics s memory.fits a characters named new changed h;
        printed_is = memory.printed_is;
      };
      others = refl;
    };
  }
    where
      here : IsLiteralAt tree o s a.number characters
      here = (model.reads name o statics s memory.fits typed).literals a.number characters named

  pub monitor_there : (n : ObjectName) → name a.number ≡ Some n → IsMonitorAt tree model name o statics printed limits s a n
  monitor_there (Born n) named = born_monitor n named
  monitor_there (Literal characters) named = literal_monitor characters named
