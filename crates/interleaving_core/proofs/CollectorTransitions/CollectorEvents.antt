-- Events of the collector. In Mark what the static fields hold is there to be marked, and a step that finds nothing grey changes nothing, so a round comes next.
use Rattle.std.proofs.Common.{◌≡◌, if◌then◌else◌, Bool, true, false, List, [], ◌∷◌, get_or, Option, Some, None, pos, inr, refl, sym, ap, ◌∙◌}
use Rattle.std.proofs.lemmas.List.Elements.{All-from_get_or}
use Rattle.std.proofs.lemmas.Option.{slice_get-get_or}
use Rattle.cil_model.specs.declared.events.Event.TheVariants.{Gc}
use Rattle.cil_model.specs.declared.phases.Phase.{Phase}
use Rattle.cil_model.specs.declared.phases.Phase.TheVariants.{Idle}
use Rattle.cil_model.specs.declared.reports.Report.{Report}
use Rattle.cil_model.specs.declared.reports.Report.TheVariants.{Waiting, Worked}
use Rattle.phase_handshake.specs.Handshakes.{all_seen}
use Rattle.object_memory.specs.declared.addresses.Addr.{Addr}
use Rattle.object_memory.specs.declared.values.Value.{Value}
use Rattle.object_memory.specs.declared.values.Value.TheVariants.{Int32}
use Rattle.object_memory.specs.Cells.{Cell}
use Rattle.object_memory.specs.Objects.{Objects}
use Rattle.simulation.specs.instructions.barriers.Barriers.{is_value_in_heap}
use Rattle.simulation.specs.collector.Conditions.{AreValuesInHeap}
use Rattle.simulation.specs.collector.Phases.{is_of_cycle}
use Rattle.simulation.specs.collector.MarkSteps.{mark_step, next_mark_step, oldest_cell, statics_scanned}
use Rattle.simulation.specs.collector.declared.progress.Progress.{Progress}
use Rattle.simulation.specs.CollectorSteps.{collect, cycle_opened, mark_object, mark_work, rounds, work}
use Rattle.simulation.specs.MachineStates.{MachineState}
use Rattle.simulation.specs.Sound.{IsSound}
use Rattle.simulation.specs.Transitions.{TakesMemory}
use Rattle.simulation.proofs.Representation.NormalContents.{sound_is_held, static_is_live}
use Rattle.simulation.proofs.collector.ThreadReferences.LiveValues.{live_value_is_there}
use Rattle.simulation.proofs.collector.Addresses.Tests.{never}

-- where each live thread has acknowledged the posted phase, its work is done
pub collects : (c : MachineState) (phase : Phase) → all_seen c.posts ≡ true → c.posts.posted_phase ≡ phase → collect c ≡ work phase c
collects c phase seen posted_phase = ap (λ b. if◌then◌else◌ {A = MachineState × Report} b (work c.posts.posted_phase c) (c, Waiting)) seen ∙ ap (λ x. work x c) posted_phase

-- and else it waits
pub waits : (c : MachineState) → all_seen c.posts ≡ false → collect c ≡ (c, Waiting)
waits c unseen = ap (λ b. if◌then◌else◌ {A = MachineState × Report} b (work c.posts.posted_phase c) (c, Waiting)) unseen

-- the event that opens a cycle takes memory
pub initial_takes_memory : (c : MachineState) → IsSound c → all_seen c.posts ≡ true → c.posts.posted_phase ≡ Idle → TakesMemory c Gc
initial_takes_memory c sound seen idle = ((cycle_opened c, Worked), sym (collects c Idle seen idle), inr (inr (sound.heap.blocks.held ∙ ap is_of_cycle idle, refl)))

-- what the static fields of a sound machine hold is there
pub statics_there : (c : MachineState) → IsSound c → AreValuesInHeap c.objects c.statics
statics_there c sound =
    All-from_get_or (λ v. is_value_in_heap c.objects v ≡ true) c.statics nothing
    (λ number inside.
    let v = get_or c.statics number nothing in
    live_value_is_there c.posts.posted_phase c.objects v (static_is_live c (sound_is_held c sound) number v (slice_get-get_or c.statics number nothing inside)))
  where
    nothing : Value
    nothing = Int32 (pos 0)

-- what a step leaves, and whether there was one to do
abbrev Outcome : Type 0
Outcome = Progress × Objects × Bool

none_scanned : (p : Progress) (o : Objects) (c : MachineState) (grey : List Addr) (oldest : Option Cell) → (mark_step c.tree p o grey oldest).2 ≡ false → ◌≡◌ {A = Outcome} (mark_step c.tree p o grey oldest) (p, o, false)
none_scanned p o c [] oldest e = refl
none_scanned p o c (g ∷ rest) None e = refl
none_scanned p o c (g ∷ rest) (Some cell) e = never (sym e)

-- where nothing was to do, what comes next is the outcome for the machine state as it was
pub none_marked : (c : MachineState) (p : Progress) (o : Objects) → c.progress.scanned_statics ≡ true → ◌≡◌ {A = Outcome} (p, o, false) (next_mark_step c.tree c.progress c.objects) →
    rounds (record c { progress = p; objects = o }) ≡ mark_work c
none_marked c p o scanned h =
    let nothing = none_scanned c.progress c.objects c c.objects.spaces.grey (oldest_cell c.objects c.objects.spaces.grey) (sym (ap (λ (y : Outcome). y.2) h)) in
    let same = ap (λ (y : Outcome). record c { progress = y.0; objects = y.1 }) (h ∙ nothing) in
    ap rounds same
    ∙ (ap (mark_object c) (sym nothing)
    ∙ sym (ap (λ b. if b then mark_object c (next_mark_step c.tree c.progress c.objects) else (record c { progress = (statics_scanned c.progress c.objects c.statics).0; objects = (statics_scanned c.progress c.objects c.statics).1 }, Worked)) scanned))
