use Rattle.std.proofs.Common.{ap, map, ◌∙◌}
use Rattle.threads_monitors.specs.Roots.{IsAnswer, with_reference}
use Rattle.threads_monitors.specs.Activations.{with_constructed}
use Rattle.threads_monitors.proofs.ReplacedReferences.{asked}
use Rattle.threads_monitors.proofs.Memories.{reaches, after_writing}
use Rattle.threads_monitors.proofs.frames.FrameMemory.replace_references.Goals as goal

pub replace_in_values-requires : goal.replace_in_values-requires
replace_in_values-requires g c =
    let given = rw (← c.self.view_is) at c.requires in
    let there = reaches c.self.invariant (IsAnswer (goal.F-pre g c.args.change) (goal.F-post g c.args.change) given.0) given.1 in
    rw c.deref_mut.ensures.value (given.0, there.in_values)

pub replace_in_activations-requires : goal.replace_in_activations-requires
replace_in_activations-requires g c =
    let given = rw (← c.self.view_is) at c.requires in
    let there = reaches c.self.invariant (IsAnswer (goal.F-pre g c.args.change) (goal.F-post g c.args.change) given.0) given.1 in
    rw c.deref_mut-2.ensures.value (given.0, there.in_below)

pub replace_in_activation-self-inside-requires : goal.replace_in_activation-self-inside-requires
replace_in_activation-self-inside-requires g c =
    let given = rw (← c.self.view_is) at c.requires in
    let there = reaches c.self.invariant (IsAnswer (goal.F-pre g c.args.change) (goal.F-post g c.args.change) given.0) given.1 in
    asked (goal.F-pre g c.args.change) (goal.F-post g c.args.change) given.0 c.self.inside.running.constructed there.in_running

pub invariant_of-self : goal.invariant_of-self
invariant_of-self g c =
    let given = rw (← c.self.view_is) at c.requires in
    let there = reaches c.self.invariant (IsAnswer (goal.F-pre g c.args.change) (goal.F-post g c.args.change) given.0) given.1 in
    (after_writing c.self.invariant given.0 c.replace_in_values.new.values c.replace_in_activation-self-inside.result c.replace_in_activations.new.activations c.self.inside.values.len c.self.inside.below.len
    (c.replace_in_values.ensures given.0 (rw c.deref_mut.ensures.value there.in_values) ∙ ap (map (with_reference given.0)) c.deref_mut.ensures.value)
    (c.replace_in_activation-self-inside.ensures given.0 there.in_running)
    (c.replace_in_activations.ensures given.0 (rw c.deref_mut-2.ensures.value there.in_below) ∙ ap (map (with_constructed given.0)) c.deref_mut-2.ensures.value)
    c.self.inside.values.ok.0 c.self.inside.below.ok.0).sound

pub returns : goal.returns
returns g c f all =
    let given = rw (← c.self.view_is) at all in
    let there = reaches c.self.invariant (IsAnswer (goal.F-pre g c.args.change) (goal.F-post g c.args.change) f) given in
    rw (← c.self.view_is) (after_writing c.self.invariant f c.replace_in_values.new.values c.replace_in_activation-self-inside.result c.replace_in_activations.new.activations c.self.inside.values.len c.self.inside.below.len
    (c.replace_in_values.ensures f (rw c.deref_mut.ensures.value there.in_values) ∙ ap (map (with_reference f)) c.deref_mut.ensures.value)
    (c.replace_in_activation-self-inside.ensures f there.in_running)
    (c.replace_in_activations.ensures f (rw c.deref_mut-2.ensures.value there.in_below) ∙ ap (map (with_constructed f)) c.deref_mut-2.ensures.value)
    c.self.inside.values.ok.0 c.self.inside.below.ok.0).view
