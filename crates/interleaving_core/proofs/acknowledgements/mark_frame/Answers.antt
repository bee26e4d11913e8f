use Rattle.std.proofs.Common.{◌≡◌, true, [], ◌∷◌, Option, slice_get, refl, inl, sym, ap, ◌∙◌, subst}
use Rattle.std.specs.Prelude.{filter_map, option_to_list}
use Rattle.std.proofs.lemmas.List.Elements.{All-cons, All-nil}
use Rattle.object_memory.specs.declared.addresses.Addr.{Addr}
use Rattle.object_memory.specs.declared.values.Value.TheVariants.{Ref}
use Rattle.object_memory.specs.Objects.{Objects}
use Rattle.object_memory.specs.Spaces.{is_there}
use Rattle.threads_monitors.specs.Roots.{frames_upward, reference_in, values_of}
use Rattle.simulation.specs.instructions.barriers.Barriers.{is_value_in_heap}
use Rattle.simulation.specs.collector.Conditions.{AreValuesInHeap}
use Rattle.simulation.specs.collector.MarkSteps.{with_all_marked}
use Rattle.simulation.specs.collector.Soundness.{IsListed}
use Rattle.simulation.specs.CollectorSteps.{with_roots_marked}
use Rattle.interleaving_core.proofs.CollectorTransitions.FrameMarks.{cycle_kept, frame_marked, frame_of, listed_first, listed_second, object_is, there_kept, values_are, values_marked, values_there}
use Rattle.interleaving_core.proofs.acknowledgements.mark_frame.Goals as goal

pub mark_values-requires-clause-there : goal.mark_values-requires-clause-there
mark_values-requires-clause-there c =
    let f = frame_of (slice_get (frames_upward c.args.frames.now) c.args.frame) c.values_of.result.now c.values_of.ensures in
    subst (AreValuesInHeap c.args.heap.now) f.2
    (values_there c.args.heap.now (values_of f.0) (λ a listed. c.requires.there f.0 f.1 a (listed_first (filter_map reference_in (values_of f.0)) (option_to_list f.0.constructed) a listed)))

pub mark_values-requires-in-Some-clause-open : goal.mark_values-requires-in-Some-clause-open
mark_values-requires-in-Some-clause-open c =
    let marked = c.mark_values.ensures ∙ values_marked c.values_of.result.now c.args.heap.now in
    subst (λ (x : Objects). x.spaces.is_open ≡ true) (sym marked) (cycle_kept (filter_map reference_in c.values_of.result.now) c.args.heap.now c.requires.open)

pub mark_values-requires-in-Some-clause-there : goal.mark_values-requires-in-Some-clause-there
mark_values-requires-in-Some-clause-there c =
    let frame = slice_get (frames_upward c.args.frames.now) c.args.frame in
    let f = frame_of frame c.values_of.result.now c.values_of.ensures in
    let made = object_is f.0 frame f.1 c.constructed_of.result c.constructed_of.ensures ∙ c.in-Some.is in
    let listed = listed_second (filter_map reference_in (values_of f.0)) (option_to_list f.0.constructed) c.in-Some.object
    (subst (λ (o : Option Addr). IsListed (option_to_list o) c.in-Some.object) (sym made) (inl refl)) in
    let marked = c.mark_values.ensures ∙ values_marked c.values_of.result.now c.args.heap.now in
    let there = there_kept (filter_map reference_in c.values_of.result.now) c.args.heap.now c.in-Some.object (c.requires.there f.0 f.1 c.in-Some.object listed) in
    All-cons (λ v. is_value_in_heap c.mark_values.new.heap v ≡ true) (Ref c.in-Some.object) []
    (subst (λ (x : Objects). is_there x.spaces c.in-Some.object ≡ true) (sym marked) there) (All-nil (λ v. is_value_in_heap c.mark_values.new.heap v ≡ true))

pub returns-in-Some : goal.returns-in-Some
returns-in-Some c = λ f is.
    let frame = slice_get (frames_upward c.args.frames.now) c.args.frame in
    let values = values_are f frame is c.values_of.result.now c.values_of.ensures in
    let made = object_is f frame is c.constructed_of.result c.constructed_of.ensures ∙ c.in-Some.is in
    c.mark_values-in-Some.ensures
    ∙ (ap (λ h. with_roots_marked h (c.in-Some.object ∷ [])) (c.mark_values.ensures ∙ ap (with_all_marked c.args.heap.now) (sym values))
    ∙ (ap (λ (o : Option Addr). with_roots_marked (with_all_marked c.args.heap.now (values_of f)) (option_to_list o)) (sym made) ∙ frame_marked c.args.heap.now f))

pub returns-in_default : goal.returns-in_default
returns-in_default c = λ f is.
    let frame = slice_get (frames_upward c.args.frames.now) c.args.frame in
    let values = values_are f frame is c.values_of.result.now c.values_of.ensures in
    let made = object_is f frame is c.constructed_of.result c.constructed_of.ensures ∙ c.in_default.is in
    c.mark_values.ensures
    ∙ (ap (with_all_marked c.args.heap.now) (sym values)
    ∙ (ap (λ (o : Option Addr). with_roots_marked (with_all_marked c.args.heap.now (values_of f)) (option_to_list o)) (sym made) ∙ frame_marked c.args.heap.now f))
