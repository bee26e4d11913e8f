use Rattle.std.proofs.Common.{◌≡◌, ◌+◌, true, List, [], ◌∷◌, length, drop, get_or, refl, sym, ap, ◌∙◌, subst, arith}
use Rattle.std.specs.Prelude.{flat_map}
use Rattle.std.proofs.lemmas.List.{drop_all, length-reverse}
use Rattle.std.proofs.lemmas.Option.{slice_get-get_or}
use Rattle.object_memory.specs.Objects.{Objects}
use Rattle.object_memory.specs.Spaces.{is_there}
use Rattle.threads_monitors.specs.Frames.{Frame}
use Rattle.threads_monitors.specs.Roots.{frame_roots, frames_upward}
use Rattle.simulation.specs.CollectorSteps.{with_roots_marked}
use Rattle.interleaving_core.proofs.CollectorTransitions.FrameMarks.{cycle_kept, listed_in_frame, rest_marked, there_kept}
use Rattle.interleaving_core.proofs.acknowledgements.mark_frames.Goals as goal

pub loop-frame-init : goal.loop-frame-init
loop-frame-init c = record { is_open = c.requires.«open»; there = c.requires.there; rest = refl }

pub mark_frame-requires-clause-open : goal.mark_frame-requires-clause-open
mark_frame-requires-clause-open c = c.loop-frame.invariant.is_open

pub mark_frame-requires-clause-there : goal.mark_frame-requires-clause-there
mark_frame-requires-clause-there c = λ f is a listed. c.loop-frame.invariant.there a (listed_in_frame (frames_upward c.args.frames.now) c.loop-frame.frame f is a listed)

pub loop-frame-preserved : goal.loop-frame-preserved
loop-frame-preserved c =
    let upward = frames_upward c.args.frames.now in
    let i = c.loop-frame.frame in
    let heap = c.loop-frame.heap in
    let f = get_or upward i c.args.frames.now.running in
    let count : length upward ≡ length (c.args.frames.now.running ∷ c.args.frames.now.below) = length-reverse (c.args.frames.now.running ∷ c.args.frames.now.below) in
    let is = slice_get-get_or upward i c.args.frames.now.running (omega (arith, count, c.frame_count-frame-end.ensures, c.loop-frame-test.true)) in
    let marked = c.mark_frame.ensures f is in
    record {
      is_open = subst (λ (x : Objects). x.spaces.is_open ≡ true) (sym marked) (cycle_kept (frame_roots f) heap c.loop-frame.invariant.is_open);
      there = λ a listed. subst (λ (x : Objects). is_there x.spaces a ≡ true) (sym marked) (there_kept (frame_roots f) heap a (c.loop-frame.invariant.there a listed));
      rest = ap (λ x. with_roots_marked x (flat_map frame_roots (drop (i + 1) upward))) marked ∙ (rest_marked upward i f heap is ∙ c.loop-frame.invariant.rest);
    }

pub returns : goal.returns
returns c =
    let upward = frames_upward c.args.frames.now in
    let count : length upward ≡ length (c.args.frames.now.running ∷ c.args.frames.now.below) = length-reverse (c.args.frames.now.running ∷ c.args.frames.now.below) in
    let none : drop c.loop-frame.frame upward ≡ [] = drop_all c.loop-frame.frame upward (omega (arith, count, c.frame_count-frame-end.ensures, c.loop-frame-test.false)) in
    ap (λ (fs : List Frame). with_roots_marked c.loop-frame.heap (flat_map frame_roots fs)) (sym none) ∙ c.loop-frame.invariant.rest
