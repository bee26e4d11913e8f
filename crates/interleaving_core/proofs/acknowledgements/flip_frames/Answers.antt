use Rattle.object_memory.specs.Spaces.{forward}
use Rattle.std.proofs.Common.{slice_index_or}
use Rattle.threads_monitors.specs.Roots.{roots}
use Rattle.interleaving_core.proofs.CollectorTransitions.FrameMarks.{listed_at}
use Rattle.interleaving_core.proofs.acknowledgements.flip_frames.Goals as goal

pub replace_references-requires : goal.replace_references-requires
replace_references-requires c =
    (forward c.args.heap.now.spaces, λ k d inside. (c.requires.there (slice_index_or (roots c.args.frames.now) k d) (listed_at (roots c.args.frames.now) k d inside), λ answer taken. taken.1))

pub returns : goal.returns
returns c =
    c.replace_references.ensures (forward c.args.heap.now.spaces)
    (λ k d inside. (c.requires.there (slice_index_or (roots c.args.frames.now) k d) (listed_at (roots c.args.frames.now) k d inside), λ answer taken. taken.1))
