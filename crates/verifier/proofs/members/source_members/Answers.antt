use Rattle.std.proofs.Common.{◌≡◌, ◌<◌, length, get_or, refl}
use Rattle.std.proofs.lemmas.Option.{slice_get_read}
use Rattle.verifier.proofs.MethodIds.{class_added}
use Rattle.verifier.proofs.members.source_members.Goals as goal

pub loop-index-preserved : goal.loop-index-preserved
loop-index-preserved c =
    let below : c.loop-index.index < length c.args.tree.now.classes = rw (c.as_slice-class-items.ensures) at c.loop-index-test.true in
    let at : c.class-item.result ≡ get_or c.args.tree.now.classes c.loop-index.index c.class-item.result = rw (c.as_slice-class-items.ensures) at c.class-item.is in
    class_added c.args.tree.now c.loop-index.index c.class-item.result c.loop-index.members.items c.add_class.new.members.items _ below at
    (c.in_ok-add_class.ensures c.args.tree.now (slice_get_read c.args.tree.now.classes (length c.args.tree.now.classes) c.loop-index.index c.class-item.result refl below at)) c.loop-index.invariant
