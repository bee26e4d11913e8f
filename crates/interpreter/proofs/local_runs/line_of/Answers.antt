use Rattle.std.proofs.Common.{length, refl, sym, subst, ◌∙◌}
use Rattle.std.proofs.lemmas.Option.{same_Some, slice_get_read, slice_get_within}
use Rattle.loaded_program.specs.LoadedPrograms.{IsLinkedAt}
use Rattle.interpreter.proofs.LocalSteps.{linked_in}
use Rattle.interpreter.proofs.local_runs.line_of.Goals as goal

pub bounds-code-pc : goal.bounds-code-pc
bounds-code-pc c =
    let here = linked_in c.requires.0 c.args.code.now c.requires.1 c.args.pc c.requires.2 c.requires.3 in
    slice_get_within c.args.code.now c.args.pc here.0 here.1

pub returns : goal.returns
returns c = λ tree method code there.
    let here = linked_in tree c.args.code.now method c.args.pc code there in
    let read = slice_get_read c.args.code.now (length c.args.code.now) c.args.pc c.index-code-pc.result refl (slice_get_within c.args.code.now c.args.pc here.0 here.1) c.index-code-pc.is in
    subst (IsLinkedAt tree method c.args.pc) (same_Some here.0 c.index-code-pc.result (sym here.1 ∙ read)) here.2
