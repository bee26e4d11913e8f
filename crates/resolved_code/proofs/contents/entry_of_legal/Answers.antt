use Rattle.std.proofs.Common.{◌≡◌, option_map, ap, subst, ◌∙◌}
use Rattle.std.specs.Prelude.{IfSome}
use Rattle.name_tables.specs.declared.ids.MethodId.{MethodId}
use Rattle.name_tables.specs.Numbers.{declarations}
use Rattle.resolved_code.specs.Contents.{entry_from, IsEntryPoint}
use Rattle.resolved_code.proofs.Numbers.EntryPoints.{never_none, entry_found}
use Rattle.resolved_code.proofs.contents.entry_of_legal.Goals as goal

pub unreachable-requires : goal.unreachable-requires
unreachable-requires c =
    let t = c.args.names.now.classes.tree.now in
    let reported : option_map (λ (m : MethodId). (m.class, m.index)) c.entry_id.result ≡ entry_from 0 (declarations t) = c.entry_id.ensures ∙ ap (entry_from 0) c.all.ensures in
    absurd (never_none c.entry_id.result (entry_found t c.requires c.entry_id.result reported).0 c.in_default.is)

pub returns : goal.returns
returns c =
    let t = c.args.names.now.classes.tree.now in
    let reported : option_map (λ (m : MethodId). (m.class, m.index)) c.entry_id.result ≡ entry_from 0 (declarations t) = c.entry_id.ensures ∙ ap (entry_from 0) c.all.ensures in
    let entry : IfSome c.entry_id.result (IsEntryPoint t) = (entry_found t c.requires c.entry_id.result reported).1 in
    subst (λ o. IfSome o (IsEntryPoint t)) c.in-Some.is entry
