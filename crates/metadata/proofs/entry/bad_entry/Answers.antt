use Rattle.std.proofs.Common.{◌≡◌, ◌==◌, ◌&&◌, List, not, is_none, is_some, map, sym, ap, ◌∙◌}
use Rattle.std.specs.Prelude.{count_by}
use Rattle.std.specs.List.{list_any}
use Rattle.cil_model.specs.declared.trees.Method.{Method}
use Rattle.cil_model.specs.Bodies.{is_entry_point, entry_points}
use Rattle.cil_model.specs.Legality.{is_entry_method, is_one_entry}
use Rattle.resolved_code.proofs.ListLaws.Tests.{not_not}
use Rattle.metadata.proofs.EntryLaws.{one_entry}
use Rattle.metadata.proofs.entry.bad_entry.Goals as goal

pub returns : goal.returns
returns c =
    let one : is_none c.entry_fault.result ≡ is_one_entry (entry_points c.args.tree.now) =
    c.entry_fault.ensures ∙ ap (λ (ms : List Method). (count_by is_entry_point ms == 1) && list_any (λ m. is_entry_point m && is_entry_method m) ms) (ap (map (λ m. m.now)) c.as_slice.ensures.value ∙ c.in_ok-methods.ensures) ∙ sym (one_entry c.args.tree.now) in
    sym (not_not (is_some c.entry_fault.result)) ∙ ap not one
