use Rattle.std.proofs.Common.{◌≡◌, ◌+◌, map, sym, ap, ◌∙◌, subst, Some, ℕ, List, [], slice_index_or}
use Rattle.inheritance.specs.ScopedTables.{IsCorrectBefore, source_of}
use Rattle.inheritance.specs.Lines.{base_in}
use Rattle.inheritance.specs.Changes.{AddsChanges}
use Rattle.inheritance.proofs.ScopedTableLaws.{right_later, right_left}
use Rattle.inheritance.proofs.scoped_tables.ScopedTable.leave.Goals as goal

pub returns-in_default : goal.returns-in_default
returns-in_default c = right_later c.args.forest.now c.args.time _ _ _ c.requires

pub returns : goal.returns
returns c =
    let rows = map (λ v. v.items) c.args.self.now.changes.items in
    let new = map (λ v. v.items) c.record_all.new.changes.items in
    let entries = c.args.self.now.entries.items in
    let r : IsCorrectBefore c.args.forest.now c.args.time rows entries (Some c.in-Some.class) = subst (IsCorrectBefore c.args.forest.now c.args.time rows entries) c.in-Some.is c.requires in
    let source : c.source-source.result ≡ source_of entries (base_in c.args.forest.now.bases.items c.in-Some.class) = c.source-source.ensures ∙ ap (source_of entries) c.base-base.ensures in
    let keys : List ℕ = slice_index_or (map (λ v. v.items) c.args.forest.now.declared.items) c.in-Some.class [] in
    let adds : AddsChanges rows new keys 0 (source_of entries (base_in c.args.forest.now.bases.items c.in-Some.class)) c.args.time =
    subst (λ s. AddsChanges rows new keys 0 s c.args.time) source (subst (λ ks. AddsChanges rows new ks 0 c.source-source.result c.args.time) c.keys_of.ensures c.in_ok-record_all.ensures) in
    subst (IsCorrectBefore c.args.forest.now (c.args.time + 1) new entries) (sym c.base-base.ensures) (
    right_left c.args.forest.now c.args.time rows new entries c.in-Some.class r adds)
