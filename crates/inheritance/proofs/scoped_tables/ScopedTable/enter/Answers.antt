use Rattle.std.proofs.Common.{◌≡◌, map, sym, ◌∙◌, arith, subst, Some}
use Rattle.inheritance.specs.ScopedTables.{height_of}
use Rattle.inheritance.specs.Lines.{base_in}
use Rattle.inheritance.specs.Changes.{AddsChanges}
use Rattle.inheritance.specs.declared.changes.Source.TheVariants.{Class}
use Rattle.inheritance.proofs.ScopedTableLaws.{right_later, right_entered, same_options}
use Rattle.inheritance.proofs.scoped_tables.ScopedTable.enter.Goals as goal

pub returns-then-class-len : goal.returns-then-class-len
returns-then-class-len c = right_later c.args.forest.now c.args.time _ _ _ c.requires

pub returns-in_default : goal.returns-in_default
returns-in_default c = right_later c.args.forest.now c.args.time _ _ _ c.requires

pub returns-in_ok-record_all-in-Some : goal.returns-in_ok-record_all-in-Some
returns-in_ok-record_all-in-Some c =
    let base : base_in c.args.forest.now.bases.items c.args.class ≡ c.args.self.now.current = sym c.base.ensures ∙ same_options c.base.result c.args.self.now.current (sym c.ne.ensures ∙ c.if-ne.false) in
    let high : height_of c.args.self.now.entries.items c.args.self.now.current ≡ Some c.in-Some.height = sym c.height.ensures ∙ c.in-Some.is in
    right_entered c.args.forest.now c.args.time (map (λ v. v.items) c.args.self.now.changes.items) (map (λ v. v.items) c.record_all.new.changes.items) c.args.self.now.entries.items c.args.self.now.current c.requires c.args.class c.in-Some.height
    (subst (λ keys. AddsChanges (map (λ v. v.items) c.args.self.now.changes.items) (map (λ v. v.items) c.record_all.new.changes.items) keys 0 (Class c.args.class) c.args.time) c.keys_of.ensures c.in_ok-record_all-in-Some.ensures)
    (omega (arith, c.if-class-len.false, c.len.ensures)) base high c.if-height-forest.true
