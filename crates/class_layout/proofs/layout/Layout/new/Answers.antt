use Rattle.std.proofs.Common.{map, ap, ◌∙◌}
use Rattle.class_layout.proofs.ResolvedLaws.{own_alike}
use Rattle.class_layout.proofs.layout.Layout.new.Goals as goal

pub all_kinds-requires : goal.all_kinds-requires
all_kinds-requires c =
    let s = c.args.classes.now in
    ap (map (λ row. row.items)) c.as_slice.ensures.value ∙ c.in_ok-own.ensures s.program.now ∙ own_alike s.program.now s.legal s.all.now c.requires

pub all_fields-requires : goal.all_fields-requires
all_fields-requires c =
    let s = c.args.classes.now in
    record {
      resolved = c.requires;
      own = ap (map (λ row. row.items)) c.as_slice-2.ensures.value ∙ c.in_ok-own.ensures s.program.now ∙ own_alike s.program.now s.legal s.all.now c.requires;
      kinds = ap (map (λ row. row.items)) c.as_slice-3.ensures.value ∙ c.in_ok-kinds.ensures;
    }

pub returns : goal.returns
returns c =
    let s = c.args.classes.now in
    record { legal = s.legal; ancestry = c.in_ok-new.ensures; kinds = c.in_ok-kinds.ensures; fields = c.in_ok-fields.ensures; targets = c.in_ok-all_targets.ensures }
