use Rattle.class_layout.proofs.ancestry.Ancestry.new.Goals as goal

pub returns : goal.returns
returns c = record { rows = c.in_ok-rows.ensures }
