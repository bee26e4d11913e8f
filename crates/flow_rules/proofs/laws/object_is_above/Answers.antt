use Rattle.cil_model.specs.declared.types.Element.TheVariants.{Object}
use Rattle.cil_model.specs.Declarations.{plain}
use Rattle.cil_model.specs.TypeTree.{Declared}
use Rattle.cil_model.proofs.BelowLaws.{object_above}
use Rattle.cil_model.proofs.MergeLaws.{merge_exists}
use Rattle.flow_rules.proofs.laws.object_is_above.Goals as goal

pub returns-clause-above : goal.returns-clause-above
returns-clause-above c = object_above

pub returns-clause-merged : goal.returns-clause-merged
returns-clause-merged c = λ tree legal a b r s. merge_exists tree legal (Declared a) (Declared b) (Declared (plain Object)) (object_above tree legal a r) (object_above tree legal b s)
