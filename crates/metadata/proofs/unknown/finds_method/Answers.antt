use Rattle.resolved_code.proofs.ListLaws.Tests.{found_alike}
use Rattle.std.proofs.Common.{◌∙◌, Some}
use Rattle.metadata.proofs.unknown.finds_method.Goals as goal

pub returns : goal.returns
returns c = c.is_some.ensures ∙ found_alike _ Some c.find_method.result _ c.find_method.ensures.member
