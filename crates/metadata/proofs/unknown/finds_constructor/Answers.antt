use Rattle.resolved_code.proofs.ListLaws.Tests.{found_alike}
use Rattle.std.proofs.Common.{◌∙◌, Some}
use Rattle.metadata.proofs.unknown.finds_constructor.Goals as goal

pub returns : goal.returns
returns c = c.is_some.ensures ∙ found_alike _ Some c.find_constructor.result _ c.find_constructor.ensures.member
