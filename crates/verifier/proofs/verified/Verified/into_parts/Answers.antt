use Rattle.std.proofs.Common.{subst}
use Rattle.cil_model.specs.declared.trees.Tree.{Tree}
use Rattle.cil_model.specs.Typings.{IsAccepted}
use Rattle.class_layout.specs.Layouts.{IsLayout}
use Rattle.verifier.proofs.TypingLaws.{accepted}
use Rattle.verifier.proofs.verified.Verified.into_parts.Goals as goal

pub returns-clause-layout : goal.returns-clause-layout
returns-clause-layout c = subst (λ (tree : Tree). IsLayout tree c.self.inside.layout) c.self.view_is c.self.invariant.0

pub returns-clause-accepted : goal.returns-clause-accepted
returns-clause-accepted c = subst IsAccepted c.self.view_is (accepted c.self.inside.program c.self.inside.typings c.self.invariant.0.legal c.self.invariant.1)
