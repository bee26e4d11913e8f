use Rattle.std.proofs.Common.{◌≡◌, option_map, sym, subst}
use Rattle.std.proofs.lemmas.Option.{same_Some}
use Rattle.cil_model.specs.declared.trees.Code.{Code}
use Rattle.cil_model.specs.declared.trees.MethodKind.{MethodKind}
use Rattle.cil_model.specs.Bodies.{code_of}
use Rattle.resolved_code.proofs.instructions.Resolver.kind.Goals as goal

pub body-requires : goal.body-requires
body-requires c =
    sym (same_Some _ _ (subst (λ (k : MethodKind). option_map (λ (code : Code). code.lines) (code_of k) ≡ option_map (λ (code : Code). c.args.labels.now.lines.now) (code_of k)) c.in-Static.is c.requires))

pub body-requires-in-Instance : goal.body-requires-in-Instance
body-requires-in-Instance c =
    sym (same_Some _ _ (subst (λ (k : MethodKind). option_map (λ (code : Code). code.lines) (code_of k) ≡ option_map (λ (code : Code). c.args.labels.now.lines.now) (code_of k)) c.in-Instance.is c.requires))

pub body-requires-in-Virtual : goal.body-requires-in-Virtual
body-requires-in-Virtual c =
    sym (same_Some _ _ (subst (λ (k : MethodKind). option_map (λ (code : Code). code.lines) (code_of k) ≡ option_map (λ (code : Code). c.args.labels.now.lines.now) (code_of k)) c.in-Virtual.is c.requires))
