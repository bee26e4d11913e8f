use Rattle.std.proofs.Common.{◌≡◌, Some, None, slice_get, sym, ap, subst, ◌∙◌}
use Rattle.std.specs.Prelude.{IfSome}
use Rattle.cil_model.specs.declared.trees.Tree.{Tree}
use Rattle.cil_model.specs.Bodies.{source_methods}
use Rattle.cil_model.specs.Typings.{IsTyping}
use Rattle.verifier.specs.Answers.{typing_of}
use Rattle.verifier.proofs.TypingLaws.{kept_at, absent_at, none_beyond}
use Rattle.verifier.proofs.verified.Verified.typing.Goals as goal

pub returns-clause-found : goal.returns-clause-found
returns-clause-found c owner m here =
    subst (λ (tree : Tree). IfSome c.typing_at.result (λ typing. IsTyping tree owner m (typing_of tree typing.now))) c.self.view_is
    (kept_at (λ typing. typing.now) c.self.inside.program c.self.inside.typings c.args.method c.typing_at.result owner m (c.typing_at.ensures ∙ ap (λ ts. slice_get ts c.args.method) c.as_slice.ensures) c.self.invariant.1.each
    (subst (λ (tree : Tree). slice_get (source_methods tree) c.args.method ≡ Some (owner, m)) (sym c.self.view_is) here))

pub returns-clause-absent : goal.returns-clause-absent
returns-clause-absent c absent =
    subst (λ (tree : Tree). slice_get (source_methods tree) c.args.method ≡ None) c.self.view_is
    (absent_at (λ typing. typing.now) c.self.inside.program c.self.inside.typings c.args.method c.typing_at.result (c.typing_at.ensures ∙ ap (λ ts. slice_get ts c.args.method) c.as_slice.ensures) c.self.invariant.1 absent)

pub returns-clause-beyond : goal.returns-clause-beyond
returns-clause-beyond c beyond =
    none_beyond (λ typing. typing.now) c.self.inside.program c.self.inside.typings c.args.method c.typing_at.result (c.typing_at.ensures ∙ ap (λ ts. slice_get ts c.args.method) c.as_slice.ensures) c.self.invariant.1
    (subst (λ (tree : Tree). slice_get (source_methods tree) c.args.method ≡ None) (sym c.self.view_is) beyond)
