use Rattle.std.proofs.Common.{◌+◌, ◌∷◌, [], ℕ, List, length, refl, sym, ap, ◌∙◌, subst}
use Rattle.std.proofs.lemmas.List.{length-append}
use Rattle.cil_model.specs.declared.trees.Tree.{Tree}
use Rattle.resolved_code.specs.declared.types.ResolvedElement.{ResolvedElement}
use Rattle.resolved_code.specs.declared.types.ResolvedElement.TheVariants.{Class}
use Rattle.flow_rules.specs.Merging.{IsUp, IsLine}
use Rattle.flow_rules.proofs.LineLaws.{no_line, line_more, up_more}
use Rattle.flow_rules.proofs.type_tree.TypeTree.line_from.Goals as goal

pub loop-step-init : goal.loop-step-init
loop-step-init c = record {
  width = ap length c.new-line.ensures.items;
  line = subst (λ (xs : List ResolvedElement). IsLine c.args.self.now c.args.class xs) (sym c.new-line.ensures.items) (no_line c.args.self.now c.args.class);
  reached = λ brackets. refl;
}

pub returns-in-None : goal.returns-in-None
returns-in-None c =
    let tree : Tree = c.args.self.now in
    let line = c.loop-step.line.items in
    let reached : IsUp tree (Class c.args.class) (length line) c.loop-step.here = subst (λ (n : ℕ). IsUp tree (Class c.args.class) n c.loop-step.here) (sym c.loop-step.invariant.width) c.loop-step.invariant.reached in
    subst (λ (xs : List ResolvedElement). IsLine tree c.args.class xs) (sym c.in_ok-push.ensures.items) (line_more tree c.args.class line c.loop-step.here c.loop-step.invariant.line reached)

pub loop-step-preserved : goal.loop-step-preserved
loop-step-preserved c =
    let tree : Tree = c.args.self.now in
    let line = c.loop-step.line.items in
    let reached : IsUp tree (Class c.args.class) (length line) c.loop-step.here = subst (λ (n : ℕ). IsUp tree (Class c.args.class) n c.loop-step.here) (sym c.loop-step.invariant.width) c.loop-step.invariant.reached in
    record {
      width = ap length c.in_ok-push.ensures.items ∙ length-append line (c.loop-step.here ∷ []) ∙ ap (λ n. n + 1) c.loop-step.invariant.width;
      line = subst (λ (xs : List ResolvedElement). IsLine tree c.args.class xs) (sym c.in_ok-push.ensures.items) (line_more tree c.args.class line c.loop-step.here c.loop-step.invariant.line reached);
      reached = up_more tree c.args.class c.loop-step.step c.loop-step.here c.in-Some.above c.loop-step.invariant.reached c.in-Some.ensures;
    }
