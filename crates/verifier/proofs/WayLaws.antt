-- The pcs at which control may continue after an operation are those of its instruction.
use Rattle.std.proofs.Common.{◌≡◌, ◌+◌, ◌⊎◌, ℕ, Bool, true, false, if◌then◌else◌, IsTrue, List, [], ◌∷◌, ◌++◌, map, Option, Some, refl, inl, inr, sym, ap, ◌∙◌, subst}
use Rattle.std.specs.Prelude.{Contains}
use Rattle.std.proofs.lemmas.List.Elements.{Contains-push, Contains-append_left, Contains-append_right, Contains-append_cases}
use Rattle.cil_model.specs.declared.instructions.BranchCondition.TheVariants as conditions
use Rattle.cil_model.specs.declared.instructions.Instruction.{Instruction}
use Rattle.cil_model.specs.declared.trees.Tree.{Tree}
use Rattle.cil_model.specs.declared.trees.Code.{Code}
use Rattle.cil_model.specs.declared.trees.Line.{Line}
use Rattle.cil_model.specs.Bodies.{pc_of, falls_through, labels_of}
use Rattle.resolved_code.specs.ResolvedPrograms.{IsOperation, branch, switch}
use Rattle.resolved_code.specs.declared.operations.Operation.{Operation}
use Rattle.verifier.specs.Ways.{falls, targets, ways_on}
use Rattle.verifier.specs.Tables.{AreWays}
use Rattle.verifier.proofs.TableLaws.{nothing_contained, one_contained}

abbrev AreSame : List Line → Instruction → Operation → Type 0
AreSame lines i op = (falls_through i ≡ falls op) × (map (λ label. pc_of label lines) (labels_of i) ≡ map Some (targets op))

same : (tree : Tree) (lines : List Line) (i : Instruction) (op : Operation) → IsOperation tree lines i op → AreSame lines i op
same tree lines _ _ (branch conditions.Always label pc at) = (refl, ap (λ o. o ∷ []) at)
same tree lines _ _ (branch conditions.IfTrue label pc at) = (refl, ap (λ o. o ∷ []) at)
same tree lines _ _ (branch conditions.IfFalse label pc at) = (refl, ap (λ o. o ∷ []) at)
same tree lines _ _ (branch (conditions.Compare op) label pc at) = (refl, ap (λ o. o ∷ []) at)
same tree lines _ _ (switch labels pcs at) = (refl, at)
same _ _ _ _ _ = (refl, refl)

module _ {X : Type 0} (f : X → Option ℕ) where
  no_item : {A : Type 0} {Y : Type 0} (y : Y) (ys : List Y) → [] ≡ y ∷ ys → A
  no_item y ys e = absurd (cc e)

  to_way : (labels : List X) (ways : List ℕ) → map f labels ≡ map Some ways → (label : X) → Contains labels label → (way : ℕ) × (f label ≡ Some way) × Contains ways way
  to_way [] ways e label c = nothing_contained label c
  to_way (l ∷ ls) [] e label c = no_item (f l) (map f ls) (sym e)
  to_way (l ∷ ls) (w ∷ ws) e label c = by_case (λ k. to_way ls ws tails label k) (Contains-append_cases (l ∷ []) ls label c)
    where
      heads : f l ≡ Some w
      heads = cc

      tails : map f ls ≡ map Some ws
      tails = cc

      by_case : (Contains ls label → (way : ℕ) × (f label ≡ Some way) × Contains ws way) → Contains (l ∷ []) label ⊎ Contains ls label → (way : ℕ) × (f label ≡ Some way) × Contains (w ∷ ws) way
      by_case further (inl k) = (w, ap f (sym (one_contained label l k)) ∙ heads, Contains-append_left (w ∷ []) ws w (Contains-push [] w))
      by_case further (inr k) = let r : (way : ℕ) × (f label ≡ Some way) × Contains ws way = further k in (r.0, r.1, Contains-append_right (w ∷ []) ws r.0 r.2)

  to_label : (labels : List X) (ways : List ℕ) → map f labels ≡ map Some ways → (way : ℕ) → Contains ways way → (label : X) × Contains labels label × (f label ≡ Some way)
  to_label labels [] e way c = nothing_contained way c
  to_label [] (w ∷ ws) e way c = no_item (Some w) (map Some ws) e
  to_label (l ∷ ls) (w ∷ ws) e way c = by_case (λ k. to_label ls ws tails way k) (Contains-append_cases (w ∷ []) ws way c)
    where
      heads : f l ≡ Some w
      heads = cc

      tails : map f ls ≡ map Some ws
      tails = cc

      by_case : (Contains ws way → (label : X) × Contains ls label × (f label ≡ Some way)) → Contains (w ∷ []) way ⊎ Contains ws way → (label : X) × Contains (l ∷ ls) label × (f label ≡ Some way)
      by_case further (inl k) = (l, Contains-append_left (l ∷ []) ls l (Contains-push [] l), heads ∙ ap Some (one_contained way w k))
      by_case further (inr k) = let r : (label : X) × Contains ls label × (f label ≡ Some way) = further k in (r.0, Contains-append_right (l ∷ []) ls r.0 r.1, r.2)

next_in : (b : Bool) (ways : List ℕ) (next : ℕ) → IsTrue b → Contains (ways ++ (if b then next ∷ [] else [])) next
next_in true ways next h = Contains-push ways next
next_in false ways next h = absurd (cc h)

from_next : (b : Bool) (next way : ℕ) → Contains (if b then next ∷ [] else []) way → IsTrue b × (way ≡ next)
from_next true next way c = (refl, sym (one_contained way next c))
from_next false next way c = nothing_contained way c

pub are_ways : (tree : Tree) (code : Code) (pc : ℕ) (line : Line) (op : Operation) → IsOperation tree code.lines line.instruction op → AreWays code pc line (ways_on op (pc + 1))
are_ways tree code pc line op is = record {
  falls = λ h. next_in (falls op) (targets op) (pc + 1) (subst IsTrue both.0 h);
  branches = λ label c. added label (to_way (λ l. pc_of l code.lines) (labels_of line.instruction) (targets op) both.1 label c);
  only = λ way c. by_case way (Contains-append_cases (targets op) (if falls op then (pc + 1) ∷ [] else []) way c);
}
  where
    both : AreSame code.lines line.instruction op
    both = same tree code.lines line.instruction op is

    added : (label : List ℕ) → (way : ℕ) × (pc_of label code.lines ≡ Some way) × Contains (targets op) way → (way : ℕ) × (pc_of label code.lines ≡ Some way) × Contains (ways_on op (pc + 1)) way
    added label (way, e, c) = (way, e, Contains-append_left (targets op) (if falls op then (pc + 1) ∷ [] else []) way c)

    by_case : (way : ℕ) → Contains (targets op) way ⊎ Contains (if falls op then (pc + 1) ∷ [] else []) way →
        (IsTrue (falls_through line.instruction) × (way ≡ pc + 1)) ⊎ ((label : List ℕ) × Contains (labels_of line.instruction) label × (pc_of label code.lines ≡ Some way))
    by_case way (inl c) = inr (to_label (λ l. pc_of l code.lines) (labels_of line.instruction) (targets op) both.1 way c)
    by_case way (inr c) =
        let n : IsTrue (falls op) × (way ≡ pc + 1) = from_next (falls op) (pc + 1) way c in
        inl (subst IsTrue (sym both.0) n.0, n.1)
