use Rattle.std.proofs.Common.{◌≡◌, ◌-◌, ◌<◌, ◌++◌, ◌∷◌, [], ℕ, zero, suc, List, Option, Some, None, map, refl, sym, ap, ◌∙◌, arith, append_assoc}
use Rattle.std.proofs.lemmas.List.{append-nil}
use Rattle.class_layout.specs.ByClass.{base_at, chain_by}
use Rattle.class_layout.proofs.classes.chain.Goals as goal

ended : (bases : List (Option ℕ)) (k : ℕ) → chain_by bases k None ≡ []
ended bases zero = refl
ended bases (suc k) = refl

further : (bases : List (Option ℕ)) (k n : ℕ) → 0 < k → chain_by bases k (Some n) ≡ n ∷ chain_by bases (k - 1) (base_at bases n)
further bases zero n h = absurd (omega (arith, h))
further bases (suc k) n h =
    let same : k ≡ suc k - 1 = omega arith in
    ap (λ j. n ∷ chain_by bases j (base_at bases n)) same

pub returns-in_default : goal.returns-in_default
returns-in_default c =
    let bases = map (λ r. r.base) c.args.classes.now in
    sym (append-nil c.loop-left.chain.items) ∙ ap (λ ns. c.loop-left.chain.items ++ ns) (sym (ap (chain_by bases c.loop-left.left) c.in_default.is ∙ ended bases c.loop-left.left)) ∙ c.loop-left.invariant

pub loop-left-preserved : goal.loop-left-preserved
loop-left-preserved c =
    let bases = map (λ r. r.base) c.args.classes.now in
    let n = c.in-Some.here in
    let before = c.loop-left.chain.items in
    let rest : chain_by bases c.loop-left.left c.loop-left.next ≡ n ∷ chain_by bases (c.loop-left.left - 1) (base_at bases n) = ap (chain_by bases c.loop-left.left) c.in-Some.is ∙ further bases c.loop-left.left n (omega arith) in
    ap (λ ns. ns ++ chain_by bases (c.loop-left.left - 1) c.base_at-next.result) c.in_ok-push.ensures.items ∙ append_assoc before (n ∷ []) (chain_by bases (c.loop-left.left - 1) c.base_at-next.result) ∙
    ap (λ b. before ++ (n ∷ chain_by bases (c.loop-left.left - 1) b)) c.base_at-next.ensures ∙ ap (λ ns. before ++ ns) (sym rest) ∙ c.loop-left.invariant

pub returns : goal.returns
returns c =
    let bases = map (λ r. r.base) c.args.classes.now in
    let none : c.loop-left.left ≡ 0 = omega arith in
    sym (append-nil c.loop-left.chain.items) ∙ ap (λ k. c.loop-left.chain.items ++ chain_by bases k c.loop-left.next) (sym none) ∙ c.loop-left.invariant
