-- A source has one result.
use Rattle.std.proofs.Common.{◌≡◌, ℕ, List, Bool, true, false, refl, ap, subst}
use Rattle.cil_model.specs.declared.tokens.Token.{Token}
use Rattle.cil_model.specs.declared.trees.Tree.{Tree}
use Rattle.cil_model.specs.Lexemes.{AreTokens}
use Rattle.cil_model.specs.Grammar.{IsUnit, IsTreeOf}
use Rattle.cil_model.specs.Sources.{SourceAnswer, TooLong, Foreign, NoToken, NoTree, HasTree, IsAnswer}
use Rattle.ilasm_tokens.proofs.Reading.{same_tokens}
use Rattle.ilasm_reader.proofs.Whole.{same_tree}

apart : (b : Bool) {A : Type 0} → b ≡ true → b ≡ false → A
apart true e f = absurd cc
apart false e f = absurd cc

-- a tree of the source is a tree of its tokens
of_tokens : (source : List ℕ) (ts : List Token) (tree : Tree) → AreTokens source ts → IsTreeOf source tree → IsUnit ts tree
of_tokens source ts tree p (us, q, r) = subst (λ (vs : List Token). IsUnit vs tree) (same_tokens source us ts q p) r

pub one_answer : (source : List ℕ) (a b : SourceAnswer) → IsAnswer source a → IsAnswer source b → a ≡ b
one_answer source (HasTree t) (HasTree u) (a, b, (ts, p, q)) (c, d, e) = ap HasTree (same_tree ts t u q (of_tokens source ts u p e))
one_answer source TooLong Foreign p q = apart _ p q.0
one_answer source TooLong NoToken p q = apart _ p q.0
one_answer source TooLong NoTree p q = apart _ p q.0
one_answer source TooLong (HasTree u) p q = apart _ p q.0
one_answer source Foreign TooLong p q = apart _ q p.0
one_answer source NoToken TooLong p q = apart _ q p.0
one_answer source NoTree TooLong p q = apart _ q p.0
one_answer source (HasTree t) TooLong p q = apart _ q p.0
one_answer source Foreign NoToken p q = apart _ p.1 q.1
one_answer source Foreign NoTree p q = apart _ p.1 q.1
one_answer source Foreign (HasTree u) p q = apart _ p.1 q.1
one_answer source NoToken Foreign p q = apart _ q.1 p.1
one_answer source NoTree Foreign p q = apart _ q.1 p.1
one_answer source (HasTree t) Foreign p q = apart _ q.1 p.1
one_answer source NoToken NoTree (a, b, none) (c, d, ts, p, q) = absurd (none ts p)
one_answer source NoToken (HasTree u) (a, b, none) (c, d, (ts, p, q)) = absurd (none ts p)
one_answer source NoTree NoToken (c, d, ts, p, q) (a, b, none) = absurd (none ts p)
one_answer source (HasTree t) NoToken (c, d, (ts, p, q)) (a, b, none) = absurd (none ts p)
one_answer source NoTree (HasTree u) (a, b, ts, p, none) (c, d, e) = absurd (none u (of_tokens source ts u p e))
one_answer source (HasTree t) NoTree (c, d, e) (a, b, ts, p, none) = absurd (none t (of_tokens source ts t p e))
one_answer _ _ _ _ _ = refl
