-- A source of which an error was found is not accepted.
use Rattle.std.proofs.Common.{◌≡◌, ◌≢◌, ◌∙◌, ℕ, List, Option, Some, None, Err, refl, subst, sym}
use Rattle.reading_explanations.specs.cil_model.Sources.{SourceAnswer, HasTree, IsAnswer, TooLong as IsTooLong, Foreign, NoToken as HasNoToken, NoTree as HasNoTree}
use Rattle.reading_explanations.specs.cil_model.Typings.{IsAccepted, IsFirstUntyped}
use Rattle.reading_explanations.specs.cil_model.Legality.{least_broken}
use Rattle.reading_explanations.specs.cil_model.declared.trees.Tree.{Tree}
use Rattle.reading_explanations.specs.ilasm_reader.Answers.{IsReadAnswer}
use Rattle.reading_explanations.specs.ilasm_reader.declared.reading.ReadError.{ReadError}
use Rattle.reading_explanations.specs.ilasm_reader.declared.reading.ReadError.TheVariants.{TooLong, NotAscii, NoToken, NoTree, OutOfMemory as UnreadForMemory}
use Rattle.acceptance.specs.Errors.{IsErrorOf}
use Rattle.acceptance.specs.Sources.{HasAcceptedTree}
use Rattle.acceptance.specs.declared.errors.SourceError.{SourceError}
use Rattle.acceptance.specs.declared.errors.SourceError.TheVariants.{Unread, Illegal, Untyped, OutOfMemory}

-- a program with a method that has no typing is not accepted
never_accepted : (tree : Tree) (n : ℕ) → IsFirstUntyped tree n → IsAccepted tree → ⊥
never_accepted tree n first accepted =
    let typed = accepted.typed n first.untyped.0 first.untyped.1 first.untyped.2 in
    first.untyped.3 typed.0 typed.1

-- a source has one answer
abbrev AreUnique : Type 0
AreUnique = (source : List ℕ) (a b : SourceAnswer) → IsAnswer source a → IsAnswer source b → a ≡ b

-- the tree of an accepted source is accepted
its_tree : (source : List ℕ) (tree : Tree) → AreUnique → IsAnswer source (HasTree tree) → HasAcceptedTree source → IsAccepted tree
its_tree source tree unique read let_in =
    let same : HasTree let_in.0 ≡ HasTree tree = unique source (HasTree let_in.0) (HasTree tree) let_in.1.read read in
    let one : let_in.0 ≡ tree = cc same in
    subst IsAccepted one let_in.1.accepted

-- a source with another answer than a tree is not accepted
not_let_in : (source : List ℕ) (a : SourceAnswer) → AreUnique → IsAnswer source a → ((tree : Tree) → HasTree tree ≢ a) → HasAcceptedTree source → ⊥
not_let_in source a unique answer other let_in = other let_in.0 (unique source (HasTree let_in.0) a let_in.1.read answer)

-- a source without a tree is not accepted
unread_source : (source : List ℕ) (error : ReadError) → AreUnique → IsReadAnswer source (Err error) → error ≢ UnreadForMemory → HasAcceptedTree source → ⊥
unread_source source TooLong unique answer other = not_let_in source IsTooLong unique answer (λ tree e. absurd (cc e))
unread_source source (NotAscii offset) unique answer other = not_let_in source Foreign unique answer (λ tree e. absurd (cc e))
unread_source source (NoToken offset) unique answer other = not_let_in source HasNoToken unique answer (λ tree e. absurd (cc e))
unread_source source (NoTree offset expected) unique answer other = not_let_in source HasNoTree unique answer (λ tree e. absurd (cc e))
unread_source source UnreadForMemory unique answer other = λ let_in. other refl

-- a rule is broken, and none is
both_ways : (broken : Option ℕ) (n : ℕ) → broken ≡ Some n → broken ≡ None → ⊥
both_ways broken n is none = let wrong : Some n ≡ None = sym is ∙ none in absurd (cc wrong)

-- a source of which an error was found is not accepted, unless memory ran out
pub not_accepted : (source : List ℕ) (error : SourceError) → AreUnique → IsErrorOf source error → error ≢ OutOfMemory → HasAcceptedTree source → ⊥
not_accepted source (Unread error) unique found other let_in = unread_source source error unique found.0 found.1 let_in
not_accepted source (Illegal tree violation) unique found other let_in = both_ways (least_broken tree) _ found.1 (its_tree source tree unique found.0 let_in).legal
not_accepted source (Untyped program method failure) unique found other let_in = never_accepted program method found.2 (its_tree source program unique found.0 let_in)
not_accepted source OutOfMemory unique found other let_in = other refl
