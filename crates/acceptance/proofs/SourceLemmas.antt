-- What an error that a `?` hands on is, and why a source or its limits are refused.
use Rattle.std.proofs.Common.{◌≡◌, ℕ, Bool, true, false, List, Result, Ok, Err, refl, sym, subst, inl, inr}
use Rattle.std.specs.Prelude.{◌↔◌, IfErr, IfOk, IsErrAnd, OnErr}
use Rattle.cil_model.specs.Ranges.{are_in_range}
use Rattle.cil_model.specs.Sources.{HasTree, IsAnswer}
use Rattle.cil_model.specs.Typings.{IsAccepted}
use Rattle.cil_model.specs.declared.limits.Limits.{Limits}
use Rattle.cil_model.specs.declared.trees.Tree.{Tree}
use Rattle.interleaving_core.specs.declared.machine.Refused.{Refused as NotMade}
use Rattle.interleaving_core.specs.declared.machine.Refused.TheVariants.{Limits as BadLimits, OutOfMemory as NotMadeForMemory}
use Rattle.ilasm_reader.specs.Answers.{IsReadAnswer}
use Rattle.ilasm_reader.specs.declared.reading.ReadError.{ReadError}
use Rattle.ilasm_reader.specs.declared.reading.ReadError.TheVariants.{TooLong, NotAscii, NoToken, NoTree, OutOfMemory}
use Rattle.acceptance.specs.Errors.{IsErrorOf, error_of_reading}
use Rattle.acceptance.specs.Failures.{failure_of_making}
use Rattle.acceptance.specs.Sources.{IsAcceptedSource, IsNotRunWithin}
use Rattle.acceptance.specs.declared.failure.Failure.{Failure}

pub handed_on : {T E : Type 0} {P gives : E → Type 0} (r : Result T E) → IsErrAnd r gives → ((e : E) → gives e → P e) → IfErr r P
handed_on (Ok x) h f = tt
handed_on (Err e) h f = f e h

pub if_ok : {T E : Type 0} {P Q : T → Type 0} (r : Result T E) → IfOk r P → ((x : T) → P x → Q x) → IfOk r Q
if_ok (Ok x) h f = f x h
if_ok (Err e) h f = tt

pub if_err : {T E : Type 0} {P Q : E → Type 0} (r : Result T E) → IfErr r P → ((e : E) → P e → Q e) → IfErr r Q
if_err (Ok x) h f = tt
if_err (Err e) h f = f e h

pub on_err : {T E : Type 0} {P : Type 0} (r : Result T E) → P → OnErr r P
on_err (Ok x) p = tt
on_err (Err e) p = p

pub on_err_of : {T E : Type 0} {P Q : Type 0} (r : Result T E) → OnErr r P → (P → Q) → OnErr r Q
on_err_of (Ok x) p f = tt
on_err_of (Err e) p f = f p

-- an accepted tree that the source has
pub accepted_source : (source : List ℕ) (tree verified : Tree) → IsAnswer source (HasTree tree) → verified ≡ tree → IsAccepted tree → IsAcceptedSource source verified
accepted_source source tree verified read same accepted = subst (IsAcceptedSource source) (sym same) (record { read = read; accepted = accepted })

-- a source that the reader refuses
pub read_error : (source : List ℕ) (error : ReadError) → IsReadAnswer source (Err error) → IsErrorOf source (error_of_reading error)
read_error source TooLong answer = (answer, λ same. absurd (cc same))
read_error source (NotAscii offset) answer = (answer, λ same. absurd (cc same))
read_error source (NoToken offset) answer = (answer, λ same. absurd (cc same))
read_error source (NoTree offset expected) answer = (answer, λ same. absurd (cc same))
read_error source OutOfMemory answer = answer

-- a machine that was not made: its limits, or else memory
pub not_made : {T : Type 0} (limits : Limits) (error : NotMade) (failure : Failure) → (◌≡◌ {A = Result T NotMade} (Err error) (Err BadLimits)) ↔ (are_in_range limits ≡ false) → failure ≡ failure_of_making error
    → IsNotRunWithin limits failure
not_made limits BadLimits failure within reported = inl (within.0 refl, reported)
not_made limits NotMadeForMemory failure within reported = by_range (are_in_range limits) refl
  where
    by_range : (b : Bool) → are_in_range limits ≡ b → IsNotRunWithin limits failure
    by_range true in_range = inr (in_range, reported)
    by_range false beyond = let wrong = within.1 beyond in absurd cc
