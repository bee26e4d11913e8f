-- Lemmas on what a command line holds.
use Rattle.std.proofs.Common.{codes, [], ◌∷◌, ◌≡◌, ◌<◌, ◌≤◌, ◌^◌, ℕ, Bool, List, Some, None, true, false, refl, sym, subst, ap, inl, inr, arith, ◌∙◌}
use Rattle.std.specs.Prelude.{IfErr, IfOk, Option, Result, Ok, Err}
use Rattle.std.specs.Str.Parse.{IsNumeral, digits_value, without_leading_plus}
use Rattle.clap.proofs.ValueTestLemmas.{Accepts-accepts, accepts-Accepts}
use Rattle.clap.specs.ValueTests.{is_unsigned_in}
use Rattle.clap.specs.Words.{App, HasKind, HasMatchesOf, Text, fault_of, found_of, is_simple, is_simple_and_free, kind_of, matches_of, rows_of, subcommand_rows_of, subcommand_of}
use Rattle.clap.proofs.OnLiterals.{clap_on_literals}
use Rattle.clap.specs.declared.parser.matches.ArgMatches.{ArgMatches}
use Rattle.clap.specs.declared.error.kind.ErrorKind.{ErrorKind}
use Rattle.clap.specs.declared.builder.value_parser.ValueParser.TheVariants as vp
use Rattle.clap.specs.Words.{IsAmong, Kinds}
use Rattle.clap.specs.declared.error.Error.{Error}
use Rattle.clap.specs.declared.error.kind.ErrorKind.TheVariants.{DisplayVersion, ValueValidation}
use Rattle.commands.specs.declared.order.Order.{Order}
use Rattle.command_line.specs.CommandLine.{run, AnswersBy, FaultIs, IsOfNone, Refuses, Request, cilvm_app, faults_of, number_in, threads_app, threads_in, request_by, request_in, request_of}
use Rattle.command_line.specs.declared.line.LineFault.{LineFault}
use Rattle.command_line.specs.declared.line.LineFault.TheVariants.{Help, Version, Bad, Memory}

pub number_in-some : (least most n : ℕ) (text : Text) → most < 2 ^ 32 → IsNumeral 10 (without_leading_plus text)
    → digits_value 10 (without_leading_plus text) ≡ n → least ≤ n → n ≤ most → Some n ≡ number_in least most text
number_in-some least most n text fits numeral value low high =
    let low_ok : least ≤ digits_value 10 (without_leading_plus text) = omega arith in
    let high_ok : digits_value 10 (without_leading_plus text) ≤ most = omega arith in
    let small : digits_value 10 (without_leading_plus text) < 2 ^ 64 = omega arith in
    let passes : is_unsigned_in least most text ≡ true
    = Accepts-accepts false (vp.Unsigned least most) text (numeral, small, low_ok, high_ok) in
    rw passes (rw value refl)

pub number_in-none : (least most : ℕ) (text : Text) → most < 2 ^ 32
    → (IsNumeral 10 (without_leading_plus text) → digits_value 10 (without_leading_plus text) < 2 ^ 32
    → least ≤ digits_value 10 (without_leading_plus text) → digits_value 10 (without_leading_plus text) ≤ most → ⊥)
    → None ≡ number_in least most text
number_in-none least most text fits bad = go (is_unsigned_in least most text) refl
  where
    go : (b : Bool) → is_unsigned_in least most text ≡ b → None ≡ number_in least most text
    go false e = rw e refl
    go true e =
        let passed = accepts-Accepts false (vp.Unsigned least most) text e in
        absurd (bad passed.0 (omega arith) passed.2 passed.3)

-- clap's contracts are exact at this command line
pub cilvm_app-exact : is_simple_and_free cilvm_app ≡ true
unfolding clap_on_literals
cilvm_app-exact = refl

pub cilvm_app-simple : is_simple cilvm_app ≡ true
unfolding clap_on_literals
cilvm_app-simple = refl

pub threads_app-exact : is_simple_and_free threads_app ≡ true
unfolding clap_on_literals
threads_app-exact = refl

threads_app-simple : is_simple threads_app ≡ true
unfolding clap_on_literals
threads_app-simple = refl

-- what clap found is what the words ask for
pub request_in-found : (a : App) (words : List Text) (m : ArgMatches) → a ≡ cilvm_app → HasMatchesOf a words m
    → request_in (subcommand_of cilvm_app words) ≡ request_in (subcommand_rows_of m)
request_in-found a words m is found =
    let rows = (found (ap is_simple is ∙ cilvm_app-simple)).1 in
    ap request_in (ap (λ (x : App). subcommand_of x words) (sym is) ∙ sym rows)

-- the same, where `threads` reads the words
pub threads_in-found : (a : App) (words : List Text) (m : ArgMatches) → a ≡ threads_app → HasMatchesOf a words m
    → threads_in (matches_of threads_app words) ≡ threads_in (rows_of (found_of m))
threads_in-found a words m is found =
    let rows = (found (ap is_simple is ∙ threads_app-simple)).0 in
    ap threads_in (ap (λ (x : App). matches_of x words) (sym is) ∙ sym rows)

-- what clap has against the words, where the command that it read is this one
pub fault_of-app : (a app : App) (words : List Text) → a ≡ app → fault_of a words ≡ fault_of app words
fault_of-app a app words is = ap (λ (x : App). fault_of x words) is

pub exact_at : (a app : App) → a ≡ app → is_simple_and_free app ≡ true → is_simple_and_free a ≡ true
exact_at a app is exact = ap is_simple_and_free is ∙ exact

-- an error of clap becomes a fault that the words deserve
pub refuses : (faults : Kinds) (requested : Option Request) (e : Error) (fault : LineFault) → HasKind faults e → FaultIs (kind_of e) fault
    → Refuses faults requested fault
refuses faults requested e (Help text) (inl memory) is = absurd (cc (sym is ∙ memory))
refuses faults requested e (Help text) (inr among) is = subst (λ (k : ErrorKind). IsAmong k faults) is among
refuses faults requested e (Version text) (inl memory) is = absurd (cc (sym is ∙ memory))
refuses faults requested e (Version text) (inr among) is = subst (λ (k : ErrorKind). IsAmong k faults) is among
refuses faults requested e (Bad text) (inl memory) is = absurd (is.2 memory)
refuses faults requested e (Bad text) (inr among) is = inl (kind_of e, among, is.0, is.1)
refuses faults requested e Memory kind is = tt

-- what the words ask for, or that they ask for nothing, where clap takes them
pub answers_requested : (faults : Kinds) (requested w : Option Request) (answer : Result Order LineFault) → requested ≡ w → faults ≡ []
    → IfOk answer (λ order. w ≡ Some (request_of order)) → IfErr answer (IsOfNone w) → AnswersBy faults requested answer
answers_requested faults requested w (Ok order) found free value none = (free, found ∙ value)
answers_requested faults requested w (Err (Bad text)) found free value none = inr (found ∙ none)
answers_requested faults requested w (Err Memory) found free value none = tt
answers_requested faults requested w (Err (Help text)) found free value none = absurd none
answers_requested faults requested w (Err (Version text)) found free value none = absurd none

-- the definitions at words that are written out
run_example : request_by (codes "cilvm" ∷ codes "run" ∷ codes "p.il" ∷ codes "--schedule" ∷ codes "s0*5" ∷ codes "--budget=3" ∷ [])
    ≡ Some (run (codes "p.il") (codes "s0*5") None (record { words = 65536; max_words = 65536; budget = 3; depth = 64 }) false false)
unfolding clap_on_literals
run_example = refl

run_example-free : faults_of (codes "cilvm" ∷ codes "run" ∷ codes "p.il" ∷ codes "--schedule" ∷ codes "s0*5" ∷ codes "--budget=3" ∷ []) ≡ []
unfolding clap_on_literals
run_example-free = refl

words_63 : faults_of (codes "cilvm" ∷ codes "run" ∷ codes "p.il" ∷ codes "--schedule" ∷ codes "s0*5" ∷ codes "--words" ∷ codes "63" ∷ [])
    ≡ ValueValidation ∷ []
unfolding clap_on_literals
words_63 = refl

-- a source in place of a command asks for what it asks for after `threads`
source_example : request_by (codes "cilvm" ∷ codes "p.il" ∷ codes "--workers" ∷ codes "2" ∷ codes "--stop-at-deadlock" ∷ [])
    ≡ request_by (codes "cilvm" ∷ codes "threads" ∷ codes "p.il" ∷ codes "--workers" ∷ codes "2" ∷ codes "--stop-at-deadlock" ∷ [])
unfolding clap_on_literals
source_example = refl

source_example-free : faults_of (codes "cilvm" ∷ codes "p.il" ∷ codes "--workers" ∷ codes "2" ∷ codes "--stop-at-deadlock" ∷ []) ≡ []
unfolding clap_on_literals
source_example-free = refl

asks_version : faults_of (codes "cilvm" ∷ codes "--version" ∷ []) ≡ DisplayVersion ∷ []
unfolding clap_on_literals
asks_version = refl

asks_version_by_letter : faults_of (codes "cilvm" ∷ codes "-V" ∷ []) ≡ DisplayVersion ∷ []
unfolding clap_on_literals
asks_version_by_letter = refl
