-- Reading a list from the left, step by step.
use Rattle.std.specs.Prelude.{◌≡◌, ◌<◌, ◌≤◌, ℕ, zero, suc, List, [], ◌∷◌, ◌++◌, length, Option, Some, None, Result, Ok, Err, Bool, true, false, if◌then◌else◌, refl}
use Rattle.std.proofs.Common.{subst, cond, arith}
use Rattle.ilasm_tokens.specs.declared.failure.Failure.{Failure}
use Rattle.ilasm_tokens.specs.declared.failure.Failure.TheVariants.{Refused, OutOfMemory}
use Rattle.cil_model.specs.Spans.{SpanOf, each}

unfoldable pub bind : {A B : Type 0} → Option A → (A → Option B) → Option B
bind (Some x) f = f x
bind None f = None

infixl 10 ◌>>=◌
abbrev pub ◌>>=◌ : {A B : Type 0} → Option A → (A → Option B) → Option B
r >>= f = bind r f

-- with what is there, and otherwise without
unfoldable pub choice : {A B : Type 0} → Option A → (A → B) → B → B
choice (Some x) f d = f x
choice None f d = d

-- What a function returned, seen by view, is what parsing gives, unless memory ran out.
abbrev pub Fails : {Y : Type 0} → Failure → Option Y → Type 0
Fails OutOfMemory read = Unit {0}
Fails (Refused left expected) read = read ≡ None

abbrev pub Gives : {X Y : Type 0} → (X → Y) → Result X Failure → Option Y → Type 0
Gives view (Ok x) read = read ≡ Some (view x)
Gives view (Err e) read = Fails e read

-- a value, and what is left after it
abbrev pub ParserOf : Type 0 → Type 0 → Type 0
ParserOf S A = List S → Option (A × List S)

-- something is taken
abbrev pub Consumes : {S A : Type 0} → ParserOf S A → Type 0
Consumes {S} {A} parses = (ts : List S) (x : A) (rest : List S) → parses ts ≡ Some (x, rest) → length rest < length ts

unfoldable pub with_front : {S A : Type 0} → List A → Option (List A × List S) → Option (List A × List S)
with_front front None = None
with_front front (Some x) = Some (front ++ x.0, x.1)

-- items as long as one starts, n at most
unfoldable pub many_up_to : {S A : Type 0} → (List S → Bool) → ParserOf S A → ℕ → ParserOf S (List A)
many_up_to starts parses zero ts = Some ([], ts)
many_up_to starts parses (suc n) ts = if starts ts then (do
  first ← parses ts
  others ← many_up_to starts parses n first.1
  Some (first.0 ∷ others.0, others.1)) else Some ([], ts)

-- items as long as one starts
unfoldable pub many : {S A : Type 0} → (List S → Bool) → ParserOf S A → ParserOf S (List A)
many starts parses ts = many_up_to starts parses (suc (length ts)) ts

-- ---- what steps give

-- each value that a step gives is such
pub record Yields {B : Type 0} (m : Option B) (Q : B → Type 0) : Type 0 where
  pub out : (y : B) → m ≡ Some y → Q y

pub yields_some : {B : Type 0} {Q : B → Type 0} {x : B} → Q x → Yields (Some x) Q
yields_some {B} {Q} {x} q = record { out = λ y e. let same : x ≡ y = cc in subst Q same q }

pub yields_none : {B : Type 0} {Q : B → Type 0} → Yields None Q
yields_none = record { out = λ y e. absurd cc }

pub yields_bind : {A B : Type 0} {P : A → Type 0} {Q : B → Type 0} {r : Option A} {f : A → Option B} → Yields r P → ((x : A) → P x → Yields (f x) Q) → Yields (bind r f) Q
unfolding bind
yields_bind {r = Some x} p next = next x (p.out x refl)
yields_bind {r = None} p next = yields_none

pub yields_choice : {A B : Type 0} {P : A → Type 0} {Q : B → Type 0} {r : Option A} {f : A → Option B} {d : Option B} → Yields r P → ((x : A) → P x → Yields (f x) Q) → Yields d Q → Yields (choice r f d) Q
unfolding choice
yields_choice {r = Some x} p next other = next x (p.out x refl)
yields_choice {r = None} p next other = other

-- a step whose value is known
pub bind_at : {A B : Type 0} {r : Option A} {x : A} {y : Option B} (f : A → Option B) → r ≡ Some x → f x ≡ y → bind r f ≡ y
unfolding bind
bind_at f e g = rw e g

pub choice_at : {A B : Type 0} {r : Option A} {x : A} {y : B} (f : A → B) (d : B) → r ≡ Some x → f x ≡ y → choice r f d ≡ y
unfolding choice
choice_at f d e g = rw e g

pub choice_past : {A B : Type 0} {r : Option A} {d y : B} (f : A → B) → r ≡ None → d ≡ y → choice r f d ≡ y
unfolding choice
choice_past f e g = rw e g

pub yields_if : {B : Type 0} {Q : B → Type 0} (b : Bool) {m : Option B} → (b ≡ true → Yields m Q) → Yields (cond b m None) Q
yields_if true p = p refl
yields_if false p = yields_none

pub yields_cond : {B : Type 0} {Q : B → Type 0} (b : Bool) {m d : Option B} → Yields m Q → Yields d Q → Yields (cond b m d) Q
yields_cond true p q = p
yields_cond false p q = q

-- a parser that gives what the grammar has, and takes at least one token
abbrev pub Sound : {S A : Type 0} → ParserOf S A → (A → SpanOf S) → Type 0
Sound {S} {A} parses R = (ts : List S) → Yields (parses ts) (λ y. R y.0 ts y.1 × (length y.1 < length ts))

-- the same, where it may take none
abbrev pub SoundOrNone : {S A : Type 0} → ParserOf S A → (A → SpanOf S) → Type 0
SoundOrNone {S} {A} parses R = (ts : List S) → Yields (parses ts) (λ y. R y.0 ts y.1 × (length y.1 ≤ length ts))

-- nothing is taken
pub stays : {S A : Type 0} (x : A) (ts : List S) (R : A → SpanOf S) → R x ts ts → Yields {B = A × List S} (Some (x, ts)) (λ y. R y.0 ts y.1 × (length y.1 ≤ length ts))
stays {S} {A} x ts R r =
    let one : A × List S = (x, ts) in
    let le : length ts ≤ length ts = omega arith in
    let given : R one.0 ts one.1 × (length one.1 ≤ length ts) = (r, le) in
    yields_some {x = one} given

none_sound : {S A : Type 0} (R : A → SpanOf S) (ts : List S) → Yields {B = List A × List S} (Some ([], ts)) (λ y. each R y.0 ts y.1 × (length y.1 ≤ length ts))
none_sound {S} {A} R ts =
    let none : List A × List S = ([], ts) in
    let le : length ts ≤ length ts = omega arith in
    let given : each R none.0 ts none.1 × (length none.1 ≤ length ts) = (refl, le) in
    yields_some {x = none} given

module _ {S A : Type 0} (starts : List S → Bool) (parses : ParserOf S A) (R : A → SpanOf S) (sound : Sound parses R) where
  many_up_to_sound : (n : ℕ) → SoundOrNone (many_up_to starts parses n) (each R)
  unfolding many_up_to
  many_up_to_sound zero ts = none_sound R ts
  many_up_to_sound (suc n) ts =
      yields_cond (starts ts)
      (yields_bind (sound ts) (λ first p. yields_bind (many_up_to_sound n first.1) (λ others q. yields_some ((first.1, p.0, q.0), omega (arith, p.1, q.1)))))
      (none_sound R ts)

  pub many_sound : SoundOrNone (many starts parses) (each R)
  unfolding many
  many_sound ts = many_up_to_sound (suc (length ts)) ts
