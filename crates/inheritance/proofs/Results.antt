-- What is said of results that are no errors.
use Rattle.std.proofs.Common.{Result, Ok, Err}
use Rattle.std.specs.Prelude.{IfOk}

pub if_ok : {T E : Type 0} {P Q : T → Type 0} (r : Result T E) → IfOk r P → ((x : T) → P x → Q x) → IfOk r Q
if_ok (Ok x) p f = f x p
if_ok (Err e) p f = tt

pub if_both : {T E : Type 0} {P Q R : T → Type 0} (r : Result T E) → IfOk r P → IfOk r Q → ((x : T) → P x → Q x → R x) → IfOk r R
if_both (Ok x) p q f = f x p q
if_both (Err e) p q f = tt

pub if_three : {T E : Type 0} {P Q R S : T → Type 0} (r : Result T E) → IfOk r P → IfOk r Q → IfOk r R → ((x : T) → P x → Q x → R x → S x) → IfOk r S
if_three (Ok x) p q r f = f x p q r
if_three (Err e) p q r f = tt

pub if_four : {T E : Type 0} {P Q R S U : T → Type 0} (r : Result T E) → IfOk r P → IfOk r Q → IfOk r R → IfOk r S → ((x : T) → P x → Q x → R x → S x → U x) → IfOk r U
if_four (Ok x) p q r s f = f x p q r s
if_four (Err e) p q r s f = tt
