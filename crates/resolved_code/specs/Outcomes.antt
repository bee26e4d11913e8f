-- What a function that resolves names returns, by the rule that it follows.
use Rattle.std.specs.Prelude.{◌≡◌, Option, Some, None, Result, Ok, Err}
use Rattle.resolved_code.specs.declared.errors.ResolveError.{ResolveError}
use Rattle.resolved_code.specs.declared.errors.ResolveError.TheVariants.{Unresolved, OutOfMemory}

-- where a name refers to nothing the rule gives nothing; out of memory says nothing of the rule
abbrev pub Fails : {X : Type 0} → ResolveError → Option X → Type 0
Fails Unresolved rule = rule ≡ None
Fails OutOfMemory rule = Unit {0}

-- what is returned is what the rule gives, unless memory ran out
abbrev pub Gives : {X : Type 0} → Result X ResolveError → Option X → Type 0
Gives (Ok x) rule = rule ≡ Some x
Gives (Err e) rule = Fails e rule
