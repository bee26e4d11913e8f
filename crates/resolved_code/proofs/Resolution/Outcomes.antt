-- What functions that resolve names return, step by step.
use Rattle.std.proofs.Common.{◌≡◌, ◌<◌, ℕ, List, length, get_or, map, option_map, option_and_then, Option, Some, None, Result, Ok, Err, IsErrAnd, refl, sym, subst, ◌∙◌, ap}
use Rattle.std.specs.Option.{ok_or}
use Rattle.resolved_code.specs.declared.errors.ResolveError.{ResolveError}
use Rattle.resolved_code.specs.declared.errors.ResolveError.TheVariants.{Unresolved, OutOfMemory}
use Rattle.resolved_code.specs.Outcomes.{Fails, Gives}
use Rattle.resolved_code.specs.Rules.{all_some}
use Rattle.resolved_code.proofs.ListLaws.FoundItems.{all_some_absent}

-- an error that is passed on
pub passed_on : {X : Type 0} (r : Result X ResolveError) (e : ResolveError) (o : Option X) → IsErrAnd r (λ y. y ≡ e) → Fails e o → Gives r o
passed_on (Ok x) e o h f = absurd h
passed_on (Err y) e o h f = rw h f

-- where one item fails, so do all
pub fails_at : {X Y : Type 0} (rule : X → Option Y) (xs : List X) (i : ℕ) (x : X) (e : ResolveError) → i < length xs → x ≡ get_or xs i x → Fails e (rule x) → Fails e (all_some (map rule xs))
fails_at rule xs i x Unresolved l s h = all_some_absent rule xs i x l s h
fails_at rule xs i x OutOfMemory l s h = tt

-- where the first part fails, so does what is made of it
pub fails_first : {X Y : Type 0} (next : X → Option Y) (o : Option X) (e : ResolveError) → Fails e o → Fails e (option_and_then next o)
fails_first next o Unresolved h = ap (option_and_then next) h
fails_first next o OutOfMemory h = tt

-- where a later part fails, so does what is made of both
pub fails_after : {X Y : Type 0} (next : X → Option Y) (o : Option X) (x : X) (e : ResolveError) → o ≡ Some x → Fails e (next x) → Fails e (option_and_then next o)
fails_after next o x Unresolved s h = ap (option_and_then next) s ∙ h
fails_after next o x OutOfMemory s h = tt

-- where the last part fails, so does what is made of it
pub fails_last : {X Y : Type 0} (make : X → Y) (o : Option X) (e : ResolveError) → Fails e o → Fails e (option_map make o)
fails_last make o Unresolved h = ap (option_map make) h
fails_last make o OutOfMemory h = tt

-- what is found, and otherwise unresolved
pub found : {X : Type 0} (r : Result X ResolveError) (o rule : Option X) → r ≡ ok_or o Unresolved → o ≡ rule → Gives r rule
found {X} r o rule e h = subst (λ q. Gives q rule) (sym e) (subst (Gives (ok_or o Unresolved)) h (as_found o))
  where
    as_found : (p : Option X) → Gives (ok_or p Unresolved) p
    as_found None = refl
    as_found (Some x) = refl
