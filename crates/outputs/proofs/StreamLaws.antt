-- Bytes that an output has taken, one piece after another, until a call failed.
use Rattle.std.proofs.Common.{◌≡◌, ◌<◌, ◌++◌, ◌∙◌, ℕ, false, refl, subst, Some, zero, suc, List, arith}
use Rattle.std.proofs.KnownBytes.{Appends-trans}
use Rattle.outputs.specs.Streams.{Fails, HasGrown, StreamState, Takes, is_failure}
use Rattle.outputs.proofs.BeginningLaws.{begins_first, begins_second}

-- a call that took some bytes has not failed
pub took_some : (count : ℕ) (bytes : List ℕ) → 0 < count → is_failure (Some count) bytes ≡ false
took_some zero bytes below = absurd (omega (arith, below))
took_some (suc count) bytes below = refl

-- both pieces are taken
pub takes_both : (a b c : StreamState) (first more : List ℕ) → Takes a b first → Takes b c more → Takes a c (first ++ more)
takes_both a b c first more h k = (Appends-trans a.contents b.contents c.contents first more h.0 k.0, k.1 ∙ h.1)

-- the first piece is cut
pub fails_first : (a b : StreamState) (first more : List ℕ) → Fails a b first → Fails a b (first ++ more)
fails_first a b first more h = (begins_first a.contents b.contents first more h.0, h.1)

-- the first piece is taken, and the second is cut
pub fails_second : (a b c : StreamState) (first more : List ℕ) → Takes a b first → Fails b c more → Fails a c (first ++ more)
fails_second a b c first more h k =
    (begins_second a.contents b.contents c.contents first more h.0 k.0, subst (λ n. HasGrown n c.failures) h.1 k.1)
