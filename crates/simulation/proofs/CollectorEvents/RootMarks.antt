-- The marks of a thread that acknowledges a round are those of a list of references, and leave the monitors of literals.
use Rattle.std.proofs.Common.{◌≡◌, true, List, [], ◌∷◌, map, Option, Some, None, refl, inl, inr, subst}
use Rattle.std.specs.Prelude.{All}
use Rattle.std.proofs.lemmas.List.Elements.{All-cons, All-head, All-nil, All-tail}
use Rattle.interpreter.specs.object_memory.declared.addresses.Addr.{Addr}
use Rattle.interpreter.specs.object_memory.declared.values.Value.{Value}
use Rattle.interpreter.specs.object_memory.declared.values.Value.TheVariants.{Ref}
use Rattle.interpreter.specs.object_memory.Objects.{Objects}
use Rattle.interpreter.specs.instructions.barriers.Barriers.{with_marked}
use Rattle.interpreter.specs.threads_monitors.Roots.{roots}
use Rattle.interpreter.specs.threads_monitors.declared.threads.ThreadStatus.{ThreadStatus}
use Rattle.interpreter.specs.threads_monitors.declared.threads.ThreadStatus.TheVariants.{Live, Ended}
use Rattle.interpreter.specs.threads_monitors.declared.threads.Thread.{Thread}
use Rattle.collector.specs.MarkSteps.{with_all_marked}
use Rattle.collector.specs.References.{Test, ValuePasses}
use Rattle.collector.specs.Soundness.{IsListed}
use Rattle.simulation.specs.CollectorSteps.{with_roots_marked, with_status_marked, with_thread_marked}

-- what the frames of a thread refer to, as values
abbrev pub status_values : ThreadStatus → List Value
status_values (Live m) = map Ref (roots m)
status_values (Ended e) = []

abbrev pub thread_values : Option Thread → List Value
thread_values None = []
thread_values (Some x) = status_values x.thread_status

-- one by one, and of a thread as it stands
roots_marked : (list : List Addr) (o : Objects) → with_roots_marked o list ≡ with_all_marked o (map Ref list)
roots_marked [] o = refl
roots_marked (a ∷ list) o = roots_marked list (with_marked o (Ref a))

status_marked : (o : Objects) (x : ThreadStatus) → with_status_marked o x ≡ with_all_marked o (status_values x)
status_marked o (Live m) = roots_marked (roots m) o
status_marked o (Ended e) = refl

-- a thread that acknowledges marks these
pub thread_marked : (o : Objects) (x : Option Thread) → with_thread_marked o x ≡ with_all_marked o (thread_values x)
thread_marked o None = refl
thread_marked o (Some x) = status_marked o x.thread_status

-- what is so of all that is listed is so of all these, and the other way
pub all_of_listed : (test : Test) (list : List Addr) → ((a : Addr) → IsListed list a → test a ≡ true) → All (ValuePasses test) (map Ref list)
all_of_listed test [] h = All-nil (ValuePasses test)
all_of_listed test (a ∷ list) h = All-cons (ValuePasses test) (Ref a) (map Ref list) (h a (inl refl)) (all_of_listed test list (λ b listed. h b (inr listed)))

pub listed_of_all : (test : Test) (list : List Addr) → All (ValuePasses test) (map Ref list) → (a : Addr) → IsListed list a → test a ≡ true
listed_of_all test [] h a listed = elim listed [ ]
listed_of_all test (b ∷ list) h a (inl same) = subst (λ x. test x ≡ true) same (All-head (ValuePasses test) (Ref b) (map Ref list) h)
listed_of_all test (b ∷ list) h a (inr listed) = listed_of_all test list (All-tail (ValuePasses test) (Ref b) (map Ref list) h) a listed
