-- What is retained where one of two arrays is held: the words of the one that is held.
use Rattle.std.proofs.Common.{◌≡◌, ℕ, zero, suc, [], ◌∷◌, None, Contains, refl, inl, inr, sym, subst, arith, lit<}
use Rattle.std.specs.List.{IsDistinct}
use Rattle.cil_model.specs.declared.types.Element.TheVariants.{Int32 as Int32Element}
use Rattle.cil_model.specs.Declarations.{plain}
use Rattle.reference_machine.specs.Values.{ObjectName, Born, Reference}
use Rattle.reference_machine.specs.States.{Free, Array, State, object_at}
use Rattle.reference_machine.specs.Reachable.{IsReachable, from_root, from_member, members_of}
use Rattle.reference_machine.specs.RetainedWords.{IsRetained, RetainsWords}
use Rattle.definition_tests.proofs.Samples.FarmProgram.{farm, idle_frame, heap_object, int, object}

-- thread 0 holds the first array, and nothing holds the second
abbrev two_arrays : State
two_arrays = record {
  objects = heap_object (Array (plain Int32Element) (int 7 ∷ [])) Free None ∷ heap_object (Array (plain Int32Element) (int 8 ∷ [])) Free None ∷ [];
  literal_monitors = [];
  statics = [];
  threads = record { frames = record idle_frame { arguments = []; locals = object 0 ∷ []; stack = [] } ∷ []; steps_left = 9; ended = None } ∷ [];
  printed = [];
}

same_reference : (m n : ObjectName) → Reference m ≡ Reference n → m ≡ n
same_reference m n e = cc

same_born : (m n : ℕ) → Born m ≡ Born n → m ≡ n
same_born m n e = cc

no_reference : (n : ObjectName) → int 7 ≡ Reference n → ⊥
no_reference n e = cc

-- a list of one item contains that item alone
alone : {X : Type 0} (x y : X) → Contains (x ∷ []) y → x ≡ y
alone x y (zero, less, e) = e
alone x y (suc k, less, e) = absurd (omega (arith, less))

-- nothing but the first array is reachable
reachable_is_first : (n : ObjectName) → IsReachable two_arrays n → n ≡ Born 0
reachable_is_first _ (from_root n held) = sym (same_reference (Born 0) n (alone (object 0) (Reference n) held))
reachable_is_first _ (from_member m n reached held) = absurd (no_reference n (alone (int 7) (Reference n) (subst P (reachable_is_first m reached) held)))
  where
    P : ObjectName → Type 0
    P x = Contains (members_of (object_at two_arrays x)) (Reference n)

retained_is_first : (n : ℕ) → IsRetained two_arrays two_arrays n → Contains (0 ∷ []) n
retained_is_first n (inl reached) = let Q : ℕ → Type 0 = λ x. Contains (0 ∷ []) x in subst Q (sym (same_born n 0 (reachable_is_first (Born n) reached))) (0, lit< tt, refl)
retained_is_first n (inr (born, less)) = absurd (omega (arith, born, less))

first_is_retained : (n : ℕ) → Contains (0 ∷ []) n → IsRetained two_arrays two_arrays n
first_is_retained n h = let Q : ℕ → Type 0 = λ x. IsRetained two_arrays two_arrays x in subst Q (alone 0 n h) (inl (from_root (Born 0) (0, lit< tt, refl)))

first_alone : RetainsWords farm two_arrays two_arrays 4
unfolding IsDistinct
first_alone = record { names = 0 ∷ []; distinct = (tt, tt); retained = λ n. (first_is_retained n, retained_is_first n); total = refl }
