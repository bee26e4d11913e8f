-- A typed state has a list of exactly the objects that are reachable in it, so there are words that are retained.
use Rattle.std.proofs.Common.{◌≡◌, ◌⊎◌, ◌≤◌, ◌<◌, ◌+◌, ◌-◌, ℕ, zero, suc, Bool, true, false, if◌then◌else◌, List, [], ◌∷◌, ◌++◌, length, Option, Some, None, Contains, refl, inl, inr, sym, ap, ◌∙◌, subst, arith, lit<}
use Rattle.std.specs.Prelude.{◌==◌, ◌||◌, nat_eq, sum_by, slice_get}
use Rattle.std.specs.List.{AllByRecursion, IsDistinct}
use Rattle.std.proofs.lemmas.Bool.{eqb-true}
use Rattle.std.proofs.lemmas.Bool.Decides.{nat_tests}
use Rattle.std.proofs.lemmas.Cmp.{nat_eq_equiv}
use Rattle.std.proofs.lemmas.List.Elements.{Contains-append_cases, Contains-append_left, Contains-append_right}
use Rattle.std.proofs.lemmas.List.Sums.{sum_by-cons}
use Rattle.std.proofs.lemmas.Map.Keys.{IsDistinct-cons}
use Rattle.std.proofs.lemmas.Map.Views.{Contains-from_any, list_any-from_Contains}
use Rattle.interpreter.specs.cil_model.declared.trees.Tree.{Tree}
use Rattle.interpreter.proofs.cil_model.Lists.{none_is_some}
use Rattle.std.proofs.lemmas.Option.{same_Some}
use Rattle.interpreter.specs.reference_machine.RetainedWords.{IsRetained, RetainsWords, words_of_object}
use Rattle.interpreter.specs.reference_machine.Reachable.{IsReachable, from_member, from_root, members_of, roots}
use Rattle.interpreter.specs.reference_machine.States.{State, object_at}
use Rattle.interpreter.specs.reference_machine.Values.{Born, Literal, ObjectName, Reference, Value}
use Rattle.reference_machine.specs.TypedStates.{IsTyped}
use Rattle.reference_machine.proofs.ReachableObjects.TypedStates.{reachable_is_there}
use Rattle.reference_machine.proofs.ReachableObjects.Values.{AreWithin, IsWithin, contained_within}
use Rattle.simulation.proofs.RetainedWords.SumsOverNames.{distinct_sum, is_listed}

-- ---- the first object that is not on a list

abbrev choose : List ℕ → Value → Option ℕ → Option ℕ
choose names (Reference (Born n)) later = if is_listed names n then later else Some n
choose names _ later = later

abbrev first_new : List ℕ → List Value → Option ℕ
first_new names [] = None
first_new names (v ∷ vs) = choose names v (first_new names vs)

module _ (names : List ℕ) where
  abbrev Inside : ℕ → Type 0
  Inside n = is_listed names n ≡ true

  -- where there is none the values refer to the list alone
  all_within : (vs : List Value) → first_new names vs ≡ None → AreWithin Inside vs
  all_within [] e = tt
  all_within (v ∷ vs) e = let both = by_value v e in (both.0, all_within vs both.1)
    where
      by_test : (n : ℕ) (t : Bool) → is_listed names n ≡ t → (if t then first_new names vs else Some n) ≡ None → (is_listed names n ≡ true) × (first_new names vs ≡ None)
      by_test n true listed h = (listed, h)
      by_test n false listed h = none_is_some n (sym h)

      by_value : (u : Value) → choose names u (first_new names vs) ≡ None → IsWithin Inside u × (first_new names vs ≡ None)
      by_value (Reference (Born n)) h = by_test n (is_listed names n) refl h
      by_value _ h = (tt, h)

  -- it is among the values
  first_is : (vs : List Value) (n : ℕ) → first_new names vs ≡ Some n → Contains vs (Reference (Born n)) × (is_listed names n ≡ false)
  first_is [] n e = none_is_some n e
  first_is (v ∷ vs) n e = by_value v refl e (λ h. (let later = first_is vs n h in (Contains-append_right (v ∷ []) vs (Reference (Born n)) later.0, later.1)))
    where
      by_test : (k : ℕ) → Reference (Born k) ≡ v → (t : Bool) → is_listed names k ≡ t → (if t then first_new names vs else Some k) ≡ Some n → (first_new names vs ≡ Some n → Contains (v ∷ vs) (Reference (Born n)) × (is_listed names n ≡ false)) → Contains (v ∷ vs) (Reference (Born n)) × (is_listed names n ≡ false)
      by_test k is true listed h following = following h
      by_test k is false listed h following =
          let same : k ≡ n = same_Some k n h in
          let here : v ≡ Reference (Born n) = sym is ∙ ap (λ x. Reference (Born x)) same in
          (Contains-append_left (v ∷ []) vs (Reference (Born n)) (0, lit< tt, here), subst (λ x. is_listed names x ≡ false) same listed)

      by_value : (u : Value) → u ≡ v → choose names u (first_new names vs) ≡ Some n → (first_new names vs ≡ Some n → Contains (v ∷ vs) (Reference (Born n)) × (is_listed names n ≡ false)) → Contains (v ∷ vs) (Reference (Born n)) × (is_listed names n ≡ false)
      by_value (Reference (Born k)) is h following = by_test k is (is_listed names k) refl h following
      by_value _ is h following = following h

-- a number that is on no list is apart from each on it
apart_from : (n : ℕ) (names : List ℕ) → is_listed names n ≡ false → AllByRecursion (λ y. (n == y) ≡ false) names
apart_from n [] e = tt
apart_from n (k ∷ ks) e = by_test (n == k) refl e (apart_from n ks)
  where
    by_test : (t : Bool) → (n == k) ≡ t → (t || is_listed ks n) ≡ false → (is_listed ks n ≡ false → AllByRecursion (λ y. (n == y) ≡ false) ks) → ((n == k) ≡ false) × AllByRecursion (λ y. (n == y) ≡ false) ks
    by_test true test h later = absurd cc
    by_test false test h later = (test, later h)

-- ---- no more distinct numbers than there are below a bound

-- the numbers below it
numbers : ℕ → List ℕ
numbers zero = []
numbers (suc k) = k ∷ numbers k

number_listed : (n bound : ℕ) → n < bound → is_listed (numbers bound) n ≡ true
unfolding numbers
number_listed n zero less = absurd (omega (arith, less))
number_listed n (suc k) less = by_test (n == k) refl (number_listed n k)
  where
    by_test : (t : Bool) → (n == k) ≡ t → (n < k → is_listed (numbers k) n ≡ true) → (t || is_listed (numbers k) n) ≡ true
    by_test true test later = refl
    by_test false test later = later (let below : n < k = grind (arith, nat_tests) in below)

ones_sum : (xs : List ℕ) → sum_by (λ x. 1) xs ≡ length xs
ones_sum [] = refl
ones_sum (x ∷ xs) = let rest = ones_sum xs in omega (arith, rest, sum_by-cons {X = ℕ} (λ y. 1) x xs)

numbers_length : (k : ℕ) → length (numbers k) ≡ k
unfolding numbers
numbers_length zero = refl
numbers_length (suc k) = let rest = numbers_length k in omega (arith, rest)

few_distinct : (ns : List ℕ) (bound : ℕ) → IsDistinct nat_eq ns → AllByRecursion (λ n. n < bound) ns → length ns ≤ bound
few_distinct ns bound distinct below =
    let less = distinct_sum (λ x. 1) ns (numbers bound) distinct (listed ns below) in
    omega (arith, less, ones_sum ns, ones_sum (numbers bound), numbers_length bound)
  where
    listed : (ms : List ℕ) → AllByRecursion (λ n. n < bound) ms → AllByRecursion (λ n. is_listed (numbers bound) n ≡ true) ms
    listed [] h = tt
    listed (m ∷ ms) h = (number_listed m bound h.0, listed ms h.1)

-- ---- what is reachable

module _ (s : State) where
  -- what the objects of a list hold
  members : List ℕ → List Value
  members [] = []
  members (k ∷ ks) = members_of (object_at s (Born k)) ++ members ks

  abbrev candidates : List ℕ → List Value
  candidates names = roots s ++ members names

  abbrev next : List ℕ → Option ℕ
  next names = first_new names (candidates names)

  abbrev AreReached : List ℕ → Type 0
  AreReached names = AllByRecursion (λ k. IsReachable s (Born k)) names

  -- what a reachable object holds is reachable
  member_reached : (names : List ℕ) (n : ObjectName) → AreReached names → Contains (members names) (Reference n) → IsReachable s n
  unfolding members
  member_reached [] n each (k, less, e) = absurd (omega (arith, less))
  member_reached (k ∷ ks) n each h = elim (Contains-append_cases (members_of (object_at s (Born k))) (members ks) (Reference n) h) [
    | inl own ↦ from_member (Born k) n each.0 own
    | inr later ↦ member_reached ks n each.1 later
  ]

  candidate_reached : (names : List ℕ) (n : ObjectName) → AreReached names → Contains (candidates names) (Reference n) → IsReachable s n
  candidate_reached names n each h = elim (Contains-append_cases (roots s) (members names) (Reference n) h) [
    | inl root ↦ from_root n root
    | inr later ↦ member_reached names n each later
  ]

  member_there : (names : List ℕ) (k : ℕ) (v : Value) → is_listed names k ≡ true → Contains (members_of (object_at s (Born k))) v → Contains (members names) v
  unfolding members
  member_there [] k v listed h = absurd cc
  member_there (x ∷ xs) k v listed h = by_test (k == x) refl listed (λ e. member_there xs k v e h)
    where
      by_test : (t : Bool) → (k == x) ≡ t → (t || is_listed xs k) ≡ true → (is_listed xs k ≡ true → Contains (members xs) v) → Contains (members_of (object_at s (Born x)) ++ members xs) v
      by_test true test e later = Contains-append_left (members_of (object_at s (Born x))) (members xs) v (subst (λ y. Contains (members_of (object_at s (Born y))) v) (eqb-true k x test) h)
      by_test false test e later = Contains-append_right (members_of (object_at s (Born x))) (members xs) v (later e)

  -- where nothing is left to add, all that is reachable is on the list
  all_reached : (names : List ℕ) → next names ≡ None → (n : ObjectName) → IsReachable s n → IsWithin (Inside names) (Reference n)
  all_reached names none n (from_root _ is) = contained_within (Inside names) (candidates names) (Reference n) (all_within names (candidates names) none) (Contains-append_left (roots s) (members names) (Reference n) is)
  all_reached names none n (from_member m _ reached is) = by_name m is (all_reached names none m reached)
    where
      by_name : (m : ObjectName) → Contains (members_of (object_at s m)) (Reference n) → IsWithin (Inside names) (Reference m) → IsWithin (Inside names) (Reference n)
      by_name (Born k) held listed =
          contained_within (Inside names) (candidates names) (Reference n) (all_within names (candidates names) none) (Contains-append_right (roots s) (members names) (Reference n) (member_there names k (Reference n) listed held))
      by_name (Literal characters) (k, less, e) listed = absurd (omega (arith, less))

  -- a list of reachable objects, to which nothing is to be added, or which has at least `fuel`
  record IsFound (fuel : ℕ) : Type 0 where
    names : List ℕ
    distinct : IsDistinct nat_eq names
    reached : AreReached names
    status : (next names ≡ None) ⊎ (fuel ≤ length names)

  find : (fuel : ℕ) → IsFound fuel
  unfolding IsDistinct
  find zero = record { names = []; distinct = tt; reached = tt; status = inr (omega arith) }
  find (suc k) = by_status (find k)
    where
      by_next : (f : IsFound k) → k ≤ length f.names → (x : Option ℕ) → next f.names ≡ x → IsFound (suc k)
      by_next f many None is = record { names = f.names; distinct = f.distinct; reached = f.reached; status = inl is }
      by_next f many (Some n) is =
          let new = first_is f.names (candidates f.names) n is in
          record {
            names = n ∷ f.names;
            distinct = IsDistinct-cons nat_eq n f.names (apart_from n f.names new.1) f.distinct;
            reached = (candidate_reached f.names (Born n) f.reached new.0, f.reached);
            status = inr (omega (arith, many));
          }

      by_status : IsFound k → IsFound (suc k)
      by_status f = elim f.status [
        | inl done ↦ record { names = f.names; distinct = f.distinct; reached = f.reached; status = inl done }
        | inr many ↦ by_next f many (next f.names) refl
      ]

  -- ---- all of them

  module _ (tree : Tree) (typed : IsTyped tree s) where
    found : IsFound (length s.objects + 1)
    found = find (length s.objects + 1)

    below : (names : List ℕ) → AreReached names → AllByRecursion (λ n. n < length s.objects) names
    below [] each = tt
    below (k ∷ ks) each = (let there = reachable_is_there tree s typed k each.0 in omega (arith, there), below ks each.1)

    done : next found.names ≡ None
    done = elim found.status [ inl none ↦ none | inr many ↦ absurd (let few = few_distinct found.names (length s.objects) found.distinct (below found.names found.reached) in omega (arith, few, many)) ]

    reached_of : (names : List ℕ) → AreReached names → (n : ℕ) → is_listed names n ≡ true → IsReachable s (Born n)
    reached_of [] each n e = absurd cc
    reached_of (k ∷ ks) each n e = by_test (n == k) refl e (reached_of ks each.1 n)
      where
        by_test : (t : Bool) → (n == k) ≡ t → (t || is_listed ks n) ≡ true → (is_listed ks n ≡ true → IsReachable s (Born n)) → IsReachable s (Born n)
        by_test true test h later = subst (λ x. IsReachable s (Born x)) (sym (eqb-true n k test)) each.0
        by_test false test h later = later h

    -- with this number that were born since
    record ListsRetained (more : ℕ) : Type 0 where
      names : List ℕ
      distinct : IsDistinct nat_eq names
      sound : (n : ℕ) → is_listed names n ≡ true → IsReachable s (Born n) ⊎ ((length s.objects ≤ n) × (n < length s.objects + more))
      complete : (n : ℕ) → IsReachable s (Born n) ⊎ ((length s.objects ≤ n) × (n < length s.objects + more)) → is_listed names n ≡ true

    -- one more
    module _ (k : ℕ) (h : ListsRetained k) where
      abbrev last : ℕ
      last = length s.objects + k

      not_listed : (t : Bool) → is_listed h.names last ≡ t → is_listed h.names last ≡ false
      not_listed false test = test
      not_listed true test = elim (h.sound last test) [
        | inl reached ↦ absurd (let there = reachable_is_there tree s typed last reached in omega (arith, there))
        | inr new ↦ absurd (let less = new.1 in omega (arith, less))
      ]

      sound_then : (n : ℕ) → is_listed (last ∷ h.names) n ≡ true → IsReachable s (Born n) ⊎ ((length s.objects ≤ n) × (n < length s.objects + suc k))
      sound_then n e = by_test (n == last) refl e
        where
          by_test : (t : Bool) → (n == last) ≡ t → (t || is_listed h.names n) ≡ true → IsReachable s (Born n) ⊎ ((length s.objects ≤ n) × (n < length s.objects + suc k))
          by_test true test g = let same : n ≡ length s.objects + k = eqb-true n (length s.objects + k) test in inr (omega (arith, same), omega (arith, same))
          by_test false test g = elim (h.sound n g) [ inl reached ↦ inl reached | inr new ↦ inr (new.0, let less = new.1 in omega (arith, less)) ]

      complete_then : (n : ℕ) → IsReachable s (Born n) ⊎ ((length s.objects ≤ n) × (n < length s.objects + suc k)) → is_listed (last ∷ h.names) n ≡ true
      complete_then n g = by_test (n == last) refl
        where
          by_test : (t : Bool) → (n == last) ≡ t → (t || is_listed h.names n) ≡ true
          by_test true test = refl
          by_test false test = elim g [
            | inl reached ↦ h.complete n (inl reached)
            | inr new ↦ h.complete n (inr (new.0, let below_last : n < length s.objects + k = let less = new.1 in grind (arith, nat_tests) in below_last))
          ]

      one_more : ListsRetained (suc k)
      one_more = record { names = last ∷ h.names; distinct = IsDistinct-cons nat_eq last h.names (apart_from last h.names (not_listed (is_listed h.names last) refl)) h.distinct; sound = sound_then; complete = complete_then }

    with_born : (more : ℕ) → ListsRetained more
    with_born zero = record {
      names = found.names;
      distinct = found.distinct;
      sound = λ n listed. inl (reached_of found.names found.reached n listed);
      complete = λ n h. elim h [ inl reached ↦ all_reached found.names done (Born n) reached | inr new ↦ absurd (let more = new.1 in let less = new.0 in omega (arith, more, less)) ];
    }
    with_born (suc k) = one_more k (with_born k)

    -- ---- so there are words that are retained

    pub words_retained : (now : State) → (words : ℕ) × RetainsWords tree s now words
    words_retained now = (
      sum_by (λ n. words_of_object tree (slice_get now.objects n)) all.names,
      record { names = all.names; distinct = all.distinct; retained = λ n. (λ is. is_retained n (all.sound n (list_any-from_Contains nat_eq_equiv n all.names is)), λ is. Contains-from_any {eq = ◌==◌} eqb-true n all.names (all.complete n (was_retained n is))); total = refl },
    )
      where
        all : ListsRetained (length now.objects - length s.objects)
        all = with_born (length now.objects - length s.objects)

        is_retained : (n : ℕ) → IsReachable s (Born n) ⊎ ((length s.objects ≤ n) × (n < length s.objects + (length now.objects - length s.objects))) → IsRetained s now n
        is_retained n (inl reached) = inl reached
        is_retained n (inr new) = let more = new.0 in let less = new.1 in inr (more, omega (arith, more, less))

        was_retained : (n : ℕ) → IsRetained s now n → IsReachable s (Born n) ⊎ ((length s.objects ≤ n) × (n < length s.objects + (length now.objects - length s.objects)))
        was_retained n (inl reached) = inl reached
        was_retained n (inr new) = let more = new.0 in let less = new.1 in inr (more, omega (arith, more, less))
