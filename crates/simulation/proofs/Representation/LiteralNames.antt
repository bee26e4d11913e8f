-- The literals of a program, each with an address of its own.
use Rattle.std.proofs.Common.{◌≡◌, ◌≤◌, ◌<◌, ◌+◌, ◌-◌, ◌*◌, ℕ, zero, suc, Bool, true, false, not, if◌then◌else◌, IsTrue, List, [], ◌∷◌, map, filter, filter_map, length, replicate, Option, Some, None, option_map, option_and_then, slice_get, refl, sym, ap, ◌∙◌, subst, arith}
use Rattle.std.specs.Prelude.{nat_lt}
use Rattle.std.proofs.lemmas.Bool.Decides.{nat_tests}
use Rattle.std.proofs.lemmas.List.{get_or-replicate, length-replicate}
use Rattle.std.proofs.lemmas.Option.{slice_get-get_or, slice_get_within, same_Some}
use Rattle.interpreter.specs.cil_model.declared.limits.TheConstants.{MOST_METHODS, MOST_INSTRUCTIONS}
use Rattle.interpreter.specs.cil_model.declared.trees.Tree.{Tree}
use Rattle.interpreter.specs.cil_model.Legality.{IsLegal}
use Rattle.interpreter.specs.cil_model.Mentions.{each_once, literal_of, instructions_of_tree, literals_of}
use Rattle.interpreter.specs.cil_model.Same.{same_text}
use Rattle.interpreter.proofs.cil_model.Lists.{none_is_some}
use Rattle.interpreter.proofs.cil_model.SameLaws.{never, if_true, is_not, same_text_itself}
use Rattle.interpreter.specs.reference_machine.Values.{ObjectName, Literal}
use Rattle.interpreter.specs.reference_machine.States.{Free, entry_at}
use Rattle.interpreter.proofs.reference_machine.Programs.SourceMethods.{kept_from}
use Rattle.simulation.proofs.ProgramSizes.Methods.{literals_few}
use Rattle.interpreter.specs.object_memory.declared.addresses.TheConstants.{ADDRESSES, FIRST_LITERAL}
use Rattle.interpreter.specs.object_memory.Cells.{literal, literal_number}
use Rattle.simulation.specs.Refines.{Names}
use Rattle.interpreter.proofs.object_memory.MonitorsAt.{literal_number_of}

-- ---- lists in which nothing stands twice

-- two indices of one item are equal
abbrev AreApart : {X : Type 0} → List X → Type 0
AreApart {X} xs = (m n : ℕ) (x : X) → slice_get xs m ≡ Some x → slice_get xs n ≡ Some x → m ≡ n

-- those after the first
rest_apart : {X : Type 0} (y : X) (ys : List X) → AreApart (y ∷ ys) → AreApart ys
rest_apart y ys apart m n x h k = let same : suc m ≡ suc n = apart (suc m) (suc n) x h k in omega (arith, same)

-- those that pass a test
kept_apart : {X : Type 0} (test : X → Bool) (ys : List X) → AreApart ys → AreApart (filter test ys)
kept_apart test [] apart m n x h k = none_is_some x h
kept_apart {X} test (y ∷ ys) apart m n x h k = by_test (test y) (kept_apart test ys (rest_apart y ys apart)) m n h k
  where
    -- none after the first is the first
    following : (j : ℕ) → slice_get (filter test ys) j ≡ Some y → {A : Type 0} → A
    following j e {A} = let found = kept_from test ys j y e in let same : zero ≡ suc found.0 = apart zero (suc found.0) y refl found.1 in absurd (omega (arith, same))

    by_test : (b : Bool) → AreApart (filter test ys) → (m n : ℕ) → slice_get (if b then y ∷ filter test ys else filter test ys) m ≡ Some x → slice_get (if b then y ∷ filter test ys else filter test ys) n ≡ Some x → m ≡ n
    by_test false later m n h k = later m n x h k
    by_test true later zero zero h k = refl
    by_test true later zero (suc n) h k = following n (k ∙ sym h)
    by_test true later (suc m) zero h k = following m (h ∙ sym k)
    by_test true later (suc m) (suc n) h k = ap suc (later m n x h k)

-- each text once
once_apart : (xs : List (List ℕ)) → AreApart (each_once same_text xs)
once_apart [] m n x h k = none_is_some x h
once_apart (y ∷ ys) m n x h k = by_indices (kept_apart (λ z. not (same_text y z)) (each_once same_text ys) (once_apart ys)) m n h k
  where
    others : List (List ℕ)
    others = filter (λ z. not (same_text y z)) (each_once same_text ys)

    not_first : (j : ℕ) → slice_get others j ≡ Some y → {A : Type 0} → A
    not_first j e {A} =
        let found = kept_from (λ z. not (same_text y z)) (each_once same_text ys) j y e in
        never (sym (is_not (same_text y y) found.2) ∙ same_text_itself y)

    by_indices : AreApart others → (m n : ℕ) → slice_get (y ∷ others) m ≡ Some x → slice_get (y ∷ others) n ≡ Some x → m ≡ n
    by_indices later zero zero h k = refl
    by_indices later zero (suc n) h k = not_first n (k ∙ sym h)
    by_indices later (suc m) zero h k = not_first m (h ∙ sym k)
    by_indices later (suc m) (suc n) h k = ap suc (later m n x h k)

-- one of a thing for each item
pub same_for_each : {X Y : Type 0} (xs : List X) (n : ℕ) (x : X) (y : Y) → slice_get xs n ≡ Some x → slice_get (replicate (length xs) y) n ≡ Some y
same_for_each xs n x y e =
    let within : n < length xs = slice_get_within xs n x e in
    slice_get-get_or (replicate (length xs) y) n y (subst (λ l. n < l) (sym (length-replicate (length xs) y)) within) ∙ ap Some (get_or-replicate (length xs) n y y within)

-- a literal's monitor is free at first
pub free_first : (cs : List (List ℕ)) (n : ℕ) (c : List ℕ) → slice_get cs n ≡ Some c → entry_at same_text c (map (λ (d : List ℕ). (d, Free)) cs) ≡ Some Free
free_first [] n c e = none_is_some c e
free_first (d ∷ ds) zero c e = if_true (same_text d c) (Some Free) (entry_at same_text c (map (λ (x : List ℕ). (x, Free)) ds)) (subst (λ x. IsTrue (same_text d x)) (same_Some d c e) (same_text_itself d))
free_first (d ∷ ds) (suc n) c e = by_test (same_text d c) (free_first ds n c e)
  where
    by_test : (b : Bool) → entry_at same_text c (map (λ (x : List ℕ). (x, Free)) ds) ≡ Some Free → (if b then Some Free else entry_at same_text c (map (λ (x : List ℕ). (x, Free)) ds)) ≡ Some Free
    by_test true later = refl
    by_test false later = later

-- ---- addresses of literals

literal_is : (a k : ℕ) → literal_number (record { number = a }) ≡ Some k → a ≡ FIRST_LITERAL + k
literal_is a k h = by_test (nat_lt a FIRST_LITERAL) refl h
  where
    by_test : (b : Bool) → nat_lt a FIRST_LITERAL ≡ b → (if b then None else Some (a - FIRST_LITERAL)) ≡ Some k → a ≡ FIRST_LITERAL + k
    by_test true is e = none_is_some k e
    by_test false is e = let same : a - FIRST_LITERAL ≡ k = same_Some (a - FIRST_LITERAL) k e in grind (arith, nat_tests)

-- ---- names of literals alone

module _ (tree : Tree) where
  -- the literal at an address
  abbrev pub literal_names : Names
  literal_names a = option_map Literal (option_and_then (slice_get (literals_of tree)) (literal_number (record { number = a })))

  -- what is named is a literal
  pub record IsNamedLiteral (a : ℕ) (n : ObjectName) : Type 0 where
    pub number : ℕ
    pub has_id : literal_number (record { number = a }) ≡ Some number
    pub characters : List ℕ
    pub is : slice_get (literals_of tree) number ≡ Some characters
    pub name : n ≡ Literal characters

  pub named_literal : (a : ℕ) (n : ObjectName) → literal_names a ≡ Some n → IsNamedLiteral a n
  named_literal a n h = by_number (literal_number (record { number = a })) refl h
    where
      by_literal : (k : ℕ) → literal_number (record { number = a }) ≡ Some k → (o : Option (List ℕ)) → slice_get (literals_of tree) k ≡ o → option_map Literal o ≡ Some n → IsNamedLiteral a n
      by_literal k has_id None is e = none_is_some n e
      by_literal k has_id (Some characters) is e = record { number = k; has_id = has_id; characters = characters; is = is; name = sym (same_Some (Literal characters) n e) }

      by_number : (o : Option ℕ) → literal_number (record { number = a }) ≡ o → option_map Literal (option_and_then (slice_get (literals_of tree)) o) ≡ Some n → IsNamedLiteral a n
      by_number None has_id e = none_is_some n e
      by_number (Some k) has_id e = by_literal k has_id (slice_get (literals_of tree) k) refl e

  pub literal_named : (n : ℕ) (characters : List ℕ) → slice_get (literals_of tree) n ≡ Some characters → literal_names (literal n).number ≡ Some (Literal characters)
  literal_named n characters is = ap (λ o. option_map Literal (option_and_then (slice_get (literals_of tree)) o)) (literal_number_of n) ∙ ap (option_map Literal) is

  pub literals_small : IsLegal tree → (a : ℕ) (n : ObjectName) → literal_names a ≡ Some n → a < ADDRESSES
  literals_small legal a n h =
      let x : IsNamedLiteral a n = named_literal a n h in
      let own : a ≡ FIRST_LITERAL + x.number = literal_is a x.number x.has_id in
      let within : x.number < length (literals_of tree) = slice_get_within (literals_of tree) x.number x.characters x.is in
      let few : length (literals_of tree) ≤ MOST_METHODS * MOST_INSTRUCTIONS = literals_few tree legal in
      omega (arith, own, within, few)

  pub literals_apart : (a b : ℕ) (n : ObjectName) → literal_names a ≡ Some n → literal_names b ≡ Some n → a ≡ b
  literals_apart a b n h k =
      let x : IsNamedLiteral a n = named_literal a n h in
      let y : IsNamedLiteral b n = named_literal b n k in
      let both : Literal x.characters ≡ Literal y.characters = sym x.name ∙ y.name in
      let same : x.characters ≡ y.characters = cc in
      let index : x.number ≡ y.number = once_apart (filter_map literal_of (instructions_of_tree tree)) x.number y.number x.characters x.is (y.is ∙ ap Some (sym same)) in
      literal_is a x.number x.has_id ∙ ap (λ z. FIRST_LITERAL + z) index ∙ sym (literal_is b y.number y.has_id)
