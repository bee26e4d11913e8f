-- Laws of cycles that are cut.
use Rattle.std.proofs.Common.{◌≡◌, ◌<◌, ◌≤◌, ◌+◌, ◌-◌, ◌⊎◌, inl, inr, ℕ, zero, suc, true, false, is_some, List, [], ◌∷◌, length, Option, Some, None, option_map, slice_set, refl, sym, ap, subst, ◌∙◌, arith}
use Rattle.std.proofs.lemmas.Bool.Decides.{eqb_tells}
use Rattle.std.proofs.lemmas.List.{get_or-set_same, get_or-set_other}
use Rattle.std.proofs.lemmas.Option.{same_Some, none-some}
use Rattle.std.specs.Option.{option_map_or}
use Rattle.inheritance.specs.declared.cut_cycles.Part.{Part}
use Rattle.inheritance.specs.Lines.{base_in, line_within, nearest}
use Rattle.inheritance.specs.CutCycles.{HasBasesOf, part_in, part_of, AreParts}
use Rattle.inheritance.proofs.LineLaws.{line_of_none, EndsFrom}

-- nothing is found from a class on, nor from nowhere
abbrev pub FindsNothing : (ℕ → Option ℕ) → List (Option ℕ) → Option ℕ → Type 0
FindsNothing at bases o = (n : ℕ) → nearest at (line_within bases n o) ≡ None

pub none_from_none : (at : ℕ → Option ℕ) (bases : List (Option ℕ)) → FindsNothing at bases None
none_from_none at bases n = ap (nearest at) (line_of_none bases n)

-- where nothing is found, the first class has nothing, nor have those after it
pub first_has_nothing : (at : ℕ → Option ℕ) (class : ℕ) (rest : List ℕ) → nearest at (class ∷ rest) ≡ None → (at class ≡ None) × (nearest at rest ≡ None)
first_has_nothing at class rest e = by_index (at class) refl e
  where
    by_index : (o : Option ℕ) → at class ≡ o → option_map_or (λ index. Some (class, index)) o (nearest at rest) ≡ None → (at class ≡ None) × (nearest at rest ≡ None)
    by_index None h k = (h, k)
    by_index (Some index) h k = cc

pub found_after : (at : ℕ → Option ℕ) (class : ℕ) (rest : List ℕ) → at class ≡ None → nearest at (class ∷ rest) ≡ nearest at rest
found_after at class rest e = ap (λ o. option_map_or (λ index. Some (class, index)) o (nearest at rest)) e

-- what is not found until bases end is not found at all
pub finds_nothing : (at : ℕ → Option ℕ) (bases : List (Option ℕ)) (n : ℕ) (o : Option ℕ) → EndsFrom bases n o → nearest at (line_within bases n o) ≡ None → FindsNothing at bases o
finds_nothing at bases n None e h m = none_from_none at bases m
finds_nothing at bases zero (Some class) e h m = let one : class ∷ [] ≡ [] = e in cc one
finds_nothing at bases (suc n) (Some class) e h zero = refl
finds_nothing at bases (suc n) (Some class) e h (suc m) =
    let both = first_has_nothing at class (line_within bases n (base_in bases class)) h in
    let further : EndsFrom bases n (base_in bases class) = cc e in
    found_after at class (line_within bases m (base_in bases class)) both.0 ∙ finds_nothing at bases n (base_in bases class) further both.1 m

-- ---- the parts of lines

module _ (at : ℕ → Option ℕ) (bases cut : List (Option ℕ)) (parts : List (Option Part)) (has : HasBasesOf bases cut) (are : AreParts cut parts) where
  -- a part is a class without a base, or it has one class more than that of its base
  abbrev IsAlone : ℕ → Part → Type 0
  IsAlone class part = (base_in cut class ≡ None) × (part.last ≡ class) × (part.length ≡ 1)

  abbrev HasNext : ℕ → Part → Type 0
  HasNext class part = (base : ℕ) × (next : Part) × (base_in cut class ≡ Some base) × (part_in parts base ≡ Some next) × (part.last ≡ next.last) × (part.length ≡ next.length + 1)

  part_by_base : (class : ℕ) (part : Part) → part_in parts class ≡ Some part → IsAlone class part ⊎ HasNext class part
  part_by_base class part e = by_base (base_in cut class) refl (are class part e)
    where
      by_next : (base : ℕ) → base_in cut class ≡ Some base → (o : Option Part) → part_in parts base ≡ o → option_map (λ (p : Part). record { last = p.last; length = p.length + 1 }) o ≡ Some part → IsAlone class part ⊎ HasNext class part
      by_next base f None h k = absurd (none-some part k)
      by_next base f (Some next) h k = let same = same_Some _ part k in inr (base, next, f, h, ap (λ (p : Part). p.last) (sym same), ap (λ (p : Part). p.length) (sym same))

      by_base : (o : Option ℕ) → base_in cut class ≡ o → part_of parts class o ≡ Some part → IsAlone class part ⊎ HasNext class part
      by_base None f p = let same = same_Some _ part p in inl (f, ap (λ (p : Part). p.last) (sym same), ap (λ (p : Part). p.length) (sym same))
      by_base (Some base) f p = by_next base f (part_in parts base) refl p

  -- a class from which nothing is found: it has nothing, nor is something found from its base
  rest_finds_nothing : (class base : ℕ) → base_in cut class ≡ Some base → FindsNothing at cut (Some class) → FindsNothing at cut (Some base)
  rest_finds_nothing class base e h n =
      let both = first_has_nothing at class (line_within cut n (base_in cut class)) (h (suc n)) in
      sym (ap (λ o. nearest at (line_within cut n o)) e) ∙ both.1

  has_nothing : (class : ℕ) → FindsNothing at cut (Some class) → at class ≡ None
  has_nothing class h = let both = first_has_nothing at class [] (h 1) in both.0

  -- one class further, where that has nothing
  one_further : (m class : ℕ) (o : Option ℕ) → at class ≡ None → base_in bases class ≡ o → nearest at (line_within bases (suc m) (Some class)) ≡ nearest at (line_within bases m o)
  one_further m class o e f = found_after at class (line_within bases m (base_in bases class)) e ∙ ap (λ b. nearest at (line_within bases m b)) f

  -- the line continues after a part in which nothing is found
  abbrev ContinuesAfter : ℕ → Type 0
  ContinuesAfter m = (class : ℕ) (part : Part) → part_in parts class ≡ Some part → FindsNothing at cut (Some class) → part.length ≤ m → nearest at (line_within bases m (Some class)) ≡ nearest at (line_within bases (m - part.length) (base_in bases part.last))

  pub continues_after : (m : ℕ) → ContinuesAfter m
  continues_after zero class part e h k = by_part (part_by_base class part e)
    where
      by_part : IsAlone class part ⊎ HasNext class part → nearest at (line_within bases zero (Some class)) ≡ nearest at (line_within bases (zero - part.length) (base_in bases part.last))
      by_part (inl a) = absurd (omega (arith, a.2, k))
      by_part (inr n) = absurd (omega (arith, n.5, k))
  continues_after (suc m) class part e h k = by_part (part_by_base class part e) (continues_after m)
    where
      by_part : IsAlone class part ⊎ HasNext class part → ContinuesAfter m → nearest at (line_within bases (suc m) (Some class)) ≡ nearest at (line_within bases (suc m - part.length) (base_in bases part.last))
      by_part (inl a) more =
          let less : m ≡ suc m - part.length = omega (arith, a.2) in
          one_further m class (base_in bases class) (has_nothing class h) refl ∙ ap (λ n. nearest at (line_within bases n (base_in bases class))) less ∙ ap (λ c. nearest at (line_within bases (suc m - part.length) (base_in bases c))) (sym a.1)
      by_part (inr n) more =
          let base = n.0 in
          let next = n.1 in
          let one = n.5 in
          let less : m - next.length ≡ suc m - part.length = omega (arith, one) in
          let later = more base next n.3 (rest_finds_nothing class base n.2 h) (omega (arith, one, k)) in
          one_further m class (Some base) (has_nothing class h) (has class base n.2) ∙ later ∙ ap (λ x. nearest at (line_within bases x (base_in bases next.last))) less ∙ ap (λ c. nearest at (line_within bases (suc m - part.length) (base_in bases c))) (sym n.4)

  -- what is found in a part is found along the bases, among the number of classes that are before it there
  abbrev IsFoundInPart : ℕ → Type 0
  IsFoundInPart n = (left class : ℕ) (part : Part) (p : ℕ × ℕ) (rest : Part) → part_in parts class ≡ Some part → nearest at (line_within cut n (Some class)) ≡ Some p → part_in parts p.0 ≡ Some rest → part.length < rest.length + left → nearest at (line_within bases left (Some class)) ≡ Some p

  pub found_in_part : (n : ℕ) → IsFoundInPart n
  found_in_part zero left class part p rest e f g h = absurd (none-some p f)
  found_in_part (suc n) left class part p rest e f g h = by_index (at class) refl f (part_by_base class part e) (found_in_part n)
    where
      here : (left index : ℕ) → at class ≡ Some index → 0 < left → nearest at (line_within bases left (Some class)) ≡ Some (class, index)
      here zero index a b = absurd (omega (arith, b))
      here (suc l) index a b = ap (λ o. option_map_or (λ index. Some (class, index)) o (nearest at (line_within bases l (base_in bases class)))) a

      following : (left base : ℕ) → at class ≡ None → base_in bases class ≡ Some base → nearest at (line_within bases (left - 1) (Some base)) ≡ Some p → nearest at (line_within bases left (Some class)) ≡ Some p
      following zero base a b c = absurd (none-some p c)
      following (suc l) base a b c = let same : l ≡ suc l - 1 = omega arith in one_further l class (Some base) a b ∙ ap (λ m. nearest at (line_within bases m (Some base))) same ∙ c

      by_index : (o : Option ℕ) → at class ≡ o → option_map_or (λ index. Some (class, index)) o (nearest at (line_within cut n (base_in cut class))) ≡ Some p → IsAlone class part ⊎ HasNext class part → IsFoundInPart n → nearest at (line_within bases left (Some class)) ≡ Some p
      by_index None a c (inl alone) more = absurd (none-some p (sym (none_from_none at cut n) ∙ sym (ap (λ o. nearest at (line_within cut n o)) alone.0) ∙ c))
      by_index None a c (inr s) more =
          let further = more (left - 1) s.0 s.1 p rest s.3 (sym (ap (λ o. nearest at (line_within cut n o)) s.2) ∙ c) g (omega (arith, h, s.5)) in
          following left s.0 a (has class s.0 s.2) further
      by_index (Some index) a c s more =
          let same : (class, index) ≡ p = same_Some (class, index) p c in
          let own : part ≡ rest = same_Some part rest (sym e ∙ ap (part_in parts) (ap (λ (q : ℕ × ℕ). q.0) same) ∙ g) in
          let some : 0 < left = omega (arith, h, ap (λ (q : Part). q.length) own) in
          here left index a some ∙ ap Some same

  -- nothing is found along cyclic bases, where nothing is found in the part of the class nor in that of the base after it
  abbrev GoesRound : ℕ → Type 0
  GoesRound last = (base : ℕ) → base_in bases last ≡ Some base → (next : Part) × (part_in parts base ≡ Some next) × (next.last ≡ last) × FindsNothing at cut (Some base)

  abbrev IsNothingRound : ℕ → Type 0
  IsNothingRound m = (class last : ℕ) (part : Part) → part_in parts class ≡ Some part → part.last ≡ last → FindsNothing at cut (Some class) → GoesRound last → nearest at (line_within bases m (Some class)) ≡ None

  pub nothing_round : (m : ℕ) → IsNothingRound m
  nothing_round zero class last part e f h again = refl
  nothing_round (suc m) class last part e f h again = by_part (part_by_base class part e) (nothing_round m)
    where
      by_last : (o : Option ℕ) → base_in bases last ≡ o → IsNothingRound m → nearest at (line_within bases m o) ≡ None
      by_last None g more = none_from_none at bases m
      by_last (Some base) g more = let next = again base g in more base last next.0 next.1 next.2 next.3 again

      by_part : IsAlone class part ⊎ HasNext class part → IsNothingRound m → nearest at (line_within bases (suc m) (Some class)) ≡ None
      by_part (inl a) more = one_further m class (base_in bases last) (has_nothing class h) (ap (base_in bases) (sym a.1 ∙ f)) ∙ by_last (base_in bases last) refl more
      by_part (inr s) more = one_further m class (Some s.0) (has_nothing class h) (has class s.0 s.2) ∙ more s.0 last s.1 s.3 (sym s.4 ∙ f) (rest_finds_nothing class s.0 s.2 h) again

-- ---- parts that are written down

module _ (bases : List (Option ℕ)) (parts : List (Option Part)) (are : AreParts bases parts) (class : ℕ) (within : class < length parts) (none : part_in parts class ≡ None) (new : Option Part) (follows : (part : Part) → new ≡ Some part → part_of parts class (base_in bases class) ≡ Some part) where
  abbrev parts' : List (Option Part)
  parts' = slice_set parts class new

  -- a part that follows still does, since that of the class was not known before
  still_follows : (c : ℕ) (part : Part) (o : Option ℕ) → part_of parts c o ≡ Some part → part_of parts' c o ≡ Some part
  still_follows c part None e = e
  still_follows c part (Some base) e = elim (eqb_tells base class) [
    | inl h ↦ absurd (none-some part (sym (ap (λ o. option_map (λ (p : Part). record { last = p.last; length = p.length + 1 }) o) (ap (part_in parts) h.1 ∙ none)) ∙ e))
    | inr h ↦ ap (λ o. option_map (λ (p : Part). record { last = p.last; length = p.length + 1 }) o) (get_or-set_other parts class base new None h.1) ∙ e
  ]

  pub one_part_more : AreParts bases parts'
  one_part_more c part e = elim (eqb_tells c class) [
    | inl h ↦ still_follows c part (base_in bases c) (subst (λ d. part_of parts d (base_in bases d) ≡ Some part) (sym h.1) (follows part (sym (get_or-set_same parts class new None within) ∙ ap (part_in parts') (sym h.1) ∙ e)))
    | inr h ↦ still_follows c part (base_in bases c) (are c part (sym (get_or-set_other parts class c new None h.1) ∙ e))
  ]

pub no_part : (o : Option Part) → is_some o ≡ false → o ≡ None
no_part None e = refl
no_part (Some part) e = let wrong : true ≡ false = e in cc wrong
