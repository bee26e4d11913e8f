-- Laws of lines of classes.
use Rattle.std.proofs.Common.{◌≡◌, ◌≢◌, ◌<◌, ◌-◌, ◌↔◌, ◌⊎◌, inl, inr, ℕ, zero, suc, Bool, true, false, ◌==◌, ◌||◌, List, [], ◌∷◌, length, Option, Some, None, is_some, refl, sym, ap, subst, ◌∙◌, arith}
use Rattle.std.specs.List.{list_any}
use Rattle.std.proofs.lemmas.Bool.{eq-eqb}
use Rattle.std.proofs.lemmas.Bool.Decides.{eqb_tells}
use Rattle.inheritance.specs.Lines.{base_in, line_within, Ends}

pub line_of_none : (bases : List (Option ℕ)) (m : ℕ) → line_within bases m None ≡ []
line_of_none bases zero = refl
line_of_none bases (suc m) = refl

pub line_step : (bases : List (Option ℕ)) (m class : ℕ) → 0 < m → line_within bases m (Some class) ≡ class ∷ line_within bases (m - 1) (base_in bases class)
line_step bases zero class h = absurd (omega (arith, h))
line_step bases (suc m) class h = let k : suc m - 1 ≡ m = omega arith in ap (λ n. class ∷ line_within bases n (base_in bases class)) (sym k)

-- of a class whose bases end, the line of its base is the same within one class less
pub line_of_base : (bases : List (Option ℕ)) (most class : ℕ) → 0 < most → Ends bases most class → line_within bases (most - 1) (base_in bases class) ≡ line_within bases most (base_in bases class)
line_of_base bases most class h e = let both : class ∷ line_within bases (most - 1) (base_in bases class) ≡ class ∷ line_within bases most (base_in bases class) = sym (line_step bases most class h) ∙ sym e in cc both

not_there : false ≡ true → ⊥
not_there e = cc

-- ---- a class that bases lead back to

module _ (bases : List (Option ℕ)) (class : ℕ) where
  -- bases lead from a class to this one
  abbrev Leads : Option ℕ → Type 0
  Leads o = (m : ℕ) × (list_any (λ n. n == class) (line_within bases m o) ≡ true)

  leads_on : Leads (base_in bases class) → (x m : ℕ) → list_any (λ n. n == class) (line_within bases m (Some x)) ≡ true → Leads (base_in bases x)
  leads_on round x zero h = absurd (not_there h)
  leads_on round x (suc m) h = by_test (eqb_tells x class) h
    where
      by_test : ((x == class) ≡ true) × (x ≡ class) ⊎ ((x == class) ≡ false) × (x ≢ class) → (x == class) || list_any (λ n. n == class) (line_within bases m (base_in bases x)) ≡ true → Leads (base_in bases x)
      by_test (inl e) k = let P : ℕ → Type 0 = λ y. Leads (base_in bases y) in subst P (sym e.1) round
      by_test (inr e) k = (m, sym (ap (λ b. b || list_any (λ n. n == class) (line_within bases m (base_in bases x))) e.0) ∙ k)

  -- so that the line never ends
  never_ends : Leads (base_in bases class) → (k : ℕ) (o : Option ℕ) → Leads o → length (line_within bases k o) ≡ k
  never_ends round zero o h = refl
  never_ends round (suc k) None h = absurd (not_there (sym (ap (list_any (λ n. n == class)) (line_of_none bases h.0)) ∙ h.1))
  never_ends round (suc k) (Some x) h = ap suc (never_ends round k (base_in bases x) (leads_on round x h.0 h.1))

  at_itself : Leads (Some class)
  at_itself = (1, ap (λ b. b || false) (eq-eqb class class refl))

  -- a class whose bases end is not among them
  pub not_among : (most m : ℕ) → Ends bases most class → list_any (λ n. n == class) (line_within bases m (base_in bases class)) ≡ false
  not_among most m e = by_value (list_any (λ n. n == class) (line_within bases m (base_in bases class))) refl
    where
      by_value : (b : Bool) → list_any (λ n. n == class) (line_within bases m (base_in bases class)) ≡ b → b ≡ false
      by_value false h = refl
      by_value true h =
          let round : Leads (base_in bases class) = (m, h) in
          let own : length (line_within bases most (Some class)) ≡ most = never_ends round most (Some class) at_itself in
          let more : length (line_within bases (suc most) (Some class)) ≡ suc most = never_ends round (suc most) (Some class) at_itself in
          let one : length (line_within bases (suc most) (Some class)) ≡ length (line_within bases most (Some class)) = ap length e in
          absurd (omega (arith, own, more, one))

-- ---- whether bases end

-- one class more than the given number finds no further one, from a class or from nowhere on
abbrev pub EndsFrom : List (Option ℕ) → ℕ → Option ℕ → Type 0
EndsFrom bases n class = line_within bases (suc n) class ≡ line_within bases n class

pub ends_from_none : (bases : List (Option ℕ)) (n : ℕ) → EndsFrom bases n None
ends_from_none bases n = sym (line_of_none bases n)

-- the bases of a class end as those of its base do
pub ends_step : (bases : List (Option ℕ)) (n class : ℕ) → 0 < n → EndsFrom bases n (Some class) ↔ EndsFrom bases (n - 1) (base_in bases class)
ends_step bases zero class h = absurd (omega (arith, h))
ends_step bases (suc n) class h =
    let one : n ≡ suc n - 1 = omega arith in
    subst (λ m. EndsFrom bases (suc n) (Some class) ↔ EndsFrom bases m (base_in bases class)) one (λ e. cc e, λ e. ap (λ ns. class ∷ ns) e)

pub ends_at_once : (bases : List (Option ℕ)) (o : Option ℕ) → (is_some o ≡ false) ↔ EndsFrom bases 0 o
ends_at_once bases None = (λ e. refl, λ e. refl)
ends_at_once bases (Some class) = (λ e. absurd (not_there (sym e)), λ e. let one : 1 ≡ 0 = ap length e in absurd (omega (arith, one)))

-- where each class of a kind has a base of that kind, its line never ends
module _ (bases : List (Option ℕ)) (IsOfKind : ℕ → Type 0) (has_base : (class : ℕ) → IsOfKind class → (base : ℕ) × (base_in bases class ≡ Some base) × IsOfKind base) where
  long_line : (n class : ℕ) → IsOfKind class → length (line_within bases n (Some class)) ≡ n
  long_line zero class h = refl
  long_line (suc n) class h =
      let further = has_base class h in
      ap suc (ap (λ o. length (line_within bases n o)) further.1 ∙ long_line n further.0 further.2)

  pub kind_never_ends : (most class : ℕ) → IsOfKind class → ¬ Ends bases most class
  kind_never_ends most class h e =
      let less = long_line most class h in
      let more = long_line (suc most) class h in
      let same : length (line_within bases (suc most) (Some class)) ≡ length (line_within bases most (Some class)) = ap length e in
      absurd (omega (arith, less, more, same))
