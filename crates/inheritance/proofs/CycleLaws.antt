-- Laws of cyclic inheritance.
use Rattle.std.proofs.Common.{◌≡◌, ℕ, zero, suc, List, Option, Some, None, option_and_then, refl, sym, ap, subst, ◌∙◌}
use Rattle.std.proofs.lemmas.Option.{same_Some, none-some}
use Rattle.inheritance.specs.Lines.{base_in}
use Rattle.inheritance.specs.Cycles.{along, IsOnBaseCycle, Leads, IsClosed}

module _ (bases : List (Option ℕ)) where
  -- the first base, where there is a further class
  pub first_base : (n c d : ℕ) → along bases (suc n) c ≡ Some d → (b : ℕ) × (base_in bases c ≡ Some b) × (along bases n b ≡ Some d)
  first_base n c d e = by_base (base_in bases c) refl e
    where
      by_base : (o : Option ℕ) → base_in bases c ≡ o → option_and_then (along bases n) o ≡ Some d → (b : ℕ) × (base_in bases c ≡ Some b) × (along bases n b ≡ Some d)
      by_base None f h = absurd (none-some d h)
      by_base (Some b) f h = (b, f, h)

  pub from_base : (n c b d : ℕ) → base_in bases c ≡ Some b → along bases n b ≡ Some d → along bases (suc n) c ≡ Some d
  from_base n c b d e f = ap (option_and_then (along bases n)) e ∙ f

  pub leads_on : (n c d b : ℕ) → along bases n c ≡ Some d → base_in bases d ≡ Some b → along bases (suc n) c ≡ Some b
  leads_on zero c d b e f = from_base zero c b b (ap (base_in bases) (same_Some c d e) ∙ f) refl
  leads_on (suc n) c d b e f =
      let first = first_base n c d e in
      from_base (suc n) c first.0 b first.1 (leads_on n first.0 d b first.2 f)

  pub leads_then : (n m c d e : ℕ) → along bases n c ≡ Some d → along bases m d ≡ Some e → Leads bases c e
  leads_then zero m c d e f g = (m, ap (along bases m) (same_Some c d f) ∙ g)
  leads_then (suc n) m c d e f g =
      let first = first_base n c d f in
      let later = leads_then n m first.0 d e first.2 g in
      (suc later.0, from_base later.0 c first.0 e first.1 later.1)

  -- the last base, in place of the first
  pub last_base : (n c d : ℕ) → along bases (suc n) c ≡ Some d → (x : ℕ) × (along bases n c ≡ Some x) × (base_in bases x ≡ Some d)
  last_base zero c d e = let first = first_base zero c d e in (c, refl, first.1 ∙ first.2)
  last_base (suc n) c d e =
      let first = first_base (suc n) c d e in
      let last = last_base n first.0 d first.2 in
      (last.0, from_base n c first.0 last.0 first.1 last.1, last.2)

  -- a class that leads back to itself is led back to from all that it leads to
  pub leads_back : (n m c d : ℕ) → along bases (suc n) c ≡ Some c → along bases m c ≡ Some d → (k : ℕ) × (along bases (suc k) d ≡ Some c)
  leads_back n zero c d e f = (n, ap (along bases (suc n)) (sym (same_Some c d f)) ∙ e)
  leads_back n (suc m) c d e f =
      let last = last_base m c d f in
      let back = leads_back n m c last.0 e last.1 in
      let first = first_base back.0 last.0 c back.1 in
      let same : first.0 ≡ d = same_Some first.0 d (sym first.1 ∙ last.2) in
      by_length back.0 (sym (ap (along bases back.0) same) ∙ first.2)
    where
      by_length : (k : ℕ) → along bases k d ≡ Some c → (k : ℕ) × (along bases (suc k) d ≡ Some c)
      by_length zero g = (n, subst (λ x. along bases (suc n) x ≡ Some c) (sym (same_Some d c g)) e)
      by_length (suc k) g = (k, g)

  -- and each of these leads back to itself too
  pub own_further : (c d : ℕ) → IsOnBaseCycle bases c → Leads bases c d → IsOnBaseCycle bases d
  own_further c d own leads =
      let back = leads_back own.0 leads.0 c d own.1 leads.1 in
      let first = first_base back.0 d c back.1 in
      let later = leads_then back.0 leads.0 first.0 c d first.2 leads.1 in
      (later.0, from_base later.0 d first.0 d first.1 later.1)

  -- ---- classes that are closed under bases, as far as these have bases
  module _ (IsIn : ℕ → Type 0) (closed : IsClosed bases IsIn) where
    pub closed_along : (n c d b : ℕ) → IsIn c → along bases n c ≡ Some d → base_in bases d ≡ Some b → IsIn d
    closed_along zero c d b h e f = subst IsIn (same_Some c d e) h
    closed_along (suc n) c d b h e f =
        let first = first_base n c d e in
        by_rest n first.0 first.1 first.2 (λ x i k. closed_along n x d b i k f)
      where
        by_rest : (n x : ℕ) → base_in bases c ≡ Some x → along bases n x ≡ Some d → ((y : ℕ) → IsIn y → along bases n y ≡ Some d → IsIn d) → IsIn d
        by_rest zero x g k more = closed c d b h (g ∙ k) f
        by_rest (suc n) x g k more = let next = first_base n x d k in more x (closed c x next.0 h g next.1) k

    -- a class that leads back to itself is among them with one that it leads to
    pub closed_back : (c d : ℕ) → IsOnBaseCycle bases c → Leads bases c d → IsIn d → IsIn c
    closed_back c d own leads h =
        let back = leads_back own.0 leads.0 c d own.1 leads.1 in
        let first = first_base own.0 c c own.1 in
        closed_along (suc back.0) d c first.0 h back.1 first.1
