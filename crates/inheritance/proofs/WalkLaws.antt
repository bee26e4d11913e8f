-- Laws of walks along bases, which mark each class that they reach first.
use Rattle.std.proofs.Common.{◌≡◌, ◌≢◌, ◌<◌, ◌≤◌, ◌⊎◌, inl, inr, ℕ, zero, suc, Bool, true, false, ◌==◌, List, Option, Some, None, length, slice_set, is_some, not, refl, sym, ap, subst, ◌∙◌, arith}
use Rattle.std.proofs.lemmas.Bool.Decides.{eqb_tells}
use Rattle.std.proofs.lemmas.List.{get_or-set_same, get_or-set_other, length-set}
use Rattle.std.proofs.lemmas.Option.{same_Some, none-some}
use Rattle.inheritance.specs.Lines.{base_in}
use Rattle.inheritance.specs.Cycles.{along, IsOnBaseCycle, Leads, IsClosed, walk_at, IsMarked, HasWalked}
use Rattle.inheritance.proofs.CycleLaws.{first_base, from_base, leads_on, leads_back, closed_back}

pub none_of : (o : Option ℕ) (b : Bool) → is_some o ≡ not b → b ≡ true → o ≡ None
none_of None b e f = refl
none_of (Some walk) b e f = let wrong : true ≡ false = e ∙ ap not f in cc wrong

pub some_of : (o : Option ℕ) (b : Bool) → is_some o ≡ not b → b ≡ false → o ≡ None → ⊥
some_of o b e f none = let wrong : false ≡ true = sym (ap is_some none) ∙ e ∙ ap not f in cc wrong

pub none_unless : (o : Option ℕ) → ((walk : ℕ) → o ≡ Some walk → ⊥) → o ≡ None
none_unless None h = refl
none_unless (Some walk) h = absurd (h walk refl)

-- 1 for a class that is not marked
abbrev pub unmarked : Option ℕ → ℕ
unmarked None = 1
unmarked (Some walk) = 0

-- bases lead on from a class to another
abbrev pub LeadsOn : List (Option ℕ) → ℕ → ℕ → Type 0
LeadsOn bases c d = (n : ℕ) × (along bases (suc n) c ≡ Some d)

-- a class that the walk reached first, and from which it continued to another
abbrev pub IsNew : List (Option ℕ) → List (Option ℕ) → ℕ → ℕ → ℕ → ℕ → ℕ → Type 0
IsNew bases old first walk class c w = ((w ≡ walk) × Leads bases first c) × (walk_at old c ≡ None) × LeadsOn bases c class

-- a walk that has reached a class, which it has not marked yet
pub record IsWalking (bases old : List (Option ℕ)) (first walk : ℕ) (marks : List (Option ℕ)) (class : ℕ) : Type 0 where
  pub width : length marks ≡ length old
  pub kept : (c w : ℕ) → walk_at old c ≡ Some w → walk_at marks c ≡ Some w
  pub met_now : (c w : ℕ) → walk_at marks c ≡ Some w → (walk_at old c ≡ Some w) ⊎ IsNew bases old first walk class c w
  pub base_is_entered : (c d : ℕ) → IsMarked marks c → walk_at old c ≡ None → base_in bases c ≡ Some d → IsMarked marks d ⊎ (d ≡ class)
  pub begun : (first ≡ class) ⊎ IsMarked marks first
  pub led : Leads bases first class

module _ (bases old : List (Option ℕ)) (first walk : ℕ) (marks : List (Option ℕ)) (class : ℕ) (is : IsWalking bases old first walk marks class) (none : walk_at marks class ≡ None) (within : class < length marks) where
  abbrev marks' : List (Option ℕ)
  marks' = slice_set marks class (Some walk)

  here : walk_at marks' class ≡ Some walk
  here = get_or-set_same marks class (Some walk) None within

  elsewhere : (c : ℕ) → c ≢ class → walk_at marks' c ≡ walk_at marks c
  elsewhere c h = get_or-set_other marks class c (Some walk) None h

  -- what is marked stays marked
  stays : (c w : ℕ) → walk_at marks c ≡ Some w → walk_at marks' c ≡ Some w
  stays c w h = elsewhere c (λ e. none-some w (sym none ∙ ap (walk_at marks) (sym e) ∙ h)) ∙ h

  was_none : walk_at old class ≡ None
  was_none = by_mark (walk_at old class) refl
    where
      by_mark : (o : Option ℕ) → walk_at old class ≡ o → walk_at old class ≡ None
      by_mark None h = h
      by_mark (Some w) h = absurd (none-some w (sym none ∙ is.kept class w h))

  -- a class that is marked now was marked, or is this one
  before : (c w : ℕ) → walk_at marks' c ≡ Some w → (walk_at marks c ≡ Some w) ⊎ ((c ≡ class) × (w ≡ walk))
  before c w h = by_test (eqb_tells c class)
    where
      by_test : ((c == class) ≡ true) × (c ≡ class) ⊎ ((c == class) ≡ false) × (c ≢ class) → (walk_at marks c ≡ Some w) ⊎ ((c ≡ class) × (w ≡ walk))
      by_test (inl e) = inr (e.1, same_Some w walk (sym h ∙ ap (walk_at marks') e.1 ∙ here))
      by_test (inr e) = inl (sym (elsewhere c e.1) ∙ h)

  led_to : (c : ℕ) → c ≡ class → Leads bases first c
  led_to c e = subst (Leads bases first) (sym e) is.led

  begun : IsMarked marks' first
  begun = elim is.begun [ inl e ↦ (walk, ap (walk_at marks') e ∙ here) | inr m ↦ (m.0, stays first m.0 m.1) ]

  pub walk_on : (next : ℕ) → base_in bases class ≡ Some next → IsWalking bases old first walk marks' next
  walk_on next base = record {
    width = length-set marks class (Some walk) ∙ is.width;
    kept = λ c w h. stays c w (is.kept c w h);
    met_now = met_now;
    base_is_entered = base_is_entered;
    begun = inr begun;
    led = (suc is.led.0, leads_on bases is.led.0 first class next is.led.1 base);
  }
    where
      further : (c w : ℕ) → (walk_at old c ≡ Some w) ⊎ IsNew bases old first walk class c w → (walk_at old c ≡ Some w) ⊎ IsNew bases old first walk next c w
      further c w (inl h) = inl h
      further c w (inr n) = inr (n.0, n.1, (suc n.2.0, leads_on bases (suc n.2.0) c class next n.2.1 base))

      met_now : (c w : ℕ) → walk_at marks' c ≡ Some w → (walk_at old c ≡ Some w) ⊎ IsNew bases old first walk next c w
      met_now c w h = by_before (before c w h)
        where
          by_before : (walk_at marks c ≡ Some w) ⊎ ((c ≡ class) × (w ≡ walk)) → (walk_at old c ≡ Some w) ⊎ IsNew bases old first walk next c w
          by_before (inl e) = further c w (is.met_now c w e)
          by_before (inr e) = inr ((e.1, led_to c e.0), ap (walk_at old) e.0 ∙ was_none, (zero, from_base bases zero c next next (ap (base_in bases) e.0 ∙ base) refl))

      base_is_entered : (c d : ℕ) → IsMarked marks' c → walk_at old c ≡ None → base_in bases c ≡ Some d → IsMarked marks' d ⊎ (d ≡ next)
      base_is_entered c d marked new f = by_before (before c marked.0 marked.1)
        where
          by_base : IsMarked marks d ⊎ (d ≡ class) → IsMarked marks' d ⊎ (d ≡ next)
          by_base (inl m) = inl (m.0, stays d m.0 m.1)
          by_base (inr e) = inl (walk, ap (walk_at marks') e ∙ here)

          by_before : (walk_at marks c ≡ Some marked.0) ⊎ ((c ≡ class) × (marked.0 ≡ walk)) → IsMarked marks' d ⊎ (d ≡ next)
          by_before (inl e) = by_base (is.base_is_entered c d (marked.0, e) new f)
          by_before (inr e) = inr (same_Some d next (sym f ∙ ap (base_in bases) e.0 ∙ base))

  -- where the class has no base, the walk ends, and has met no class that is among its own base classes
  pub walk_stops : base_in bases class ≡ None → HasWalked bases old first walk marks' None
  walk_stops ends = record {
    width = length-set marks class (Some walk) ∙ is.width;
    kept = λ c w h. stays c w (is.kept c w h);
    later = λ c w h. by_before c w (before c w h);
    begun = λ l. begun;
    closed = closed;
    own = λ c h. absurd (none-some c h);
    covered = λ closed c marked new own. absurd (covered c marked.0 new own (before c marked.0 marked.1));
  }
    where
      has_no_base : (c b : ℕ) → c ≡ class → base_in bases c ≡ Some b → ⊥
      has_no_base c b e f = none-some b (sym ends ∙ ap (base_in bases) (sym e) ∙ f)

      by_new : (c w : ℕ) → (walk_at old c ≡ Some w) ⊎ IsNew bases old first walk class c w → (walk_at old c ≡ Some w) ⊎ ((w ≡ walk) × Leads bases first c)
      by_new c w (inl e) = inl e
      by_new c w (inr n) = inr n.0

      by_before : (c w : ℕ) → (walk_at marks c ≡ Some w) ⊎ ((c ≡ class) × (w ≡ walk)) → (walk_at old c ≡ Some w) ⊎ ((w ≡ walk) × Leads bases first c)
      by_before c w (inl e) = by_new c w (is.met_now c w e)
      by_before c w (inr e) = inr (e.1, led_to c e.0)

      closed : IsClosed bases (IsMarked old) → IsClosed bases (IsMarked marks')
      closed shut c d b marked base further = by_mark (before c marked.0 marked.1)
        where
          still : IsMarked marks d → IsMarked marks' d
          still m = (m.0, stays d m.0 m.1)

          by_base : IsMarked marks d ⊎ (d ≡ class) → IsMarked marks' d
          by_base (inl m) = still m
          by_base (inr e) = absurd (has_no_base d b e further)

          by_walk : IsMarked marks c → (walk_at old c ≡ Some marked.0) ⊎ IsNew bases old first walk class c marked.0 → IsMarked marks' d
          by_walk m (inl h) = let o = shut c d b (marked.0, h) base further in still (o.0, is.kept d o.0 o.1)
          by_walk m (inr n) = by_base (is.base_is_entered c d m n.1 base)

          by_mark : (walk_at marks c ≡ Some marked.0) ⊎ ((c ≡ class) × (marked.0 ≡ walk)) → IsMarked marks' d
          by_mark (inl e) = by_walk (marked.0, e) (is.met_now c marked.0 e)
          by_mark (inr e) = absurd (has_no_base c d e.0 base)

      covered : (c w : ℕ) → walk_at old c ≡ None → IsOnBaseCycle bases c → (walk_at marks c ≡ Some w) ⊎ ((c ≡ class) × (w ≡ walk)) → ⊥
      covered c w new own (inr e) = let first = first_base bases own.0 c c own.1 in has_no_base c first.0 e.0 first.1
      covered c w new own (inl e) = by_walk (is.met_now c w e)
        where
          by_walk : (walk_at old c ≡ Some w) ⊎ IsNew bases old first walk class c w → ⊥
          by_walk (inl h) = none-some w (sym new ∙ h)
          by_walk (inr n) =
              let back = leads_back bases own.0 (suc n.2.0) c class own.1 n.2.1 in
              let first = first_base bases back.0 class c back.1 in
              has_no_base class first.0 refl first.1

-- ---- the end of a walk

module _ (bases old : List (Option ℕ)) (first walk : ℕ) (marks : List (Option ℕ)) (class : ℕ) (is : IsWalking bases old first walk marks class) where
  -- what is marked is closed, where the class at the end is marked or has no base
  closed_at_end : ((b : ℕ) → base_in bases class ≡ Some b → IsMarked marks class) → IsClosed bases (IsMarked old) → IsClosed bases (IsMarked marks)
  closed_at_end end closed c d b marked base further = by_mark (is.met_now c marked.0 marked.1)
    where
      by_base : IsMarked marks d ⊎ (d ≡ class) → IsMarked marks d
      by_base (inl m) = m
      by_base (inr e) = subst (IsMarked marks) (sym e) (end b (ap (base_in bases) (sym e) ∙ further))

      by_mark : (walk_at old c ≡ Some marked.0) ⊎ IsNew bases old first walk class c marked.0 → IsMarked marks d
      by_mark (inl h) = let m = closed c d b (marked.0, h) base further in (m.0, is.kept d m.0 m.1)
      by_mark (inr n) = by_base (is.base_is_entered c d marked n.1 base)

  later : (c w : ℕ) → walk_at marks c ≡ Some w → (walk_at old c ≡ Some w) ⊎ ((w ≡ walk) × Leads bases first c)
  later c w h = by_mark (is.met_now c w h)
    where
      by_mark : (walk_at old c ≡ Some w) ⊎ IsNew bases old first walk class c w → (walk_at old c ≡ Some w) ⊎ ((w ≡ walk) × Leads bases first c)
      by_mark (inl e) = inl e
      by_mark (inr n) = inr n.0

  -- a class that was first reached in this walk leads on to the last one
  leads_to_end : (c : ℕ) → IsMarked marks c → walk_at old c ≡ None → LeadsOn bases c class
  leads_to_end c marked none = by_mark (is.met_now c marked.0 marked.1)
    where
      by_mark : (walk_at old c ≡ Some marked.0) ⊎ IsNew bases old first walk class c marked.0 → LeadsOn bases c class
      by_mark (inl h) = absurd (none-some marked.0 (sym none ∙ h))
      by_mark (inr n) = n.2

  begun_at_end : IsMarked marks class → IsMarked marks first
  begun_at_end m = elim is.begun [ inl e ↦ subst (IsMarked marks) (sym e) m | inr n ↦ n ]

  -- where the walk ends after all classes, it met no class that is among its own base classes
  pub walk_ended : length marks ≤ class → base_in bases class ≡ None → HasWalked bases old first walk marks None
  walk_ended past none = record {
    width = is.width;
    kept = is.kept;
    later = later;
    begun = λ l. elim is.begun [ inl e ↦ absurd (omega (arith, l, past, e)) | inr m ↦ m ];
    closed = closed_at_end (λ b f. absurd (none-some b (sym none ∙ f)));
    own = λ c h. absurd (none-some c h);
    covered = λ closed c marked new own.
        let on = leads_to_end c marked new in
        let back = leads_back bases own.0 (suc on.0) c class own.1 on.1 in
        let first = first_base bases back.0 class c back.1 in
        absurd (none-some first.0 (sym none ∙ first.1));
  }

  -- where it ends at a class that it marked itself, that class is among its own base classes
  pub walk_met : walk_at old class ≡ None → IsMarked marks class → HasWalked bases old first walk marks (Some class)
  walk_met none marked = record {
    width = is.width;
    kept = is.kept;
    later = later;
    begun = λ l. begun_at_end marked;
    closed = closed_at_end (λ b f. marked);
    own = λ c h. subst (IsOnBaseCycle bases) (same_Some class c h) (leads_to_end class marked none);
    covered = λ closed c m new own. let on = leads_to_end c m new in (class, refl, (suc on.0, on.1));
  }

  -- where it ends at a class that an earlier walk marked, it met no new class that is among its own base classes
  pub walk_joined : IsMarked old class → HasWalked bases old first walk marks None
  walk_joined before = record {
    width = is.width;
    kept = is.kept;
    later = later;
    begun = λ l. begun_at_end (before.0, is.kept class before.0 before.1);
    closed = closed_at_end (λ b f. (before.0, is.kept class before.0 before.1));
    own = λ c h. absurd (none-some c h);
    covered = λ closed c marked new own.
        let on = leads_to_end c marked new in
        let m = closed_back bases (IsMarked old) closed c class own (suc on.0, on.1) before in
        absurd (none-some m.0 (sym new ∙ m.1));
  }
