-- Laws of cycles that are found by walks from all classes, one after another.
use Rattle.std.proofs.Common.{◌≡◌, ◌≤◌, ◌<◌, ◌+◌, ◌⊎◌, inl, inr, ℕ, Bool, true, false, List, Option, Some, None, length, replicate, position, cond, is_some, refl, sym, ap, subst, ◌∙◌, arith, [], ◌∷◌, ◌++◌}
use Rattle.std.proofs.lemmas.List.{get_or-replicate, get_or_past, length-replicate, length_push}
use Rattle.std.proofs.lemmas.List.Quantifiers.{position-Some}
use Rattle.std.proofs.lemmas.List.Sums.{fails_before_first}
use Rattle.std.proofs.lemmas.Bool.{cases_lt, lt-ltb}
use Rattle.std.proofs.lemmas.Option.{same_Some, none-some}
use Rattle.std.specs.List.{position_or_len}
use Rattle.inheritance.specs.Lines.{base_in}
use Rattle.inheritance.specs.Cycles.{IsOnBaseCycle, IsLeastOnBaseCycle, Leads, IsClosed, walk_at, IsMarked, MarksBaseCycles, HasWalked}
use Rattle.inheritance.proofs.CycleLaws.{first_base, own_further, closed_back}

-- walks from all classes below a start, and walks around the cycles from the classes that these met again
pub record HaveWalked (bases walks marks : List (Option ℕ)) (start : ℕ) : Type 0 where
  pub walks_width : length walks ≡ length bases
  pub marks_width : length marks ≡ length bases
  pub walks_before : (c w : ℕ) → walk_at walks c ≡ Some w → w < start
  pub marks_before : (c w : ℕ) → walk_at marks c ≡ Some w → w < start
  pub all_walked : (c : ℕ) → c < start → IsMarked walks c
  pub walks_closed : IsClosed bases (IsMarked walks)
  pub marks_closed : IsClosed bases (IsMarked marks)
  pub own : (c : ℕ) → IsMarked marks c → IsOnBaseCycle bases c
  pub found : (c : ℕ) → IsMarked walks c → IsOnBaseCycle bases c → IsMarked marks c

-- n classes of which none is marked
abbrev none_of : ℕ → List (Option ℕ)
none_of n = replicate n None

width_none : (n : ℕ) → length (none_of n) ≡ n
width_none n = length-replicate n None

none_at : (n c : ℕ) → walk_at (none_of n) c ≡ None
none_at n c = elim (cases_lt c n) [
  | inl l ↦ get_or-replicate n c None None l
  | inr g ↦ get_or_past (none_of n) c None (omega (arith, g, width_none n))
]

is_none : (n c w : ℕ) → walk_at (none_of n) c ≡ Some w → ⊥
is_none n c w e = none-some w (sym (none_at n c) ∙ e)

pub none_walked : (bases : List (Option ℕ)) → HaveWalked bases (none_of (length bases)) (none_of (length bases)) 0
none_walked bases = record {
  walks_width = width_none (length bases);
  marks_width = width_none (length bases);
  walks_before = λ c w e. absurd (is_none (length bases) c w e);
  marks_before = λ c w e. absurd (is_none (length bases) c w e);
  all_walked = λ c l. absurd (omega (arith, l));
  walks_closed = λ c d b m e f. absurd (is_none (length bases) c m.0 m.1);
  marks_closed = λ c d b m e f. absurd (is_none (length bases) c m.0 m.1);
  own = λ c m. absurd (is_none (length bases) c m.0 m.1);
  found = λ c m own. absurd (is_none (length bases) c m.0 m.1);
}

has_base : (bases : List (Option ℕ)) (c b : ℕ) → base_in bases c ≡ Some b → c < length bases
has_base bases c b e = elim (cases_lt c (length bases)) [
  | inl l ↦ l
  | inr past ↦ absurd (none-some b (sym (get_or_past bases c None past) ∙ e))
]

-- what a walk marks is not marked by a later one
module _ (bases old : List (Option ℕ)) (first walk : ℕ) (marks : List (Option ℕ)) (met : Option ℕ) (walked : HasWalked bases old first walk marks met) where
  before_next : ((c w : ℕ) → walk_at old c ≡ Some w → w < walk) → (c w : ℕ) → walk_at marks c ≡ Some w → w < walk + 1
  before_next before c w e = elim (walked.later c w e) [
    | inl h ↦ (let l = before c w h in omega (arith, l))
    | inr h ↦ omega (arith, h.0)
  ]

  stays : (c : ℕ) → IsMarked old c → IsMarked marks c
  stays c m = (m.0, walked.kept c m.0 m.1)

module _ (bases walks marks : List (Option ℕ)) (start : ℕ) (is : HaveWalked bases walks marks start) (within : start < length bases) (walks' : List (Option ℕ)) (met : Option ℕ) (walked : HasWalked bases walks start start walks' met) where
  width : length walks' ≡ length bases
  width = walked.width ∙ is.walks_width

  all_walked : (c : ℕ) → c < start + 1 → IsMarked walks' c
  all_walked c l = elim (cases_lt c start) [
    | inl below ↦ stays bases walks start start walks' met walked c (is.all_walked c below)
    | inr g ↦ (let e : start ≡ c = omega (arith, g, l) in subst (IsMarked walks') e (walked.begun (omega (arith, within, width))))
  ]

  -- what is on a cycle and newly followed leads to the class that was met again
  met_by : (c : ℕ) → IsMarked walks' c → IsOnBaseCycle bases c → IsMarked marks c ⊎ ((class : ℕ) × (met ≡ Some class) × Leads bases c class)
  met_by c m own = by_mark (walk_at walks c) refl
    where
      by_mark : (o : Option ℕ) → walk_at walks c ≡ o → IsMarked marks c ⊎ ((class : ℕ) × (met ≡ Some class) × Leads bases c class)
      by_mark None e = inr (walked.covered is.walks_closed c m e own)
      by_mark (Some w) e = inl (is.found c (w, e) own)

  pub met_none : met ≡ None → HaveWalked bases walks' marks (start + 1)
  met_none none = record {
    walks_width = width;
    marks_width = is.marks_width;
    walks_before = before_next bases walks start start walks' met walked is.walks_before;
    marks_before = λ c w e. let l = is.marks_before c w e in omega (arith, l);
    all_walked = all_walked;
    walks_closed = walked.closed is.walks_closed;
    marks_closed = is.marks_closed;
    own = is.own;
    found = λ c m own. elim (met_by c m own) [ inl e ↦ e | inr h ↦ absurd (none-some h.0 (sym none ∙ h.1)) ];
  }

  module _ (class : ℕ) (marks' : List (Option ℕ)) (met' : Option ℕ) (round : HasWalked bases marks class start marks' met') where
    pub met_one : met ≡ Some class → HaveWalked bases walks' marks' (start + 1)
    met_one one = record {
      walks_width = width;
      marks_width = round.width ∙ is.marks_width;
      walks_before = before_next bases walks start start walks' met walked is.walks_before;
      marks_before = before_next bases marks class start marks' met' round is.marks_before;
      all_walked = all_walked;
      walks_closed = walked.closed is.walks_closed;
      marks_closed = closed;
      own = own;
      found = found;
    }
      where
        closed : IsClosed bases (IsMarked marks')
        closed = round.closed is.marks_closed

        transitions : IsOnBaseCycle bases class
        transitions = walked.own class one

        own : (c : ℕ) → IsMarked marks' c → IsOnBaseCycle bases c
        own c m = elim (round.later c m.0 m.1) [
          | inl e ↦ is.own c (m.0, e)
          | inr e ↦ own_further bases class c transitions e.1
        ]

        class_marked : IsMarked marks' class
        class_marked =
            let first = first_base bases transitions.0 class class transitions.1 in
            round.begun (omega (arith, has_base bases class first.0 first.1, round.width, is.marks_width))

        found : (c : ℕ) → IsMarked walks' c → IsOnBaseCycle bases c → IsMarked marks' c
        found c m turning = elim (met_by c m turning) [
          | inl e ↦ stays bases marks class start marks' met' round c e
          | inr h ↦ closed_back bases (IsMarked marks') closed c class turning (subst (Leads bases c) (same_Some h.0 class (sym h.1 ∙ one)) h.2) class_marked
        ]

-- ---- when all have been made

-- where no walk met itself, nothing is marked
abbrev pub MetNone : List ℕ → List (Option ℕ) → Type 0
MetNone classes marks = classes ≡ [] → (class : ℕ) → IsMarked marks class → ⊥

pub none_met : (bases : List (Option ℕ)) → MetNone [] (none_of (length bases))
none_met bases e class m = is_none (length bases) class m.0 m.1

pub met_some : (classes : List ℕ) (class : ℕ) (marks : List (Option ℕ)) → MetNone (classes ++ class ∷ []) marks
met_some classes class marks e = let wrong : length (classes ++ class ∷ []) ≡ 0 = ap length e in absurd (omega (arith, wrong, length_push classes class))

-- so that there is no cyclic inheritance
pub none_round : (bases marks : List (Option ℕ)) (classes : List ℕ) → MarksBaseCycles bases marks → MetNone classes marks → classes ≡ [] → (class : ℕ) → IsOnBaseCycle bases class → ⊥
none_round bases marks classes exact none e class own = none e class ((exact class).1 own)

pub all_marked : (bases walks marks : List (Option ℕ)) → HaveWalked bases walks marks (length bases) → MarksBaseCycles bases marks
all_marked bases walks marks is class = (
  is.own class,
  λ own.
      let first = first_base bases own.0 class class own.1 in
      is.found class (is.all_walked class (has_base bases class first.0 first.1)) own,
)

position_none : (p : Option ℕ → Bool) (xs : List (Option ℕ)) → position p xs ≡ None → length xs ≤ position_or_len p xs
position_none p xs e = elim (cases_lt (position_or_len p xs) (length xs)) [
  | inl l ↦ absurd (none-some (position_or_len p xs) (sym e ∙ ap (λ b. cond b (Some (position_or_len p xs)) None) (lt-ltb (position_or_len p xs) (length xs) l)))
  | inr g ↦ g
]

module _ (bases marks : List (Option ℕ)) (exact : MarksBaseCycles bases marks) where
  marked_is : (class : ℕ) → is_some (walk_at marks class) ≡ true → IsMarked marks class
  marked_is class e = by_mark (walk_at marks class) refl
    where
      by_mark : (o : Option ℕ) → walk_at marks class ≡ o → IsMarked marks class
      by_mark None h = let wrong : false ≡ true = sym (ap is_some h) ∙ e in cc wrong
      by_mark (Some w) h = (w, h)

  not_marked : (class : ℕ) → is_some (walk_at marks class) ≡ false → IsOnBaseCycle bases class → ⊥
  not_marked class e own = let m = (exact class).1 own in let wrong : true ≡ false = sym (ap is_some m.1) ∙ e in cc wrong

  -- where no index is marked, no class is
  none_marked : position is_some marks ≡ None → (class : ℕ) → is_some (walk_at marks class) ≡ false
  none_marked e class = elim (cases_lt class (length marks)) [
    | inl l ↦ fails_before_first is_some marks class None (omega (arith, l, position_none is_some marks e))
    | inr past ↦ ap is_some (get_or_past marks class None past)
  ]

  pub least_marked : (o : Option ℕ) → position is_some marks ≡ o → IsLeastOnBaseCycle bases o
  least_marked None e = λ class own. not_marked class (none_marked e class) own
  least_marked (Some least) e =
      let found = position-Some is_some marks least None e in
      ((exact least).0 (marked_is least found.1), λ class own. at_least class own (cases_lt class least) found.2)
    where
      at_least : (class : ℕ) → IsOnBaseCycle bases class → (class < least) ⊎ (least ≤ class) → ((k : ℕ) → k < least → is_some (walk_at marks k) ≡ false) → least ≤ class
      at_least class own (inl l) before = absurd (not_marked class (before class l) own)
      at_least class own (inr g) before = g
