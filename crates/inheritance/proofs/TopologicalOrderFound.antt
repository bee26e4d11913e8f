-- Laws of an order that is found by walks up from all classes, one after another.
use Rattle.std.proofs.Common.{◌≡◌, ◌≤◌, ◌<◌, ◌+◌, ◌⊎◌, inl, inr, ℕ, Bool, true, false, List, [], ◌∷◌, ◌++◌, reverse, Option, Some, None, length, replicate, slice_index_or, refl, sym, ap, subst, ◌∙◌, arith}
use Rattle.std.proofs.lemmas.Bool.{cases_lt}
use Rattle.std.proofs.lemmas.List.{get_or-replicate, get_or_past, get_or_default, length-replicate}
use Rattle.std.proofs.lemmas.Option.{same_Some}
use Rattle.inheritance.specs.Lines.{base_in}
use Rattle.inheritance.specs.TopologicalOrder.{times, AreTopologicallyOrdered, IsPath, is_met, HasMet, IsMetNext, is_listed_next, MarksMore}
use Rattle.inheritance.proofs.LineLaws.{kind_never_ends}
use Rattle.inheritance.proofs.TopologicalOrderLaws.{IsOrder, IsListedNext, none_listed, list_path, path_base, one_at, one_here, times_first, times_both, not_both}

-- a class that is met and not listed, so that its bases do not end
abbrev pub IsCyclic : List Bool → List Bool → ℕ → Type 0
IsCyclic met listed class = (is_met met class ≡ true) × (is_met listed class ≡ false)

abbrev pub HasCyclicBase : List (Option ℕ) → List Bool → List Bool → ℕ → Type 0
HasCyclicBase bases met listed class = (base : ℕ) × (base_in bases class ≡ Some base) × IsCyclic met listed base

-- walks up from all classes below a start
pub record HaveListed (bases : List (Option ℕ)) (met listed : List Bool) (classes : List ℕ) (start : ℕ) : Type 0 where
  pub met_width : length met ≡ length bases
  pub listed_width : length listed ≡ length bases
  pub order : IsOrder bases classes
  pub is_listed : (class : ℕ) → is_met listed class ≡ true → 0 < times classes class
  pub marked : (class : ℕ) → 0 < times classes class → is_met listed class ≡ true
  pub walked : (class : ℕ) → is_met listed class ≡ true → is_met met class ≡ true
  pub all_met : (class : ℕ) → class < start → is_met met class ≡ true
  pub cyclic : (class : ℕ) → IsCyclic met listed class → HasCyclicBase bases met listed class

none_met : (n class : ℕ) → is_met (replicate n false) class ≡ false
none_met n class = elim (cases_lt class n) [
  | inl l ↦ get_or-replicate n class false false l
  | inr past ↦ get_or_past (replicate n false) class false (omega (arith, past, length-replicate n false))
]

not_met : (n class : ℕ) → is_met (replicate n false) class ≡ true → ⊥
not_met n class e = not_both (is_met (replicate n false) class) e (none_met n class)

pub none_walked : (bases : List (Option ℕ)) → HaveListed bases (replicate (length bases) false) (replicate (length bases) false) [] 0
none_walked bases = record {
  met_width = length-replicate (length bases) false;
  listed_width = length-replicate (length bases) false;
  order = none_listed bases;
  is_listed = λ class e. absurd (not_met (length bases) class e);
  marked = λ class l. absurd (omega (arith, l));
  walked = λ class e. e;
  all_met = λ class l. absurd (omega (arith, l));
  cyclic = λ class e. absurd (not_met (length bases) class e.0);
}

either : (b : Bool) → (b ≡ true) ⊎ (b ≡ false)
either true = inl refl
either false = inr refl

-- the next class is listed, where the test says so
pub reported_listed : (bases : List (Option ℕ)) (listed : List Bool) (classes : List ℕ) → length listed ≡ length bases → ((class : ℕ) → is_met listed class ≡ true → 0 < times classes class) → (next : Option ℕ) → is_listed_next listed next ≡ true → IsListedNext bases classes next
reported_listed bases listed classes width are next reported class e within =
    are class (get_or_default listed class false true (omega (arith, width, within)) ∙ sym (ap (is_listed_next listed) e) ∙ reported)

-- the next class is one that is not listed, where the test says so
reported_cyclic : (bases : List (Option ℕ)) (listed : List Bool) → length listed ≡ length bases → (next : Option ℕ) → is_listed_next listed next ≡ false → (class : ℕ) × (next ≡ Some class) × (class < length bases) × (is_met listed class ≡ false)
reported_cyclic bases listed width None reported = let wrong : true ≡ false = reported in cc wrong
reported_cyclic bases listed width (Some class) reported = elim (cases_lt class (length listed)) [
  | inl l ↦ (class, refl, omega (arith, l, width), get_or_default listed class false true l ∙ reported)
  | inr past ↦ absurd (not_both (slice_index_or listed class true) (get_or_past listed class true past) reported)
]

module _ (bases : List (Option ℕ)) (met listed : List Bool) (classes : List ℕ) (start : ℕ) (is : HaveListed bases met listed classes start) (within : start < length bases) (met' : List Bool) (path : List ℕ) (next : Option ℕ) (has : HasMet bases met start met' path next) (stops : IsMetNext met' next) where
  width : length met' ≡ length bases
  width = has.width ∙ is.met_width

  -- the start is met: it is on the path, or nothing is and it comes next
  start_met : is_met met' start ≡ true
  start_met = by_path path has.on_path (λ l. (has.of_path start l).2)
    where
      by_path : (path : List ℕ) → IsPath bases (Some start) path next → (0 < times path start → is_met met' start ≡ true) → is_met met' start ≡ true
      by_path [] on met = stops start (sym on) (omega (arith, within, width))
      by_path (x ∷ path) on met = met (omega (arith, times_first x path start, ap (λ c. one_at c start) (sym (same_Some start x on.0)), one_here start))

  all_met : (class : ℕ) → class < start + 1 → is_met met' class ≡ true
  all_met class l = elim (cases_lt class start) [
    | inl below ↦ has.kept class (is.all_met class below)
    | inr g ↦ (let e : start ≡ class = omega (arith, g, l) in subst (λ c. is_met met' c ≡ true) e start_met)
  ]

  -- what is on the path is not listed
  not_listed : (class : ℕ) → 0 < times path class → times classes class ≡ 0
  not_listed class l = elim (cases_lt 0 (times classes class)) [
    | inl h ↦ absurd (not_both (is_met met class) (is.walked class (is.marked class h)) (has.of_path class l).1)
    | inr none ↦ omega (arith, none)
  ]

  path_unlisted : (class : ℕ) → 0 < times path class → is_met listed class ≡ false
  path_unlisted class l = elim (either (is_met listed class)) [
    | inl e ↦ absurd (not_both (is_met met class) (is.walked class e) (has.of_path class l).1)
    | inr e ↦ e
  ]

  each_once : (class : ℕ) → times classes class + times path class ≤ 1
  each_once class = elim (cases_lt 0 (times path class)) [
    | inl l ↦ (let occurs_once = has.occurs_once class in omega (arith, occurs_once, not_listed class l))
    | inr none ↦ (let occurs_once = is.order.occurs_once class in omega (arith, occurs_once, none))
  ]

  module _ (listed' : List Bool) (more : MarksMore listed path listed') (reported : is_listed_next listed next ≡ true) where
    order : IsOrder bases (classes ++ reverse path)
    order = (list_path bases classes is.order next (reported_listed bases listed classes is.listed_width is.is_listed next reported) (Some start) path has.on_path each_once (λ class l. omega (arith, (has.of_path class l).0, width))).0

    pub path_listed : HaveListed bases met' listed' (classes ++ reverse path) (start + 1)
    path_listed = record {
      met_width = width;
      listed_width = more.width ∙ is.listed_width;
      order = order;
      is_listed = λ class e. elim (more.met_now class e) [
        | inl h ↦ (let l = is.is_listed class h in omega (arith, l, times_both classes path class))
        | inr h ↦ omega (arith, h, times_both classes path class)
      ];
      marked = λ class l. elim (cases_lt 0 (times path class)) [
        | inl on ↦ more.of_path class on (omega (arith, (has.of_path class on).0, width, more.width, is.listed_width))
        | inr none ↦ more.kept class (is.marked class (omega (arith, l, none, times_both classes path class)))
      ];
      walked = λ class e. elim (more.met_now class e) [
        | inl h ↦ has.kept class (is.walked class h)
        | inr h ↦ (has.of_path class h).2
      ];
      all_met = all_met;
      cyclic = cyclic;
    }
      where
        -- what was listed before is listed still
        was_not : (class : ℕ) → is_met listed' class ≡ false → is_met listed class ≡ false
        was_not class e = elim (either (is_met listed class)) [
          | inl h ↦ absurd (not_both (is_met listed' class) (more.kept class h) e)
          | inr h ↦ h
        ]

        was_met : (class : ℕ) → IsCyclic met' listed' class → is_met met class ≡ true
        was_met class e = elim (has.met_now class e.0) [
          | inl h ↦ h
          | inr on ↦ absurd (not_both (is_met listed' class) (more.of_path class on (omega (arith, (has.of_path class on).0, width, more.width, is.listed_width))) e.1)
        ]

        -- what was met and not listed is not listed now
        still_not : (class : ℕ) → IsCyclic met listed class → is_met listed' class ≡ false
        still_not class e = elim (either (is_met listed' class)) [
          | inl h ↦ elim (more.met_now class h) [
            | inl g ↦ absurd (not_both (is_met listed class) g e.1)
            | inr on ↦ absurd (not_both (is_met met class) e.0 (has.of_path class on).1)
          ]
          | inr h ↦ h
        ]

        cyclic : (class : ℕ) → IsCyclic met' listed' class → HasCyclicBase bases met' listed' class
        cyclic class e =
            let base = is.cyclic class (was_met class e, was_not class e.1) in
            (base.0, base.1, (has.kept base.0 base.2.0, still_not base.0 base.2))

  pub path_dropped : is_listed_next listed next ≡ false → HaveListed bases met' listed classes (start + 1)
  path_dropped reported = record {
    met_width = width;
    listed_width = is.listed_width;
    order = is.order;
    is_listed = is.is_listed;
    marked = is.marked;
    walked = λ class e. has.kept class (is.walked class e);
    all_met = all_met;
    cyclic = cyclic;
  }
    where
      last : (class : ℕ) × (next ≡ Some class) × (class < length bases) × (is_met listed class ≡ false)
      last = reported_cyclic bases listed is.listed_width next reported

      on_path : (class : ℕ) → 0 < times path class → HasCyclicBase bases met' listed class
      on_path class l = elim (path_base bases (Some start) path next has.on_path class l) [
        | inl e ↦ (last.0, e ∙ last.1, (stops last.0 last.1 (omega (arith, last.2, width)), last.3))
        | inr h ↦ (h.0, h.1, ((has.of_path h.0 h.2).2, path_unlisted h.0 h.2))
      ]

      cyclic : (class : ℕ) → IsCyclic met' listed class → HasCyclicBase bases met' listed class
      cyclic class e = elim (has.met_now class e.0) [
        | inl h ↦ (let base = is.cyclic class (h, e.1) in (base.0, base.1, (has.kept base.0 base.2.0, base.2.1)))
        | inr on ↦ on_path class on
      ]

-- ---- when all have been made

pub all_listed : (bases : List (Option ℕ)) (met listed : List Bool) (classes : List ℕ) → HaveListed bases met listed classes (length bases) → AreTopologicallyOrdered bases classes
all_listed bases met listed classes is = record {
  following = is.order.following;
  occurs_once = λ class most within ends. elim (either (is_met listed class)) [
    | inl e ↦ (let occurs_once = is.order.occurs_once class in omega (arith, occurs_once, is.is_listed class e))
    | inr e ↦ absurd (kind_never_ends bases (IsCyclic met listed) is.cyclic most class (is.all_met class within, e) ends)
  ];
  others = λ class. elim (cases_lt 0 (times classes class)) [
    | inl l ↦ inr (is.order.ends class l)
    | inr none ↦ inl (omega (arith, none))
  ];
}
