-- Laws of classes that are listed after their bases.
use Rattle.std.proofs.Common.{◌≡◌, ◌≢◌, ◌≤◌, ◌<◌, ◌+◌, ◌⊎◌, inl, inr, ℕ, zero, suc, Bool, true, false, cond, ◌==◌, List, [], ◌∷◌, ◌++◌, reverse, take, Option, Some, None, length, slice_get, slice_set, refl, sym, ap, subst, ◌∙◌, arith}
use Rattle.std.specs.List.{sum_by}
use Rattle.std.proofs.lemmas.Bool.{cases_lt, eq-eqb}
use Rattle.std.proofs.lemmas.Bool.Decides.{eqb_tells}
use Rattle.std.proofs.lemmas.List.{append_assoc, append-nil, reverse-append, get_or_past, get_or-set_same, get_or-set_other, length-set, take-append-le}
use Rattle.std.proofs.lemmas.List.Sums.{sum_by_push, sum_by-set, sum_by-cons, sum_by-append}
use Rattle.std.proofs.Math.Seq.{take-append_seam}
use Rattle.std.proofs.lemmas.Option.{same_Some, none-some}
use Rattle.inheritance.specs.Lines.{base_in, Ends}
use Rattle.inheritance.specs.TopologicalOrder.{times, IsPath, is_met, HasMet}
use Rattle.inheritance.proofs.LineLaws.{EndsFrom, ends_from_none, ends_step}

-- ---- how often a class occurs in a list

abbrev pub one_at : ℕ → ℕ → ℕ
one_at x class = cond (x == class) 1 0

pub times_push : (xs : List ℕ) (x class : ℕ) → times (xs ++ x ∷ []) class ≡ times xs class + one_at x class
times_push xs x class = sum_by_push (λ c. cond (c == class) 1 0) xs x

pub times_first : (x : ℕ) (xs : List ℕ) (class : ℕ) → times (x ∷ xs) class ≡ one_at x class + times xs class
times_first x xs class = sum_by-cons (λ c. cond (c == class) 1 0) x xs

pub one_here : (class : ℕ) → one_at class class ≡ 1
one_here class = ap (λ b. cond b 1 0) (eq-eqb class class refl)

pub one_cases : (x class : ℕ) → ((x ≡ class) × (one_at x class ≡ 1)) ⊎ ((x ≢ class) × (one_at x class ≡ 0))
one_cases x class = elim (eqb_tells x class) [
  | inl e ↦ inl (e.1, ap (λ b. cond b 1 0) e.0)
  | inr e ↦ inr (e.1, ap (λ b. cond b 1 0) e.0)
]

back : (class : ℕ) (classes : List ℕ) → reverse (class ∷ classes) ≡ reverse classes ++ class ∷ []
back class classes = reverse-append (class ∷ []) classes

times_back : (classes : List ℕ) (class : ℕ) → times (reverse classes) class ≡ times classes class
times_back [] class = refl
times_back (x ∷ classes) class =
    let pushed = ap (λ l. times l class) (back x classes) ∙ times_push (reverse classes) x class in
    omega (arith, pushed, times_back classes class, times_first x classes class)

pub times_both : (xs ys : List ℕ) (class : ℕ) → times (xs ++ reverse ys) class ≡ times xs class + times ys class
times_both xs ys class = sum_by-append (λ c. cond (c == class) 1 0) xs (reverse ys) ∙ ap (λ n. times xs class + n) (times_back ys class)

-- ---- paths

pub path_on : (bases : List (Option ℕ)) (first : Option ℕ) (path : List ℕ) (class : ℕ) → IsPath bases first path (Some class) → IsPath bases first (path ++ class ∷ []) (base_in bases class)
path_on bases first [] class is = (is, refl)
path_on bases first (x ∷ path) class is = (is.0, path_on bases (base_in bases x) path class is.1)

-- each class of a path has the next as its base, and the last has what comes after the path
pub path_base : (bases : List (Option ℕ)) (first : Option ℕ) (path : List ℕ) (next : Option ℕ) → IsPath bases first path next → (class : ℕ) → 0 < times path class → (base_in bases class ≡ next) ⊎ ((base : ℕ) × (base_in bases class ≡ Some base) × (0 < times path base))
path_base bases first [] next is class h = absurd (omega (arith, h))
path_base bases first (x ∷ path) next is class h = by_index (one_cases x class) (path_base bases (base_in bases x) path next is.1 class)
  where
    by_path : (path : List ℕ) → IsPath bases (base_in bases x) path next → x ≡ class → (base_in bases class ≡ next) ⊎ ((base : ℕ) × (base_in bases class ≡ Some base) × (0 < times (x ∷ path) base))
    by_path [] rest e = inl (ap (base_in bases) (sym e) ∙ rest)
    by_path (y ∷ path) rest e = inr (y, ap (base_in bases) (sym e) ∙ rest.0, omega (arith, times_first x (y ∷ path) y, times_first y path y, one_here y))

    by_index : ((x ≡ class) × (one_at x class ≡ 1)) ⊎ ((x ≢ class) × (one_at x class ≡ 0)) → (0 < times path class → (base_in bases class ≡ next) ⊎ ((base : ℕ) × (base_in bases class ≡ Some base) × (0 < times path base))) → (base_in bases class ≡ next) ⊎ ((base : ℕ) × (base_in bases class ≡ Some base) × (0 < times (x ∷ path) base))
    by_index (inl e) further = by_path path is.1 e.0
    by_index (inr e) further = elim (further (omega (arith, h, e.1, times_first x path class))) [
      | inl g ↦ inl g
      | inr g ↦ inr (g.0, g.1, omega (arith, g.2, times_first x path g.0))
    ]

-- ---- the order

-- what is at an index of a longer list
at_end : (xs : List ℕ) (y index c : ℕ) → slice_get (xs ++ y ∷ []) index ≡ Some c → ((index < length xs) × (slice_get xs index ≡ Some c)) ⊎ ((index ≡ length xs) × (c ≡ y))
at_end [] y zero c e = inr (refl, sym (same_Some y c e))
at_end [] y (suc index) c e = absurd (none-some c e)
at_end (x ∷ xs) y zero c e = inl (omega arith, e)
at_end (x ∷ xs) y (suc index) c e = elim (at_end xs y index c e) [
  | inl h ↦ inl (omega (arith, h.0), h.1)
  | inr h ↦ inr (ap suc h.0, h.1)
]

take_before : (xs : List ℕ) (y index : ℕ) → index ≡ length xs → take index (xs ++ y ∷ []) ≡ xs
take_before xs y index e = ap (λ n. take n (xs ++ y ∷ [])) e ∙ take-append_seam xs (y ∷ [])

-- each of these classes occurs once, after its base, and its bases end
pub record IsOrder (bases : List (Option ℕ)) (classes : List ℕ) : Type 0 where
  pub following : (index class base : ℕ) → slice_get classes index ≡ Some class → base_in bases class ≡ Some base → base < length bases → 0 < times (take index classes) base
  pub occurs_once : (class : ℕ) → times classes class ≤ 1
  pub ends : (class : ℕ) → 0 < times classes class → (class < length bases) × ((most : ℕ) × Ends bases most class)

-- what comes next is listed, where it is a class
abbrev pub IsListedNext : List (Option ℕ) → List ℕ → Option ℕ → Type 0
IsListedNext bases classes next = (class : ℕ) → next ≡ Some class → class < length bases → 0 < times classes class

module _ (bases : List (Option ℕ)) where
  pub none_listed : IsOrder bases []
  none_listed = record {
    following = λ index class base e f l. absurd (none-some class e);
    occurs_once = λ class. omega arith;
    ends = λ class l. absurd (omega (arith, l));
  }

  -- a class whose base is listed ends as that does
  ends_after : (classes : List ℕ) → IsOrder bases classes → (o : Option ℕ) → IsListedNext bases classes o → (n : ℕ) × EndsFrom bases n o
  ends_after classes is None next = (0, ends_from_none bases 0)
  ends_after classes is (Some base) next = elim (cases_lt base (length bases)) [
    | inl l ↦ (is.ends base (next base refl l)).1
    | inr past ↦ (1, (ends_step bases 1 base (omega arith)).1 (subst (λ o. EndsFrom bases 0 o) (sym (get_or_past bases base None past)) (ends_from_none bases 0)))
  ]

  module _ (classes : List ℕ) (is : IsOrder bases classes) (class : ℕ) (within : class < length bases) (new : times classes class ≡ 0) (next : IsListedNext bases classes (base_in bases class)) where
    pub list_one : IsOrder bases (classes ++ class ∷ [])
    list_one = record {
      following = λ index c base e f l. elim (at_end classes class index c e) [
        | inl h ↦ subst (λ xs. 0 < times xs base) (sym (take-append-le index classes (class ∷ []) (omega (arith, h.0)))) (is.following index c base h.1 f l)
        | inr h ↦ subst (λ xs. 0 < times xs base) (sym (take_before classes class index h.0)) (next base (ap (base_in bases) (sym h.1) ∙ f) l)
      ];
      occurs_once = λ c. elim (one_cases class c) [
        | inl e ↦ (let none = ap (times classes) (sym e.0) ∙ new in omega (arith, none, e.1, times_push classes class c))
        | inr e ↦ (let occurs_once = is.occurs_once c in omega (arith, occurs_once, e.1, times_push classes class c))
      ];
      ends = λ c l. elim (one_cases class c) [
        | inl e ↦ subst (λ d. (d < length bases) × ((most : ℕ) × Ends bases most d)) e.0 (
            let ended = ends_after classes is (base_in bases class) next in
            (within, (suc ended.0, (ends_step bases (suc ended.0) class (omega arith)).1 (subst (λ n. EndsFrom bases n (base_in bases class)) (omega arith) ended.1)))
            )
        | inr e ↦ is.ends c (omega (arith, l, e.1, times_push classes class c))
      ];
    }

  -- a path is listed, the last class first
  module _ (classes : List ℕ) (is : IsOrder bases classes) (next : Option ℕ) (listed : IsListedNext bases classes next) where
    pub list_path : (first : Option ℕ) (path : List ℕ) → IsPath bases first path next → ((class : ℕ) → times classes class + times path class ≤ 1) → ((class : ℕ) → 0 < times path class → class < length bases) → IsOrder bases (classes ++ reverse path) × IsListedNext bases (classes ++ reverse path) first
    list_path first [] on occurs_once within = (subst (IsOrder bases) (sym (append-nil classes)) is, λ class e l. subst (λ xs. 0 < times xs class) (sym (append-nil classes)) (listed class (sym on ∙ e) l))
    list_path first (x ∷ path) on occurs_once within =
        let rest = list_path (base_in bases x) path on.1 (λ class. let o = occurs_once class in omega (arith, o, times_first x path class)) (λ class l. within class (omega (arith, l, times_first x path class))) in
        let whole : classes ++ reverse (x ∷ path) ≡ (classes ++ reverse path) ++ x ∷ [] = ap (λ l. classes ++ l) (back x path) ∙ sym (append_assoc classes (reverse path) (x ∷ [])) in
        let new : times (classes ++ reverse path) x ≡ 0 = let o = occurs_once x in omega (arith, o, times_first x path x, one_here x, times_both classes path x) in (
          subst (IsOrder bases) (sym whole) (list_one (classes ++ reverse path) rest.0 x (within x (omega (arith, times_first x path x, one_here x))) new rest.1),
          λ class e l. omega (arith, times_both classes (x ∷ path) class, times_first x path class, ap (one_at x) (same_Some x class (sym on.0 ∙ e)), one_here x),
        )

-- ---- marks

-- ---- marks

-- 1 for a class that is not met
abbrev pub unmet : Bool → ℕ
unmet met = cond met 0 1

pub not_both : (b : Bool) → b ≡ true → b ≡ false → ⊥
not_both b e f = let wrong : true ≡ false = sym e ∙ f in cc wrong

module _ (marks : List Bool) (class : ℕ) (within : class < length marks) where
  abbrev marks' : List Bool
  marks' = slice_set marks class true

  pub marked_here : is_met marks' class ≡ true
  marked_here = get_or-set_same marks class true false within

  pub still_marked : (c : ℕ) → is_met marks c ≡ true → is_met marks' c ≡ true
  still_marked c e = elim (eqb_tells c class) [
    | inl h ↦ ap (is_met marks') h.1 ∙ marked_here
    | inr h ↦ get_or-set_other marks class c true false h.1 ∙ e
  ]

  pub fewer_unmet : is_met marks class ≡ false → sum_by unmet marks' < sum_by unmet marks
  fewer_unmet new = omega (arith, sum_by-set unmet marks class true false within, ap unmet new)

  pub marked_now : (c : ℕ) → is_met marks' c ≡ true → (is_met marks c ≡ true) ⊎ (c ≡ class)
  marked_now c e = elim (eqb_tells c class) [
    | inl h ↦ inr h.1
    | inr h ↦ inl (sym (get_or-set_other marks class c true false h.1) ∙ e)
  ]

-- ---- walks up

pub nothing_met : (bases : List (Option ℕ)) (old : List Bool) (first : ℕ) → HasMet bases old first old [] (Some first)
nothing_met bases old first = record {
  width = refl;
  on_path = refl;
  occurs_once = λ class. omega arith;
  of_path = λ class l. absurd (omega (arith, l));
  kept = λ class e. e;
  met_now = λ class e. inl e;
}

module _ (bases : List (Option ℕ)) (old : List Bool) (first : ℕ) (met : List Bool) (path : List ℕ) (next : Option ℕ) (is : HasMet bases old first met path next) (class : ℕ) (is_end : next ≡ Some class) (within : class < length met) (new : is_met met class ≡ false) where
  was_new : (b : Bool) → is_met old class ≡ b → b ≡ false
  was_new false e = refl
  was_new true e = absurd (not_both (is_met met class) (is.kept class e) new)

  not_on_path : times path class ≡ 0
  not_on_path = elim (cases_lt 0 (times path class)) [
    | inl l ↦ absurd (not_both (is_met met class) (is.of_path class l).2 new)
    | inr none ↦ omega (arith, none)
  ]

  pub one_more_met : HasMet bases old first (slice_set met class true) (path ++ class ∷ []) (base_in bases class)
  one_more_met = record {
    width = length-set met class true ∙ is.width;
    on_path = path_on bases (Some first) path class (subst (IsPath bases (Some first) path) is_end is.on_path);
    occurs_once = λ c. elim (one_cases class c) [
      | inl e ↦ (let none = ap (times path) (sym e.0) ∙ not_on_path in omega (arith, none, e.1, times_push path class c))
      | inr e ↦ (let occurs_once = is.occurs_once c in omega (arith, occurs_once, e.1, times_push path class c))
    ];
    of_path = λ c l. elim (one_cases class c) [
      | inl e ↦ subst (λ c. (c < length (slice_set met class true)) × (is_met old c ≡ false) × (is_met (slice_set met class true) c ≡ true)) e.0 (omega (arith, within, length-set met class true), was_new (is_met old class) refl, marked_here met class within)
      | inr e ↦ (let h = is.of_path c (omega (arith, l, e.1, times_push path class c)) in (omega (arith, h.0, length-set met class true), h.1, still_marked met class within c h.2))
    ];
    kept = λ c e. still_marked met class within c (is.kept c e);
    met_now = λ c e. elim (marked_now met class within c e) [
      | inl h ↦ elim (is.met_now c h) [ inl g ↦ inl g | inr g ↦ inr (omega (arith, g, times_push path class c)) ]
      | inr h ↦ inr (omega (arith, ap (one_at class) h, one_here class, times_push path class c))
    ];
  }

-- ---- paths that are listed

-- classes of the end of a path are listed
pub record IsListing (old : List Bool) (whole before : List ℕ) (listed : List Bool) (path classes : List ℕ) : Type 0 where
  pub width : length listed ≡ length old
  pub all : classes ++ reverse path ≡ before ++ reverse whole
  pub left : (class : ℕ) → times path class ≤ times whole class
  pub kept : (class : ℕ) → is_met old class ≡ true → is_met listed class ≡ true
  pub met_now : (class : ℕ) → is_met listed class ≡ true → (is_met old class ≡ true) ⊎ (0 < times whole class)
  pub of_path : (class : ℕ) → 0 < times whole class → class < length listed → (is_met listed class ≡ true) ⊎ (0 < times path class)

module _ (old : List Bool) (whole before : List ℕ) (listed : List Bool) (path classes : List ℕ) (class : ℕ) (is : IsListing old whole before listed (path ++ class ∷ []) classes) where
  abbrev more : List ℕ
  more = classes ++ class ∷ []

  all_more : more ++ reverse path ≡ before ++ reverse whole
  all_more = append_assoc classes (class ∷ []) (reverse path) ∙ ap (λ l. classes ++ l) (sym (reverse-append path (class ∷ []))) ∙ is.all

  left_more : (c : ℕ) → times path c ≤ times whole c
  left_more c = let l = is.left c in omega (arith, l, times_push path class c)

  pub list_in : class < length listed → IsListing old whole before (slice_set listed class true) path more
  list_in within = record {
    width = length-set listed class true ∙ is.width;
    all = all_more;
    left = left_more;
    kept = λ c e. still_marked listed class within c (is.kept c e);
    met_now = λ c e. elim (marked_now listed class within c e) [
      | inl h ↦ is.met_now c h
      | inr h ↦ inr (let l = is.left c in omega (arith, l, ap (one_at class) h, one_here class, times_push path class c))
    ];
    of_path = λ c l in_list. elim (one_cases class c) [
      | inl e ↦ inl (subst (λ c. is_met (slice_set listed class true) c ≡ true) e.0 (marked_here listed class within))
      | inr e ↦ elim (is.of_path c l (omega (arith, in_list, length-set listed class true))) [
        | inl h ↦ inl (still_marked listed class within c h)
        | inr h ↦ inr (omega (arith, h, e.1, times_push path class c))
      ]
    ];
  }

  pub list_out : length listed ≤ class → IsListing old whole before listed path more
  list_out past = record {
    width = is.width;
    all = all_more;
    left = left_more;
    kept = is.kept;
    met_now = is.met_now;
    of_path = λ c l in_list. elim (one_cases class c) [
      | inl e ↦ absurd (omega (arith, e.0, in_list, past))
      | inr e ↦ elim (is.of_path c l in_list) [
        | inl h ↦ inl h
        | inr h ↦ inr (omega (arith, h, e.1, times_push path class c))
      ]
    ];
  }
