-- Laws of the search through all classes.
use Rattle.std.proofs.Common.{◌≡◌, ◌≢◌, ◌<◌, ◌≤◌, ◌+◌, ◌⊎◌, inl, inr, ℕ, zero, suc, true, false, not, nat_eq, ◌==◌, nat_le, if◌then◌else◌, List, [], ◌∷◌, length, map, Option, None, Some, option_map, slice_index_or, replicate, slice_set, refl, sym, ap, subst, ◌∙◌, arith}
use Rattle.std.proofs.lemmas.Bool.{and_from, le-leb, lt-leb, leb-true, true≢false}
use Rattle.std.proofs.lemmas.Bool.Decides.{eqb_tells}
use Rattle.std.proofs.lemmas.List.{get_or-set_same, get_or-set_other, length-replicate}
use Rattle.std.specs.Option.{option_map_or, option_eq}
use Rattle.std.proofs.lemmas.Option.{same_Some, none-some}
use Rattle.cil_model.proofs.SameLaws.{both_first, both_second}
use Rattle.inheritance.specs.declared.changes.Declared.{Declared}
use Rattle.inheritance.specs.declared.changes.Change.{Change}
use Rattle.inheritance.specs.declared.changes.Source.{Source}
use Rattle.inheritance.specs.declared.changes.Source.TheVariants.{Nothing, Class, Time}
use Rattle.inheritance.specs.declared.forests.Forest.{Forest}
use Rattle.inheritance.specs.declared.scoped_tables.Entry.{Entry}
use Rattle.inheritance.specs.Changes.{latest_known, known_of, is_ordered, is_past, changes_of, found_from, AreUpTo, AddsChanges}
use Rattle.inheritance.specs.Lines.{base_in, line_within, Ends, index_in}
use Rattle.inheritance.proofs.LineLaws.{line_of_none}
use Rattle.inheritance.specs.ScopedTables.{pair_of, nearest_from, entry_in, height_of, source_of, IsEntered, HoldsSince, IsCorrectBefore}

pub past_later : (t : ℕ) (cs : List Change) → is_past t cs ≡ true → is_past (t + 1) cs ≡ true
past_later t [] h = refl
past_later t (c ∷ cs) h =
    let before : c.time ≤ t = leb-true c.time t (both_first _ _ h) in
    and_from _ _ (le-leb c.time (t + 1) (omega (arith, before))) (past_later t cs (both_second _ _ h))

up_to_later : (t : ℕ) (rows : List (List Change)) → AreUpTo t rows → AreUpTo (t + 1) rows
up_to_later t rows u = record { ordered = u.ordered; past = λ key. past_later t (changes_of rows key) (u.past key) }

-- a declaration is known by its class and index
abbrev unpair : Option (ℕ × ℕ) → Option Declared
unpair None = None
unpair (Some p) = Some (record { class = p.0; index = p.1 })

unpair_pair : (o : Option Declared) → unpair (pair_of o) ≡ o
unpair_pair None = refl
unpair_pair (Some d) = refl

same_pairs : (o other : Option Declared) → pair_of o ≡ pair_of other → o ≡ other
same_pairs o other e = sym (unpair_pair o) ∙ ap unpair e ∙ unpair_pair other

pub same_options : (o other : Option ℕ) → not (option_eq nat_eq o other) ≡ false → o ≡ other
same_options None None e = refl
same_options None (Some n) e = absurd (true≢false e)
same_options (Some n) None e = absurd (true≢false e)
same_options (Some m) (Some n) e = by_test (eqb_tells m n)
  where
    by_test : ((m == n) ≡ true) × (m ≡ n) ⊎ ((m == n) ≡ false) × (m ≢ n) → Some m ≡ Some n
    by_test (inl h) = ap Some h.1
    by_test (inr h) = absurd (true≢false (sym (ap not h.0) ∙ e))

module _ (forest : Forest) where
  abbrev bases : List (Option ℕ)
  bases = forest.bases.items

  abbrev index : ℕ → ℕ → Option ℕ
  index key class = index_in (map (λ v. v.items) forest.declared.items) key class

  nearest_nowhere : (key n : ℕ) → nearest_from forest key n None ≡ None
  nearest_nowhere key zero = refl
  nearest_nowhere key (suc n) = refl

  -- ---- where nothing is written

  holds_later : (rows : List (List Change)) (entries : List (Option Entry)) (t : ℕ) (current : Option ℕ) → HoldsSince forest rows entries t current → HoldsSince forest rows entries (t + 1) current
  holds_later rows entries t None s = λ key u h k. s key u h (omega (arith, k))
  holds_later rows entries t (Some class) s = (s.0, s.1, λ key u h k. s.2 key u h (omega (arith, k)))

  pub right_later : (t : ℕ) (rows : List (List Change)) (entries : List (Option Entry)) (current : Option ℕ) → IsCorrectBefore forest t rows entries current → IsCorrectBefore forest (t + 1) rows entries current
  right_later t rows entries current r = record {
    width = r.width;
    up_to = up_to_later t rows r.up_to;
    earlier = λ class entry e. let h : entry.time < t = r.earlier class entry e in omega (arith, h);
    entries_are_entered = r.entries_are_entered;
    base_is_entered = r.base_is_entered;
    holds_since = holds_later rows entries t current r.holds_since;
  }

  -- ---- where the keys of a class find another declaration

  module _ (t : ℕ) (rows new : List (List Change)) (entries : List (Option Entry)) (current : Option ℕ) (r : IsCorrectBefore forest t rows entries current)
      (class : ℕ) (source : Source) (a : AddsChanges rows new (slice_index_or (map (λ v. v.items) forest.declared.items) class []) 0 source t) where
    before : (key u : ℕ) → key < forest.keys → u < t → known_of new key u ≡ known_of rows key u
    before key u h k =
        let fails : nat_le t u ≡ false = lt-leb t u k in
        a.found key u (omega (arith, h, r.width)) ∙ ap (λ b. if b then option_map_or (found_from rows source key) (index key class) (known_of rows key u) else known_of rows key u) fails

    following : (key u : ℕ) → key < forest.keys → t ≤ u → known_of new key u ≡ option_map_or (found_from rows source key) (index key class) (known_of rows key u)
    following key u h k =
        let passes : nat_le t u ≡ true = le-leb t u k in
        a.found key u (omega (arith, h, r.width)) ∙ ap (λ b. if b then option_map_or (found_from rows source key) (index key class) (known_of rows key u) else known_of rows key u) passes

    entered_still : (n : ℕ) (entry : Entry) → entry_in entries n ≡ Some entry → IsEntered forest new n entry
    entered_still n entry e =
        let was : IsEntered forest rows n entry = r.entries_are_entered n entry e in
        record { length_is_bounded = was.length_is_bounded; ended = was.ended; lookup_is_correct = λ key m h k. ap pair_of (before key entry.time h (r.earlier n entry e)) ∙ was.lookup_is_correct key m h k }

    -- what is found at the time, before the class's keys are
    found_holds : (now : Option ℕ) → HoldsSince forest rows entries t now → (height : ℕ) → height_of entries now ≡ Some height → (key m u : ℕ) → key < forest.keys → height ≤ m → t ≤ u →
        pair_of (known_of rows key u) ≡ nearest_from forest key m now
    found_holds None s height e key m u h k l = ap pair_of (s key u h l) ∙ sym (nearest_nowhere key m)
    found_holds (Some n) s height e key m u h k l =
        let same : s.0.length ≡ height = same_Some s.0.length height (sym (ap (option_map (λ (x : Entry). x.length)) s.1) ∙ e) in
        ap pair_of (s.2 key u h l) ∙ (r.entries_are_entered n s.0 s.1).lookup_is_correct key m h (omega (arith, same, k))

    -- where the current class's bases end, no more classes are found
    line_holds : (now : Option ℕ) → HoldsSince forest rows entries t now → (height m : ℕ) → height_of entries now ≡ Some height → height ≤ m → line_within bases m now ≡ line_within bases height now
    line_holds None s height m e k = line_of_none bases m ∙ sym (line_of_none bases height)
    line_holds (Some n) s height m e k =
        let same : s.0.length ≡ height = same_Some s.0.length height (sym (ap (option_map (λ (x : Entry). x.length)) s.1) ∙ e) in
        (r.entries_are_entered n s.0 s.1).ended m (omega (arith, same, k)) ∙ ap (λ h. line_within bases h (Some n)) same

    steady : (now : Option ℕ) → HoldsSince forest rows entries t now → (key u w : ℕ) → key < forest.keys → t ≤ u → t ≤ w → known_of rows key u ≡ known_of rows key w
    steady None s key u w h k l = s key u h k ∙ sym (s key w h l)
    steady (Some n) s key u w h k l = s.2 key u h k ∙ sym (s.2 key w h l)

  -- ---- a class is entered

  module _ (t : ℕ) (rows new : List (List Change)) (entries : List (Option Entry)) (current : Option ℕ) (r : IsCorrectBefore forest t rows entries current)
      (class height : ℕ) (a : AddsChanges rows new (slice_index_or (map (λ v. v.items) forest.declared.items) class []) 0 (Class class) t)
      (inside : class < length entries) (base : base_in bases class ≡ current) (high : height_of entries current ≡ Some height) (low : height < forest.most) where
    abbrev made : Entry
    made = record { time = t; length = height + 1 }

    abbrev after : List (Option Entry)
    after = slice_set entries class (Some made)

    after_same : entry_in after class ≡ Some made
    after_same = get_or-set_same entries class (Some made) None inside

    after_other : (n : ℕ) → n ≢ class → entry_in after n ≡ entry_in entries n
    after_other n h = get_or-set_other entries class n (Some made) None h

    own_index : (o : Option ℕ) (x : Option Declared) (further : Option (ℕ × ℕ)) (key : ℕ) → pair_of x ≡ further → pair_of (option_map_or (found_from rows (Class class) key) o x) ≡ option_map_or (λ p. Some (class, p)) o further
    own_index None x further key e = e
    own_index (Some p) x further key e = refl

    made_right : (key m : ℕ) → key < forest.keys → height + 1 ≤ m → pair_of (known_of new key t) ≡ nearest_from forest key m (Some class)
    made_right key zero h k = absurd (omega (arith, k))
    made_right key (suc m) h k =
        let further : pair_of (known_of rows key t) ≡ nearest_from forest key m (base_in bases class) = found_holds t rows new entries current r class (Class class) a current r.holds_since height high key m t h (omega (arith, k)) (omega arith) ∙ ap (nearest_from forest key m) (sym base) in
        ap pair_of (following t rows new entries current r class (Class class) a key t h (omega arith)) ∙ own_index (index key class) (known_of rows key t) (nearest_from forest key m (base_in bases class)) key further

    made_ended : (m : ℕ) → height + 1 ≤ m → line_within bases m (Some class) ≡ line_within bases (height + 1) (Some class)
    made_ended zero k = absurd (omega (arith, k))
    made_ended (suc m) k =
        let one : height + 1 ≡ suc height = omega arith in
        let further : line_within bases m (base_in bases class) ≡ line_within bases height (base_in bases class) =
        ap (line_within bases m) base ∙ line_holds t rows new entries current r class (Class class) a current r.holds_since height m high (omega (arith, k)) ∙ sym (ap (line_within bases height) base) in
        ap (λ ns. class ∷ ns) further ∙ sym (ap (λ h. line_within bases h (Some class)) one)

    made_entered : IsEntered forest new class made
    made_entered = record { length_is_bounded = omega (arith, low); ended = made_ended; lookup_is_correct = made_right }

    entered_after : (n : ℕ) (entry : Entry) → ((n == class) ≡ true) × (n ≡ class) ⊎ ((n == class) ≡ false) × (n ≢ class) → entry_in after n ≡ Some entry → IsEntered forest new n entry
    entered_after n entry (inl h) e =
        let same : made ≡ entry = same_Some made entry (sym after_same ∙ ap (entry_in after) (sym h.1) ∙ e) in
        subst (λ k. IsEntered forest new k entry) (sym h.1) (subst (IsEntered forest new class) same made_entered)
    entered_after n entry (inr h) e = entered_still t rows new entries current r class (Class class) a n entry (sym (after_other n h.1) ∙ e)

    earlier_after : (n : ℕ) (entry : Entry) → ((n == class) ≡ true) × (n ≡ class) ⊎ ((n == class) ≡ false) × (n ≢ class) → entry_in after n ≡ Some entry → entry.time < t + 1
    earlier_after n entry (inl h) e =
        let same : made ≡ entry = same_Some made entry (sym after_same ∙ ap (entry_in after) (sym h.1) ∙ e) in
        subst (λ (x : Entry). x.time < t + 1) same (omega arith)
    earlier_after n entry (inr h) e = let was : entry.time < t = r.earlier n entry (sym (after_other n h.1) ∙ e) in omega (arith, was)

    still : (n : ℕ) (entry : Entry) → entry_in entries n ≡ Some entry → ((n == class) ≡ true) × (n ≡ class) ⊎ ((n == class) ≡ false) × (n ≢ class) → (other : Entry) × (entry_in after n ≡ Some other)
    still n entry e (inl h) = (made, ap (entry_in after) h.1 ∙ after_same)
    still n entry e (inr h) = (entry, after_other n h.1 ∙ e)

    of_current : (b : ℕ) (now : Option ℕ) → now ≡ Some b → HoldsSince forest rows entries t now → (other : Entry) × (entry_in after b ≡ Some other)
    of_current b None e s = absurd (none-some b e)
    of_current b (Some n) e s =
        let same : n ≡ b = same_Some n b e in
        still b s.0 (ap (entry_in entries) (sym same) ∙ s.1) (eqb_tells b class)

    based_after : (n b : ℕ) (entry : Entry) → ((n == class) ≡ true) × (n ≡ class) ⊎ ((n == class) ≡ false) × (n ≢ class) → entry_in after n ≡ Some entry → base_in bases n ≡ Some b → (other : Entry) × (entry_in after b ≡ Some other)
    based_after n b entry (inl h) e k = of_current b current (sym base ∙ ap (base_in bases) (sym h.1) ∙ k) r.holds_since
    based_after n b entry (inr h) e k =
        let found : (other : Entry) × (entry_in entries b ≡ Some other) = r.base_is_entered n b entry (sym (after_other n h.1) ∙ e) k in
        still b found.0 found.1 (eqb_tells b class)

    holds_after : (key u : ℕ) → key < forest.keys → t + 1 ≤ u → known_of new key u ≡ known_of new key t
    holds_after key u h k =
        following t rows new entries current r class (Class class) a key u h (omega (arith, k)) ∙
        ap (option_map_or (found_from rows (Class class) key) (index key class)) (steady t rows new entries current r class (Class class) a current r.holds_since key u t h (omega (arith, k)) (omega arith)) ∙
        sym (following t rows new entries current r class (Class class) a key t h (omega arith))

    pub right_entered : IsCorrectBefore forest (t + 1) new after (Some class)
    right_entered = record {
      width = a.width ∙ r.width;
      up_to = up_to_later t new (a.up_to r.up_to);
      earlier = λ n entry e. earlier_after n entry (eqb_tells n class) e;
      entries_are_entered = λ n entry e. entered_after n entry (eqb_tells n class) e;
      base_is_entered = λ n b entry e k. based_after n b entry (eqb_tells n class) e k;
      holds_since = (made, after_same, holds_after);
    }

  -- ---- the search goes back

  module _ (t : ℕ) (rows new : List (List Change)) (entries : List (Option Entry)) (class : ℕ) (r : IsCorrectBefore forest t rows entries (Some class))
      (a : AddsChanges rows new (slice_index_or (map (λ v. v.items) forest.declared.items) class []) 0 (source_of entries (base_in bases class)) t) where
    abbrev own : Entry
    own = r.holds_since.0

    -- a key that the class does not declare finds what its base finds
    inherited : (key m u : ℕ) → key < forest.keys → own.length ≤ m → t ≤ u → index key class ≡ None → pair_of (known_of rows key u) ≡ nearest_from forest key m (base_in bases class)
    inherited key m u h k l absent =
        ap pair_of (r.holds_since.2 key u h l) ∙ (r.entries_are_entered class own r.holds_since.1).lookup_is_correct key (suc m) h (omega (arith, k)) ∙
        ap (λ o. option_map_or (λ p. Some (class, p)) o (nearest_from forest key m (base_in bases class))) absent

    holds_left : (base : Option ℕ) → base_in bases class ≡ base → HoldsSince forest new entries (t + 1) base
    holds_left None e = λ key u h k. by_index key u h k (index key class) refl
      where
        by_index : (key u : ℕ) → key < forest.keys → t + 1 ≤ u → (o : Option ℕ) → index key class ≡ o → known_of new key u ≡ None
        by_index key u h k o p =
            following t rows new entries (Some class) r class _ a key u h (omega (arith, k)) ∙ ap (λ b. option_map_or (found_from rows (source_of entries b) key) (index key class) (known_of rows key u)) e ∙
            by_kind o p
          where
            by_kind : (o : Option ℕ) → index key class ≡ o → option_map_or (found_from rows Nothing key) (index key class) (known_of rows key u) ≡ None
            by_kind (Some n) q = ap (λ x. option_map_or (found_from rows Nothing key) x (known_of rows key u)) q
            by_kind None q =
                ap (λ x. option_map_or (found_from rows Nothing key) x (known_of rows key u)) q ∙
                same_pairs (known_of rows key u) None (inherited key own.length u h (omega arith) (omega (arith, k)) q ∙ ap (nearest_from forest key own.length) e ∙ nearest_nowhere key own.length)
    holds_left (Some b) e = (other.0, other.1, λ key u h k. by_index key u h k (index key class) refl)
      where
        other : (x : Entry) × (entry_in entries b ≡ Some x)
        other = r.base_is_entered class b own r.holds_since.1 e

        from : source_of entries (base_in bases class) ≡ Time other.0.time
        from = ap (source_of entries) e ∙ ap (λ o. option_map_or (λ (x : Entry). Time x.time) o Nothing) other.1

        by_kind : (key u : ℕ) → key < forest.keys → t + 1 ≤ u → (o : Option ℕ) → index key class ≡ o → option_map_or (found_from rows (Time other.0.time) key) o (known_of rows key u) ≡ known_of rows key other.0.time
        by_kind key u h k (Some n) q = refl
        by_kind key u h k None q =
            let m = own.length + other.0.length in
            same_pairs (known_of rows key u) (known_of rows key other.0.time) (
            inherited key m u h (omega arith) (omega (arith, k)) q ∙ ap (nearest_from forest key m) e ∙ sym ((r.entries_are_entered b other.0 other.1).lookup_is_correct key m h (omega arith)))

        by_index : (key u : ℕ) → key < forest.keys → t + 1 ≤ u → (o : Option ℕ) → index key class ≡ o → known_of new key u ≡ known_of new key other.0.time
        by_index key u h k o p =
            following t rows new entries (Some class) r class _ a key u h (omega (arith, k)) ∙
            ap (λ s. option_map_or (found_from rows s key) (index key class) (known_of rows key u)) from ∙
            by_kind key u h k (index key class) refl ∙
            sym (before t rows new entries (Some class) r class _ a key other.0.time h (r.earlier b other.0 other.1))

    pub right_left : IsCorrectBefore forest (t + 1) new entries (base_in bases class)
    right_left = record {
      width = a.width ∙ r.width;
      up_to = up_to_later t new (a.up_to r.up_to);
      earlier = λ n entry e. let was : entry.time < t = r.earlier n entry e in omega (arith, was);
      entries_are_entered = entered_still t rows new entries (Some class) r class _ a;
      base_is_entered = r.base_is_entered;
      holds_since = holds_left (base_in bases class) refl;
    }

-- the bases of a class that was entered end
pub entered_ends : (forest : Forest) (rows : List (List Change)) (class : ℕ) (entry : Entry) → IsEntered forest rows class entry → Ends forest.bases.items forest.most class
entered_ends forest rows class entry e =
    let more : entry.length ≤ suc forest.most = omega (arith, e.length_is_bounded) in e.ended (suc forest.most) more ∙ sym (e.ended forest.most e.length_is_bounded)

-- ---- at the start

rows_empty : (n key : ℕ) → changes_of (replicate n []) key ≡ []
rows_empty zero key = refl
rows_empty (suc n) zero = refl
rows_empty (suc n) (suc key) = rows_empty n key

entries_empty : (n class : ℕ) → entry_in (replicate n None) class ≡ None
entries_empty zero class = refl
entries_empty (suc n) zero = refl
entries_empty (suc n) (suc class) = entries_empty n class

pub right_at_start : (forest : Forest) (n : ℕ) → IsCorrectBefore forest 0 (replicate forest.keys []) (replicate n None) None
right_at_start forest n = record {
  width = length-replicate forest.keys [];
  up_to = record { ordered = λ key. ap is_ordered (rows_empty forest.keys key); past = λ key. ap (is_past 0) (rows_empty forest.keys key) };
  earlier = λ class entry e. absurd (none-some entry (sym (entries_empty n class) ∙ e));
  entries_are_entered = λ class entry e. absurd (none-some entry (sym (entries_empty n class) ∙ e));
  base_is_entered = λ class base entry e k. absurd (none-some entry (sym (entries_empty n class) ∙ e));
  holds_since = λ key t h k. ap (latest_known None t) (rows_empty forest.keys key);
}
