-- One step of a search, and its end.
use Rattle.std.proofs.Common.{◌≡◌, ◌≤◌, ◌<◌, ◌+◌, ◌⊎◌, ℕ, zero, suc, ℤ, pos, ◌≤ℤ◌, Bool, true, IsTrue, List, [], ◌∷◌, ◌++◌, length, Option, Some, None, slice_get, slice_set, refl, inl, inr, sym, ap, ◌∙◌, subst, arith}
use Rattle.std.specs.Prelude.{Contains}
use Rattle.std.proofs.lemmas.List.Elements.{Contains-push, Contains-push_cases, Contains-append_left}
use Rattle.std.proofs.lemmas.Option.{slice_get_within, same_Some}
use Rattle.std.proofs.lemmas.List.{length-set}
use Rattle.cil_model.specs.declared.types.DeclaredType.{DeclaredType}
use Rattle.cil_model.specs.declared.trees.Tree.{Tree}
use Rattle.cil_model.specs.declared.trees.Code.{Code}
use Rattle.cil_model.specs.declared.trees.Line.{Line}
use Rattle.cil_model.specs.Bodies.{pc_of, falls_through, labels_of}
use Rattle.cil_model.specs.TypeTree.{StackType}
use Rattle.cil_model.specs.FlowRules.{flow}
use Rattle.cil_model.specs.Typings.{Typing, AreBelow, Reaches, ReachesLabel, FlowsOn, IsCodeTyping}
use Rattle.cil_model.specs.Legality.{IsLegal}
use Rattle.cil_model.proofs.Lists.{none_is_some, set_is_there}
use Rattle.cil_model.proofs.FlowLaws.{flow_down}
use Rattle.verifier.specs.StackMerges.{AreMerged, AreApart}
use Rattle.verifier.specs.Tables.{IsPending, AreLow, IsUnder, ReachesAll, HasRisen, CannotRise, AreWays, IsDecided, IsUnfinished}
use Rattle.verifier.proofs.StackLaws.{below_itself, below_through, as_high}

-- ---- lists

-- an index is the one that was set, or holds what it held
set_cases : {X : Type 0} (xs : List X) (n : ℕ) (x : X) (k : ℕ) → (k ≡ n) ⊎ (slice_get (slice_set xs n x) k ≡ slice_get xs k)
set_cases [] n x k = inr refl
set_cases (z ∷ zs) zero x zero = inl refl
set_cases (z ∷ zs) zero x (suc k) = inr refl
set_cases (z ∷ zs) (suc n) x zero = inr refl
set_cases {X} (z ∷ zs) (suc n) x (suc k) = by_case (set_cases zs n x k)
  where
    by_case : (k ≡ n) ⊎ (slice_get (slice_set zs n x) k ≡ slice_get zs k) → (suc k ≡ suc n) ⊎ (slice_get (slice_set zs n x) k ≡ slice_get zs k)
    by_case (inl e) = inl (ap suc e)
    by_case (inr e) = inr e

present : {X : Type 0} (xs : List X) (n : ℕ) → n < length xs → (x : X) × (slice_get xs n ≡ Some x)
present [] n h = absurd (omega (arith, h))
present (x ∷ xs) zero h = (x, refl)
present (x ∷ xs) (suc n) h = present xs n (omega (arith, h))

pub nothing_contained : {X A : Type 0} (x : X) → Contains [] x → A
nothing_contained {X} {A} x (k, inside, e) = absurd (omega (arith, inside))

pub one_contained : {X : Type 0} (x y : X) → Contains (y ∷ []) x → y ≡ x
one_contained {X} x y h = by_case (Contains-push_cases [] y x h)
  where
    by_case : Contains [] x ⊎ (y ≡ x) → y ≡ x
    by_case (inl c) = nothing_contained x c
    by_case (inr e) = e

-- ---- flags

flag_set : (pending : List Bool) (pc : ℕ) → pc < length pending → IsPending (slice_set pending pc true) pc
flag_set pending pc inside =
    let held : (b : Bool) × (slice_get pending pc ≡ Some b) = present pending pc inside in
    set_is_there pending pc true held.0 held.1

flag_stays : (pending : List Bool) (way pc : ℕ) → IsPending pending pc → IsPending (slice_set pending way true) pc
flag_stays pending way pc c = by_case (set_cases pending way true pc)
  where
    by_case : (pc ≡ way) ⊎ (slice_get (slice_set pending way true) pc ≡ slice_get pending pc) → IsPending (slice_set pending way true) pc
    by_case (inr f) = f ∙ c
    by_case (inl same) = subst (λ v. IsPending (slice_set pending way true) v) (sym same) (set_is_there pending way true true (ap (slice_get pending) (sym same) ∙ c))

flag_cases : (pending : List Bool) (way pc : ℕ) → IsPending (slice_set pending way true) pc → IsPending pending pc ⊎ (way ≡ pc)
flag_cases pending way pc c = by_case (set_cases pending way true pc)
  where
    by_case : (pc ≡ way) ⊎ (slice_get (slice_set pending way true) pc ≡ slice_get pending pc) → IsPending pending pc ⊎ (way ≡ pc)
    by_case (inr f) = inl (sym f ∙ c)
    by_case (inl same) = inr (sym same)

-- ---- raising

module _ (tree : Tree) (max_stack : ℤ) (after : List StackType) where
  pub next_way : (ways : List ℕ) (way : ℕ) (found middle later : Typing) (pending mid_pending still_pending : List Bool) →
      HasRisen tree max_stack after ways found pending middle mid_pending → HasRisen tree max_stack after (way ∷ []) middle mid_pending later still_pending →
      HasRisen tree max_stack after (ways ++ way ∷ []) found pending later still_pending
  next_way ways way found middle later pending mid_pending still_pending h k = record {
    whole = k.whole ∙ h.whole;
    reached = λ w c. arrived w (Contains-push_cases ways way w c);
    kept = λ pc stack r. k.kept pc stack (h.kept pc stack r);
    others = λ pc. changed pc (h.others pc) (k.others pc);
    waiting = λ pc c. k.waiting pc (h.waiting pc c);
    flags = k.flags ∙ h.flags;
    least = λ typing under all. k.least typing (h.least typing under (λ w c. all w (Contains-append_left ways (way ∷ []) w c)))
        (λ w c. all w (subst (λ v. Contains (ways ++ way ∷ []) v) (one_contained w way c) (Contains-push ways way)));
    low = λ l. k.low (h.low l);
  }
    where
      arrived : (w : ℕ) → Contains ways w ⊎ (way ≡ w) → Reaches tree later after w
      arrived w (inl c) = k.kept w after (h.reached w c)
      arrived w (inr e) = subst (λ v. Reaches tree later after v) e (k.reached way (Contains-push [] way))

      changed : (pc : ℕ) → (slice_get middle pc ≡ slice_get found pc) ⊎ IsPending mid_pending pc → (slice_get later pc ≡ slice_get middle pc) ⊎ IsPending still_pending pc →
          (slice_get later pc ≡ slice_get found pc) ⊎ IsPending still_pending pc
      changed pc first (inr c) = inr c
      changed pc (inr c) (inl f) = inr (k.waiting pc c)
      changed pc (inl e) (inl f) = inl (f ∙ e)

  -- what was found reaches so far already
  pub rise_none : (found : Typing) (pending : List Bool) (way : ℕ) → Reaches tree found after way → HasRisen tree max_stack after (way ∷ []) found pending found pending
  rise_none found pending way r = record {
    whole = refl;
    reached = λ w c. subst (λ v. Reaches tree found after v) (one_contained w way c) r;
    kept = λ pc stack s. s;
    others = λ pc. inl refl;
    waiting = λ pc c. c;
    flags = refl;
    least = λ typing under ways. under;
    low = λ l. l;
  }

  -- one pc rises to a stack
  rise_to : (found : Typing) (pending : List Bool) (way : ℕ) (row : Option (List StackType)) (stack : List StackType) → length pending ≡ length found → slice_get found way ≡ Some row →
      ((old : List StackType) → row ≡ Some old → AreBelow tree old stack) → AreBelow tree after stack →
      ((typing : Typing) → IsUnder tree found typing → Reaches tree typing after way → Reaches tree typing stack way) →
      (AreLow max_stack found → pos (length stack) ≤ℤ max_stack) →
      HasRisen tree max_stack after (way ∷ []) found pending (slice_set found way (Some stack)) (slice_set pending way true)
  rise_to found pending way row stack flags at over above closest lower = record {
    whole = length-set found way (Some stack);
    reached = λ w c. subst (λ v. Reaches tree later after v) (one_contained w way c) (stack, here, above);
    kept = λ pc old r. stays pc old r (set_cases found way (Some stack) pc);
    others = λ pc. elsewhere pc (set_cases found way (Some stack) pc);
    waiting = λ pc c. flag_stays pending way pc c;
    flags = length-set pending way true;
    least = λ typing under all. λ pc held e. below_typing typing under (all way (Contains-push [] way)) pc held e (set_cases found way (Some stack) pc);
    low = λ l. λ pc held e. no_higher l pc held e (set_cases found way (Some stack) pc);
  }
    where
      later : Typing
      later = slice_set found way (Some stack)

      here : slice_get (slice_set found way (Some stack)) way ≡ Some (Some stack)
      here = set_is_there found way (Some stack) row at

      flagged : IsPending (slice_set pending way true) way
      flagged =
          let inside : way < length found = slice_get_within found way row at in
          flag_set pending way (omega (arith, flags, inside))

      stays : (pc : ℕ) (old : List StackType) → Reaches tree found old pc → (pc ≡ way) ⊎ (slice_get (slice_set found way (Some stack)) pc ≡ slice_get found pc) → Reaches tree (slice_set found way (Some stack)) old pc
      stays pc old (held, e, under) (inr f) = (held, f ∙ e, under)
      stays pc old (held, e, under) (inl same) =
          let own : row ≡ Some held = same_Some row (Some held) (sym at ∙ ap (slice_get found) (sym same) ∙ e) in
          (stack, ap (slice_get (slice_set found way (Some stack))) same ∙ here, below_through tree old held stack under (over held own))

      elsewhere : (pc : ℕ) → (pc ≡ way) ⊎ (slice_get (slice_set found way (Some stack)) pc ≡ slice_get found pc) →
          (slice_get (slice_set found way (Some stack)) pc ≡ slice_get found pc) ⊎ IsPending (slice_set pending way true) pc
      elsewhere pc (inr f) = inl f
      elsewhere pc (inl same) = inr (subst (λ v. IsPending (slice_set pending way true) v) (sym same) flagged)

      its_stack : (pc : ℕ) (held : List StackType) → slice_get (slice_set found way (Some stack)) pc ≡ Some (Some held) → pc ≡ way → stack ≡ held
      its_stack pc held e same = same_Some stack held (same_Some (Some stack) (Some held) (sym here ∙ ap (slice_get (slice_set found way (Some stack))) (sym same) ∙ e))

      below_typing : (typing : Typing) → IsUnder tree found typing → Reaches tree typing after way → (pc : ℕ) (held : List StackType) → slice_get (slice_set found way (Some stack)) pc ≡ Some (Some held) →
          (pc ≡ way) ⊎ (slice_get (slice_set found way (Some stack)) pc ≡ slice_get found pc) → Reaches tree typing held pc
      below_typing typing under r pc held e (inr f) = under pc held (sym f ∙ e)
      below_typing typing under r pc held e (inl same) =
          subst (λ v. Reaches tree typing v pc) (its_stack pc held e same) (subst (λ v. Reaches tree typing stack v) (sym same) (closest typing under r))

      no_higher : AreLow max_stack found → (pc : ℕ) (held : List StackType) → slice_get (slice_set found way (Some stack)) pc ≡ Some (Some held) →
          (pc ≡ way) ⊎ (slice_get (slice_set found way (Some stack)) pc ≡ slice_get found pc) → pos (length held) ≤ℤ max_stack
      no_higher l pc held e (inr f) = l pc held (sym f ∙ e)
      no_higher l pc held e (inl same) = subst (λ (v : List StackType). pos (length v) ≤ℤ max_stack) (its_stack pc held e same) (lower l)

  pub rise_first : (found : Typing) (pending : List Bool) (way : ℕ) → length pending ≡ length found → slice_get found way ≡ Some None → pos (length after) ≤ℤ max_stack →
      HasRisen tree max_stack after (way ∷ []) found pending (slice_set found way (Some after)) (slice_set pending way true)
  rise_first found pending way flags at small =
      rise_to found pending way None after flags at (λ old e. none_is_some old e) (below_itself tree after) (λ typing under r. r) (λ l. small)

  pub rise_merged : (found : Typing) (pending : List Bool) (way : ℕ) (old stack : List StackType) → length pending ≡ length found → slice_get found way ≡ Some (Some old) → AreMerged tree old after stack →
      HasRisen tree max_stack after (way ∷ []) found pending (slice_set found way (Some stack)) (slice_set pending way true)
  rise_merged found pending way old stack flags at m =
      rise_to found pending way (Some old) stack flags at (λ held e. subst (λ v. AreBelow tree v stack) (same_Some old held e) m.above_first) m.above_second closest
      (λ l. subst (λ (n : ℕ). pos n ≤ℤ max_stack) (as_high tree old stack m.above_first) (l way old at))
    where
      over_both : (typing : Typing) → Reaches tree typing old way → Reaches tree typing after way → Reaches tree typing stack way
      over_both typing (held, e, under) (other, f, below) =
          let same : held ≡ other = same_Some held other (same_Some (Some held) (Some other) (sym e ∙ f)) in
          (held, e, m.least held under (subst (λ v. AreBelow tree after v) (sym same) below))

      closest : (typing : Typing) → IsUnder tree found typing → Reaches tree typing after way → Reaches tree typing stack way
      closest typing under r = over_both typing (under way old at) r

  -- the merge is what was found
  pub rise_same : (found : Typing) (pending : List Bool) (way : ℕ) (old : List StackType) → slice_get found way ≡ Some (Some old) → AreMerged tree old after old → HasRisen tree max_stack after (way ∷ []) found pending found pending
  rise_same found pending way old at m = rise_none found pending way (old, at, m.above_second)

  -- ---- what can't rise

  reached_alone : (typing : Typing) (way : ℕ) → ReachesAll tree typing after (way ∷ []) → Reaches tree typing after way
  reached_alone typing way all = all way (Contains-push [] way)

  pub off_the_end : (found : Typing) (way : ℕ) → length found ≤ way → CannotRise tree max_stack after (way ∷ []) found
  off_the_end found way past typing whole low under all =
      let r : Reaches tree typing after way = reached_alone typing way all in
      let inside : way < length typing = slice_get_within typing way (Some r.0) r.1 in
      omega (arith, past, whole, inside)

  pub too_high : (found : Typing) (way : ℕ) → (pos (length after) ≤ℤ max_stack → ⊥) → CannotRise tree max_stack after (way ∷ []) found
  too_high found way high typing whole low under all =
      let r : Reaches tree typing after way = reached_alone typing way all in
      high (subst (λ (n : ℕ). pos n ≤ℤ max_stack) (sym (as_high tree after r.0 r.2)) (low way r.0 r.1))

  pub apart : (found : Typing) (way : ℕ) (old : List StackType) → slice_get found way ≡ Some (Some old) → AreApart tree old after → CannotRise tree max_stack after (way ∷ []) found
  apart found way old at none typing whole low under all = both (under way old at) (reached_alone typing way all)
    where
      both : Reaches tree typing old way → Reaches tree typing after way → ⊥
      both (held, e, below) (other, f, beneath) =
          let same : held ≡ other = same_Some held other (same_Some (Some held) (Some other) (sym e ∙ f)) in
          none held below (subst (λ v. AreBelow tree after v) (sym same) beneath)

  -- along more ways it can't either
  pub no_next_way : (ways rest : List ℕ) (way : ℕ) (found middle : Typing) (pending mid_pending : List Bool) → HasRisen tree max_stack after ways found pending middle mid_pending →
      CannotRise tree max_stack after (way ∷ []) middle → ((w : ℕ) → Contains (ways ++ way ∷ []) w → Contains rest w) → CannotRise tree max_stack after rest found
  no_next_way ways rest way found middle pending mid_pending h refused among typing whole low under all =
      refused typing (whole ∙ sym h.whole) low (h.least typing under (λ w c. all w (among w (Contains-append_left ways (way ∷ []) w c))))
      (λ w c. all w (subst (λ v. Contains rest v) (one_contained w way c) (among way (Contains-push ways way))))

-- ---- a whole search

module _ (tree : Tree) (arguments : List DeclaredType) (return_type : Option DeclaredType) (code : Code) where
  abbrev Unfinished : Typing → List Bool → Type 0
  Unfinished = IsUnfinished tree arguments return_type code

  abbrev Decided : Typing → ℕ → Type 0
  Decided = IsDecided tree arguments return_type code

  abbrev CodeTyping : Typing → Type 0
  CodeTyping = IsCodeTyping tree arguments return_type code

  start_is_empty : (found : Typing) → Reaches tree found [] 0 → slice_get found 0 ≡ Some (Some [])
  start_is_empty found ([], e, h) = e
  start_is_empty found (a ∷ rest, e, h) = absurd h

  pub finished : (found : Typing) (pending : List Bool) → Unfinished found pending → ((pc : ℕ) → IsPending pending pc → ⊥) → CodeTyping found
  finished found pending u none = record {
    whole = u.whole;
    start = start_is_empty found u.start;
    height = u.low;
    each = λ pc line stack e f. all_decided pc (u.decided pc) line stack e f;
  }
    where
      all_decided : (pc : ℕ) → Decided found pc ⊎ IsPending pending pc → Decided found pc
      all_decided pc (inl s) = s
      all_decided pc (inr c) = absurd (none pc c)

  -- ---- the beginning

  empty_under : (found : Typing) → ((pc : ℕ) (stack : List StackType) → slice_get found pc ≡ Some (Some stack) → ⊥) → (typing : Typing) → IsUnder tree found typing
  empty_under found none typing pc stack e = absurd (none pc stack e)

  starts : (typing : Typing) → CodeTyping typing → ReachesAll tree typing [] (0 ∷ [])
  starts typing t way c = subst (λ v. Reaches tree typing [] v) (one_contained way 0 c) ([], t.start, tt)

  pub begun : (found later : Typing) (pending still_pending : List Bool) → length found ≡ length code.lines → ((pc : ℕ) (stack : List StackType) → slice_get found pc ≡ Some (Some stack) → ⊥) →
      HasRisen tree code.max_stack [] (0 ∷ []) found pending later still_pending → Unfinished later still_pending
  begun found later pending still_pending same none h = record {
    whole = h.whole ∙ same;
    start = h.reached 0 (Contains-push [] 0);
    low = h.low (λ pc stack e. absurd (none pc stack e));
    decided = λ pc. unmapped pc (h.others pc);
    under = λ typing t. h.least typing (empty_under found none typing) (starts typing t);
  }
    where
      unmapped : (pc : ℕ) → (slice_get later pc ≡ slice_get found pc) ⊎ IsPending still_pending pc → Decided later pc ⊎ IsPending still_pending pc
      unmapped pc (inr c) = inr c
      unmapped pc (inl e) = inl (λ line stack at held. absurd (none pc stack (sym e ∙ held)))

  pub not_begun : (found : Typing) → length found ≡ length code.lines → ((pc : ℕ) (stack : List StackType) → slice_get found pc ≡ Some (Some stack) → ⊥) →
      CannotRise tree code.max_stack [] (0 ∷ []) found → (typing : Typing) → CodeTyping typing → ⊥
  not_begun found same none refused typing t = refused typing (t.whole ∙ sym same) t.height (empty_under found none typing) (starts typing t)

  -- ---- a visit

  -- a pc that is pending and mapped to nothing needs no visit
  pub passed_over : (found : Typing) (pending : List Bool) (pc : ℕ) → Unfinished found (slice_set pending pc true) → ((stack : List StackType) → slice_get found pc ≡ Some (Some stack) → ⊥) → Unfinished found pending
  passed_over found pending pc u none = record {
    whole = u.whole;
    start = u.start;
    low = u.low;
    decided = λ p. by_case p (u.decided p);
    under = u.under;
  }
    where
      by_push : (p : ℕ) → IsPending pending p ⊎ (pc ≡ p) → Decided found p ⊎ IsPending pending p
      by_push p (inl c) = inr c
      by_push p (inr e) = inl (λ line stack at held. absurd (none stack (ap (slice_get found) e ∙ held)))

      by_case : (p : ℕ) → Decided found p ⊎ IsPending (slice_set pending pc true) p → Decided found p ⊎ IsPending pending p
      by_case p (inl s) = inl s
      by_case p (inr c) = by_push p (flag_cases pending pc p c)

  along : (typing : Typing) (pc : ℕ) (line : Line) (lower upper : List StackType) (ways : List ℕ) → AreWays code pc line ways → AreBelow tree lower upper → FlowsOn tree code typing pc line upper → ReachesAll tree typing lower ways
  along typing pc line lower upper ways w below on way c = by_case (w.only way c)
    where
      lowered : Reaches tree typing upper way → Reaches tree typing lower way
      lowered (stack, e, h) = (stack, e, below_through tree lower upper stack below h)

      by_case : (IsTrue (falls_through line.instruction) × (way ≡ pc + 1)) ⊎ ((label : List ℕ) × Contains (labels_of line.instruction) label × (pc_of label code.lines ≡ Some way)) → Reaches tree typing lower way
      by_case (inl (falls, e)) = lowered (subst (λ v. Reaches tree typing upper v) (sym e) (on.falls falls))
      by_case (inr (label, among, e)) = lowered (subst (λ (v : Option ℕ). ReachesLabel tree typing upper v) e (on.branches label among))

  continues : (typing : Typing) (pc : ℕ) (line : Line) (after : List StackType) (ways : List ℕ) → AreWays code pc line ways → ReachesAll tree typing after ways → FlowsOn tree code typing pc line after
  continues typing pc line after ways w all = record {
    falls = λ f. all (pc + 1) (w.falls f);
    branches = λ label c. at_label label (w.branches label c);
  }
    where
      at_label : (label : List ℕ) → (way : ℕ) × (pc_of label code.lines ≡ Some way) × Contains ways way → ReachesLabel tree typing after (pc_of label code.lines)
      at_label label (way, e, c) = subst (λ (v : Option ℕ). ReachesLabel tree typing after v) (sym e) (all way c)

  flows_later : (found later : Typing) (pc : ℕ) (line : Line) (after : List StackType) → ((p : ℕ) (stack : List StackType) → Reaches tree found stack p → Reaches tree later stack p) →
      FlowsOn tree code found pc line after → FlowsOn tree code later pc line after
  flows_later found later pc line after kept on = record {
    falls = λ f. kept (pc + 1) after (on.falls f);
    branches = λ label c. at_label (pc_of label code.lines) (on.branches label c);
  }
    where
      at_label : (o : Option ℕ) → ReachesLabel tree found after o → ReachesLabel tree later after o
      at_label None r = r
      at_label (Some p) r = kept p after r

  module _ (legal : IsLegal tree) (found : Typing) (pending : List Bool) (pc : ℕ) (u : IsUnfinished tree arguments return_type code found (slice_set pending pc true))
      (line : Line) (at : slice_get code.lines pc ≡ Some line) (stack : List StackType) (held : slice_get found pc ≡ Some (Some stack)) where
    -- a typing's stack at the pc has a result, and what was found has one below it
    in_typing : (typing : Typing) → CodeTyping typing → (upper after : List StackType) × (flow tree arguments code.locals return_type line.instruction stack ≡ Some after) × AreBelow tree after upper × FlowsOn tree code typing pc line upper
    in_typing typing t = by_reach (u.under typing t pc stack held)
      where
        by_reach : Reaches tree typing stack pc → (upper after : List StackType) × (flow tree arguments code.locals return_type line.instruction stack ≡ Some after) × AreBelow tree after upper × FlowsOn tree code typing pc line upper
        by_reach (mapped, e, below) =
            let upper : (after : List StackType) × (flow tree arguments code.locals return_type line.instruction mapped ≡ Some after) × FlowsOn tree code typing pc line after = t.each pc line mapped at e in
            let lower : (own : List StackType) × (flow tree arguments code.locals return_type line.instruction stack ≡ Some own) × AreBelow tree own upper.0 = flow_down tree legal arguments code.locals return_type line.instruction stack mapped upper.0 below upper.1 in
            (upper.0, lower.0, lower.1, lower.2, upper.2)

    pub no_result : flow tree arguments code.locals return_type line.instruction stack ≡ None → (typing : Typing) → CodeTyping typing → ⊥
    no_result none typing t =
        let r : (upper after : List StackType) × (flow tree arguments code.locals return_type line.instruction stack ≡ Some after) × AreBelow tree after upper × FlowsOn tree code typing pc line upper = in_typing typing t in
        none_is_some r.1 (sym none ∙ r.2)

    module _ (after : List StackType) (result : flow tree arguments code.locals return_type line.instruction stack ≡ Some after) (ways : List ℕ) (w : AreWays code pc line ways) where
      all_reached : (typing : Typing) → CodeTyping typing → ReachesAll tree typing after ways
      all_reached typing t =
          let r : (upper own : List StackType) × (flow tree arguments code.locals return_type line.instruction stack ≡ Some own) × AreBelow tree own upper × FlowsOn tree code typing pc line upper = in_typing typing t in
          let same : r.1 ≡ after = same_Some r.1 after (sym r.2 ∙ result) in
          along typing pc line after r.0 ways w (subst (λ v. AreBelow tree v r.0) same r.3) r.4

      pub not_visited : CannotRise tree code.max_stack after ways found → (typing : Typing) → CodeTyping typing → ⊥
      not_visited refused typing t = refused typing (t.whole ∙ sym u.whole) t.height (u.under typing t) (all_reached typing t)

      pub visited : (later : Typing) (still_pending : List Bool) → HasRisen tree code.max_stack after ways found pending later still_pending → Unfinished later still_pending
      visited later still_pending h = record {
        whole = h.whole ∙ u.whole;
        start = h.kept 0 [] u.start;
        low = h.low u.low;
        decided = λ p. by_change p (h.others p) (u.decided p);
        under = λ typing t. h.least typing (u.under typing t) (all_reached typing t);
      }
        where
          still : (p : ℕ) → slice_get later p ≡ slice_get found p → Decided found p → Decided later p
          still p same s l st e f =
              let r : (own : List StackType) × (flow tree arguments code.locals return_type l.instruction st ≡ Some own) × FlowsOn tree code found p l own = s l st e (sym same ∙ f) in
              (r.0, r.1, flows_later found later p l r.0 h.kept r.2)

          here : (p : ℕ) → slice_get later p ≡ slice_get found p → pc ≡ p → Decided later p
          here p same e l st lines rows =
              let own_line : line ≡ l = same_Some line l (sym at ∙ ap (slice_get code.lines) e ∙ lines) in
              let own_stack : stack ≡ st = same_Some stack st (same_Some (Some stack) (Some st) (sym held ∙ ap (slice_get found) e ∙ sym same ∙ rows)) in
              let P : Line → Type 0 = λ k. (own : List StackType) × (flow tree arguments code.locals return_type k.instruction st ≡ Some own) × FlowsOn tree code later p k own in
              let Q : List StackType → Type 0 = λ s. (own : List StackType) × (flow tree arguments code.locals return_type line.instruction s ≡ Some own) × FlowsOn tree code later p line own in
              let R : ℕ → Type 0 = λ n. (own : List StackType) × (flow tree arguments code.locals return_type line.instruction stack ≡ Some own) × FlowsOn tree code later n line own in
              subst P own_line (subst Q own_stack (subst R e (after, result, continues later pc line after ways w h.reached)))

          by_push : (p : ℕ) → slice_get later p ≡ slice_get found p → IsPending pending p ⊎ (pc ≡ p) → Decided later p ⊎ IsPending still_pending p
          by_push p same (inl c) = inr (h.waiting p c)
          by_push p same (inr e) = inl (here p same e)

          by_change : (p : ℕ) → (slice_get later p ≡ slice_get found p) ⊎ IsPending still_pending p → Decided found p ⊎ IsPending (slice_set pending pc true) p → Decided later p ⊎ IsPending still_pending p
          by_change p (inr c) s = inr c
          by_change p (inl same) (inl s) = inl (still p same s)
          by_change p (inl same) (inr c) = by_push p same (flag_cases pending pc p c)
