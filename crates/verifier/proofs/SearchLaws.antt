-- What a search does by numbers, in names.
use Rattle.std.proofs.Common.{◌≡◌, ◌≤◌, ◌<◌, ◌+◌, ℕ, zero, suc, Bool, true, false, ℤ, pos, ◌≤ℤ◌, List, [], ◌∷◌, ◌++◌, length, map, take, drop, get_or, Option, Some, None, option_map, slice_get, slice_set, refl, sym, ap, ◌∙◌, subst, arith}
use Rattle.std.specs.Prelude.{Contains, Result, Ok, Err, OnOk, IfErr}
use Rattle.std.proofs.lemmas.List.{length-map, take_more, take-append-drop}
use Rattle.std.proofs.lemmas.List.Elements.{Contains-append_left}
use Rattle.std.proofs.lemmas.Bool.{false≢true}
use Rattle.std.proofs.lemmas.Option.{slice_get-map, same_Some}
use Rattle.std.proofs.lemmas.Int.{ints}
use Rattle.cil_model.specs.declared.trees.Tree.{Tree}
use Rattle.cil_model.specs.Typings.{Typing}
use Rattle.flow_rules.specs.StackTypes.{stack_type, stack_types}
use Rattle.flow_rules.specs.declared.entries.StackEntry.{StackEntry}
use Rattle.verifier.specs.StackMerges.{AreMerged}
use Rattle.verifier.specs.Rises.{stack_rises, row_rises, table_rises, most_values}
use Rattle.verifier.specs.Tables.{IsPending, HasRisen}
use Rattle.verifier.specs.Answers.{typing_of, work_left, count_pending, IsWhole, IsMergeAt, IsRisen, IsRefused, IsRise}
use Rattle.verifier.specs.declared.search.RaiseError.{RaiseError}
use Rattle.verifier.specs.declared.search.RaiseError.TheVariants.{Refused, OutOfMemory}
use Rattle.verifier.specs.declared.merging.StackMerge.{StackMerge}
use Rattle.verifier.specs.declared.search.Search.{Search}
use Rattle.verifier.proofs.StackLaws.{below_itself}
use Rattle.verifier.proofs.RiseLaws.{table_falls, first_falls}
use Rattle.verifier.proofs.TableLaws.{next_way, rise_first, rise_merged, rise_same, off_the_end, too_high, apart, no_next_way}
use Rattle.cil_model.proofs.Lists.{none_is_some, none_is_outside}

map_set : {X Y : Type 0} (f : X → Y) (xs : List X) (n : ℕ) (x : X) → map f (slice_set xs n x) ≡ slice_set (map f xs) n (f x)
map_set f (y ∷ ys) (suc n) x = ap (λ zs. f y ∷ zs) (map_set f ys n x)
map_set _ _ _ _ = refl

pos_within : (n m : ℕ) → n ≤ m → pos n ≤ℤ pos m
pos_within n m h = grind (arith, ints, h)

pos_beyond : (n m : ℕ) → m < n → pos n ≤ℤ pos m → ⊥
pos_beyond n m h k = grind (arith, ints, h, k)

-- ---- how many pcs are pending

count_set : (pending : List Bool) (n : ℕ) → count_pending (slice_set pending n true) ≤ count_pending pending + 1
count_set (true ∷ rest) (suc n) = let further : count_pending (slice_set rest n true) ≤ count_pending rest + 1 = count_set rest n in omega (arith, further)
count_set (false ∷ rest) (suc n) = count_set rest n
count_set _ n = omega arith

pub count_taken : (pending : List Bool) (n : ℕ) → IsPending pending n → count_pending (slice_set pending n false) < count_pending pending
count_taken [] n e = none_is_some true e
count_taken (true ∷ rest) zero e = omega arith
count_taken (false ∷ rest) zero e = absurd (false≢true (same_Some false true e))
count_taken (true ∷ rest) (suc n) e = let further : count_pending (slice_set rest n false) < count_pending rest = count_taken rest n e in omega (arith, further)
count_taken (false ∷ rest) (suc n) e = count_taken rest n e

-- a flag that is taken and set again is as it was
pub taken_back : (pending : List Bool) (n : ℕ) → IsPending pending n → slice_set (slice_set pending n false) n true ≡ pending
taken_back [] n e = refl
taken_back (b ∷ rest) zero e = ap (λ v. v ∷ rest) (sym (same_Some b true e))
taken_back (b ∷ rest) (suc n) e = ap (λ v. b ∷ v) (taken_back rest n e)

module _ (tree : Tree) where
  pub row_at : (rows : List (Option (List StackEntry))) (n : ℕ) (row : Option (List StackEntry)) → slice_get rows n ≡ Some row → slice_get (typing_of tree rows) n ≡ Some (option_map (stack_types tree) row)
  row_at rows n row e = slice_get-map (option_map (stack_types tree)) rows n ∙ ap (option_map (option_map (stack_types tree))) e

  typing_set : (rows later : List (Option (List StackEntry))) (n : ℕ) (stack : List StackEntry) → later ≡ slice_set rows n (Some stack) → typing_of tree later ≡ slice_set (typing_of tree rows) n (Some (stack_types tree stack))
  typing_set rows later n stack e = ap (typing_of tree) e ∙ map_set (option_map (stack_types tree)) rows n (Some stack)

  module _ (max_stack : ℤ) (after : List StackEntry) (pc : ℕ) (old : Search) where
    pub rise_off : slice_get old.rows.items pc ≡ None → IsRefused tree max_stack after (pc ∷ []) old
    rise_off e =
        let same : length (typing_of tree old.rows.items) ≡ length old.rows.items = length-map old.rows.items (option_map (stack_types tree)) in
        let past : length old.rows.items ≤ pc = none_is_outside old.rows.items pc e in
        off_the_end tree max_stack (stack_types tree after) (typing_of tree old.rows.items) pc (omega (arith, same, past))

    pub rise_refused : (T U : Type 0) (e : RaiseError) (known : List StackEntry) (new : Search) → slice_get old.rows.items pc ≡ Some (Some known) → IsMergeAt tree known after (Err e) → IsRise {T = U} tree max_stack after (pc ∷ []) old new (Err e)
    rise_refused T U (Refused at reason) known new e none = apart tree max_stack (stack_types tree after) (typing_of tree old.rows.items) pc (stack_types tree known) (row_at old.rows.items pc (Some known) e) none
    rise_refused T U OutOfMemory known new e none = tt

    set_risen : (new : Search) (row : Option (List StackEntry)) (stack : List StackEntry) → slice_get old.rows.items pc ≡ Some row →
        new.rows.items ≡ slice_set old.rows.items pc (Some stack) → new.is_pending.items ≡ slice_set old.is_pending.items pc true →
        HasRisen tree max_stack (stack_types tree after) (pc ∷ []) (typing_of tree old.rows.items) old.is_pending.items (slice_set (typing_of tree old.rows.items) pc (Some (stack_types tree stack))) (slice_set old.is_pending.items pc true) →
        row_rises tree (most_values max_stack) (Some (stack_types tree stack)) < row_rises tree (most_values max_stack) (option_map (stack_types tree) row) →
        HasRisen tree max_stack (stack_types tree after) (pc ∷ []) (typing_of tree old.rows.items) old.is_pending.items (typing_of tree new.rows.items) new.is_pending.items × (work_left tree max_stack new ≤ work_left tree max_stack old)
    set_risen new row stack at rows pending risen lower =
        let set : typing_of tree new.rows.items ≡ slice_set (typing_of tree old.rows.items) pc (Some (stack_types tree stack)) = typing_set old.rows.items new.rows.items pc stack rows in
        let P : Typing → Type 0 = λ t. HasRisen tree max_stack (stack_types tree after) (pc ∷ []) (typing_of tree old.rows.items) old.is_pending.items t new.is_pending.items in
        let Q : List Bool → Type 0 = λ p. HasRisen tree max_stack (stack_types tree after) (pc ∷ []) (typing_of tree old.rows.items) old.is_pending.items (slice_set (typing_of tree old.rows.items) pc (Some (stack_types tree stack))) p in
        let falls : table_rises tree (most_values max_stack) (slice_set (typing_of tree old.rows.items) pc (Some (stack_types tree stack))) < table_rises tree (most_values max_stack) (typing_of tree old.rows.items) =
        table_falls tree (most_values max_stack) (typing_of tree old.rows.items) pc (option_map (stack_types tree) row) (Some (stack_types tree stack)) (row_at old.rows.items pc row at) lower in
        let same : table_rises tree (most_values max_stack) (typing_of tree new.rows.items) ≡ table_rises tree (most_values max_stack) (slice_set (typing_of tree old.rows.items) pc (Some (stack_types tree stack))) = ap (table_rises tree (most_values max_stack)) set in
        let more : count_pending (slice_set old.is_pending.items pc true) ≤ count_pending old.is_pending.items + 1 = count_set old.is_pending.items pc in
        let counted : count_pending new.is_pending.items ≡ count_pending (slice_set old.is_pending.items pc true) = ap count_pending pending in
        (subst P (sym set) (subst Q (sym pending) risen), omega (arith, falls, same, more, counted))

    same_count : IsWhole old → length old.is_pending.items ≡ length (typing_of tree old.rows.items)
    same_count w = w ∙ sym (length-map old.rows.items (option_map (stack_types tree)))

    rise_mapped : (new : Search) (stack : List StackEntry) → IsWhole old → slice_get old.rows.items pc ≡ Some None → pos (length after) ≤ℤ max_stack → stack ≡ after →
        new.rows.items ≡ slice_set old.rows.items pc (Some stack) → new.is_pending.items ≡ slice_set old.is_pending.items pc true → IsRisen tree max_stack after (pc ∷ []) old new
    rise_mapped new stack w at small copy rows pending =
        let low : pos (length (stack_types tree after)) ≤ℤ max_stack = subst (λ (n : ℕ). pos n ≤ℤ max_stack) (sym (length-map after (stack_type tree))) small in
        set_risen new None after at (rows ∙ ap (λ v. slice_set old.rows.items pc (Some v)) copy) pending
        (rise_first tree max_stack (stack_types tree after) (typing_of tree old.rows.items) old.is_pending.items pc (same_count w) (row_at old.rows.items pc None at) low) (first_falls tree max_stack (stack_types tree after) low)

    rise_merging : (new : Search) (known stack : List StackEntry) → IsWhole old → slice_get old.rows.items pc ≡ Some (Some known) → AreMerged tree (stack_types tree known) (stack_types tree after) (stack_types tree stack) →
        stack_rises tree (stack_types tree stack) < stack_rises tree (stack_types tree known) →
        new.rows.items ≡ slice_set old.rows.items pc (Some stack) → new.is_pending.items ≡ slice_set old.is_pending.items pc true → IsRisen tree max_stack after (pc ∷ []) old new
    rise_merging new known stack w at merge lower rows pending =
        set_risen new (Some known) stack at rows pending
        (rise_merged tree max_stack (stack_types tree after) (typing_of tree old.rows.items) old.is_pending.items pc (stack_types tree known) (stack_types tree stack) (same_count w) (row_at old.rows.items pc (Some known) at) merge) lower

    rise_unchanged : (new : Search) (known stack : List StackEntry) → slice_get old.rows.items pc ≡ Some (Some known) → AreMerged tree (stack_types tree known) (stack_types tree after) (stack_types tree stack) →
        stack ≡ known → new ≡ old → IsRisen tree max_stack after (pc ∷ []) old new
    rise_unchanged new known stack at merge same unchanged =
        let own : AreMerged tree (stack_types tree known) (stack_types tree after) (stack_types tree known) = subst (λ v. AreMerged tree (stack_types tree known) (stack_types tree after) (stack_types tree v)) same merge in
        let low : work_left tree max_stack old ≤ work_left tree max_stack old = omega arith in
        subst (λ (s : Search). IsRisen tree max_stack after (pc ∷ []) old s) (sym unchanged)
        (rise_same tree max_stack (stack_types tree after) (typing_of tree old.rows.items) old.is_pending.items pc (stack_types tree known) (row_at old.rows.items pc (Some known) at) own, low)

    -- a stack that is there already raises nothing
    pub rise_equal : (known : List StackEntry) → slice_get old.rows.items pc ≡ Some (Some known) → known ≡ after → IsRisen tree max_stack after (pc ∷ []) old old
    rise_equal known at e =
        let own : AreMerged tree (stack_types tree known) (stack_types tree known) (stack_types tree known) =
        record { above_first = below_itself tree (stack_types tree known); above_second = below_itself tree (stack_types tree known); least = λ above h k. h } in
        let P : List StackEntry → Type 0 = λ v. AreMerged tree (stack_types tree known) (stack_types tree v) (stack_types tree known) in
        rise_unchanged old known known at (subst P e own) refl refl

    rise_by_merge : (new : Search) (known : List StackEntry) (merge : StackMerge) → IsWhole old → slice_get old.rows.items pc ≡ Some (Some known) →
        AreMerged tree (stack_types tree known) (stack_types tree after) (stack_types tree merge.stack) → (merge.is_higher ≡ false → merge.stack ≡ known) →
        (merge.is_higher ≡ true → stack_rises tree (stack_types tree merge.stack) < stack_rises tree (stack_types tree known)) → (merge.is_higher ≡ false → new ≡ old) →
        (merge.is_higher ≡ true → new.rows.items ≡ slice_set old.rows.items pc (Some merge.stack)) → (merge.is_higher ≡ true → new.is_pending.items ≡ slice_set old.is_pending.items pc true) →
        IsRisen tree max_stack after (pc ∷ []) old new
    rise_by_merge new known merge w at merged same lower unchanged rows pending = by_test merge.is_higher refl
      where
        by_test : (b : Bool) → merge.is_higher ≡ b → IsRisen tree max_stack after (pc ∷ []) old new
        by_test true h = rise_merging new known merge.stack w at merged (lower h) (rows h) (pending h)
        by_test false h = rise_unchanged new known merge.stack at merged (same h) (unchanged h)

    -- the same where memory may run out
    pub rise_merged_or_not : {T : Type 0} (r : Result T RaiseError) (new : Search) (known : List StackEntry) (merge : StackMerge) → IsWhole old → slice_get old.rows.items pc ≡ Some (Some known) →
        AreMerged tree (stack_types tree known) (stack_types tree after) (stack_types tree merge.stack) → (merge.is_higher ≡ false → merge.stack ≡ known) →
        (merge.is_higher ≡ true → stack_rises tree (stack_types tree merge.stack) < stack_rises tree (stack_types tree known)) → (merge.is_higher ≡ false → new ≡ old) →
        OnOk r (merge.is_higher ≡ true → new.rows.items ≡ slice_set old.rows.items pc (Some merge.stack)) → OnOk r (merge.is_higher ≡ true → new.is_pending.items ≡ slice_set old.is_pending.items pc true) →
        IfErr r (λ e. e ≡ OutOfMemory) → IsRise tree max_stack after (pc ∷ []) old new r
    rise_merged_or_not (Ok done) new known merge w at merged same lower unchanged rows pending wants = rise_by_merge new known merge w at merged same lower unchanged rows pending
    rise_merged_or_not (Err (Refused at' reason)) new known merge w at merged same lower unchanged rows pending wants = absurd (cc wants)
    rise_merged_or_not (Err OutOfMemory) new known merge w at merged same lower unchanged rows pending wants = tt

  module _ (most : ℕ) (after : List StackEntry) (pc : ℕ) (old : Search) where
    pub rise_high : most < length after → IsRefused tree (pos most) after (pc ∷ []) old
    rise_high high = too_high tree (pos most) (stack_types tree after) (typing_of tree old.rows.items) pc (λ h. pos_beyond (length after) most high (subst (λ (n : ℕ). pos n ≤ℤ pos most) (length-map after (stack_type tree)) h))

    pub rise_at_first : (new : Search) (stack : List StackEntry) → IsWhole old → slice_get old.rows.items pc ≡ Some None → length after ≤ most → stack ≡ after →
        new.rows.items ≡ slice_set old.rows.items pc (Some stack) → new.is_pending.items ≡ slice_set old.is_pending.items pc true → IsRisen tree (pos most) after (pc ∷ []) old new
    rise_at_first new stack w at small = rise_mapped (pos most) after pc old new stack w at (pos_within (length after) most small)

  -- ---- along more ways

  module _ (max_stack : ℤ) (after : List StackEntry) where
    pub all_more : (ways : List ℕ) (n d : ℕ) (old middle new : Search) → n < length ways → IsRisen tree max_stack after (take n ways) old middle → IsRisen tree max_stack after (get_or ways n d ∷ []) middle new →
        IsRisen tree max_stack after (take (n + 1) ways) old new
    all_more ways n d old middle new inside before one =
        subst (λ (w : List ℕ). IsRisen tree max_stack after w old new) (sym (take_more ways n d inside)) (
          next_way tree max_stack (stack_types tree after) (take n ways) (get_or ways n d) (typing_of tree old.rows.items) (typing_of tree middle.rows.items) (typing_of tree new.rows.items) old.is_pending.items middle.is_pending.items new.is_pending.items before.0 one.0,
          omega (arith, before.1, one.1),
        )

    pub all_fails : (T U : Type 0) (e : RaiseError) (ways : List ℕ) (n d : ℕ) (old middle new other : Search) → n < length ways → IsRisen tree max_stack after (take n ways) old middle → IsRise {T = T} tree max_stack after (get_or ways n d ∷ []) middle new (Err e) →
        IsRise {T = U} tree max_stack after ways old other (Err e)
    all_fails T U (Refused at reason) ways n d old middle new other inside before one =
        no_next_way tree max_stack (stack_types tree after) (take n ways) ways (get_or ways n d) (typing_of tree old.rows.items) (typing_of tree middle.rows.items) old.is_pending.items middle.is_pending.items before.0 one among
      where
        whole_has : (w : ℕ) → Contains (take (n + 1) ways) w → Contains ways w
        whole_has w k = subst (λ v. Contains v w) (take-append-drop (n + 1) ways) (Contains-append_left (take (n + 1) ways) (drop (n + 1) ways) w k)

        among : (w : ℕ) → Contains (take n ways ++ get_or ways n d ∷ []) w → Contains ways w
        among w c = whole_has w (subst (λ v. Contains v w) (sym (take_more ways n d inside)) c)
    all_fails T U OutOfMemory ways n d old middle new other inside before one = tt

    pub still_whole : (ways : List ℕ) (old new : Search) → IsWhole old → IsRisen tree max_stack after ways old new → IsWhole new
    still_whole ways old new w h =
        h.0.flags ∙ w ∙ sym (length-map old.rows.items (option_map (stack_types tree))) ∙ sym h.0.whole ∙ length-map new.rows.items (option_map (stack_types tree))
