-- One visit of a search by numbers, its beginning and its end.
use Rattle.std.proofs.Common.{◌≡◌, ◌≤◌, ◌<◌, ◌+◌, ℕ, zero, suc, ℤ, pos, negsuc, ◌≤ℤ◌, List, [], ◌∷◌, length, replicate, Option, Some, None, option_map, slice_get, slice_set, Bool, true, false, refl, sym, ap, ◌∙◌, subst, arith}
use Rattle.std.specs.Prelude.{Result, Ok, Err, OnOk}
use Rattle.std.proofs.lemmas.List.{length-map}
use Rattle.std.proofs.lemmas.Int.{ints}
use Rattle.std.proofs.lemmas.Option.{slice_get-map, slice_get_within, same_Some}
use Rattle.cil_model.specs.declared.types.DeclaredType.{DeclaredType}
use Rattle.cil_model.specs.declared.instructions.Instruction.{Instruction}
use Rattle.cil_model.specs.declared.trees.Tree.{Tree}
use Rattle.cil_model.specs.declared.trees.Code.{Code}
use Rattle.cil_model.specs.declared.trees.Line.{Line}
use Rattle.cil_model.specs.TypeTree.{StackType}
use Rattle.cil_model.specs.FlowRules.{StackAfter, flow}
use Rattle.cil_model.specs.Typings.{Typing, IsCodeTyping}
use Rattle.cil_model.specs.Legality.{IsLegal}
use Rattle.resolved_code.specs.ResolvedPrograms.{IsOperation}
use Rattle.resolved_code.specs.declared.operations.Operation.{Operation}
use Rattle.flow_rules.specs.StackTypes.{type_named, types_named, stack_types}
use Rattle.flow_rules.specs.Flow.{flow_of}
use Rattle.flow_rules.specs.declared.entries.StackEntry.{StackEntry}
use Rattle.flow_rules.specs.declared.method_types.MethodTypes.{MethodTypes}
use Rattle.resolved_code.proofs.ListLaws.RelatedLists.{AlikeTo, alike_to, alike_beyond, alike_length}
use Rattle.verifier.specs.Rises.{table_rises, most_values, as_natural}
use Rattle.verifier.specs.Ways.{ways_on}
use Rattle.verifier.specs.Tables.{IsPending, HasRisen, CannotRise, AreWays}
use Rattle.verifier.specs.Answers.{typing_of, work_left, count_pending, IsWhole, IsResultAt, IsRise, IsRisen, AreOf, IsOnTheWay, IsVisit, IsLeastTyping, IsTypingAnswer}
use Rattle.verifier.specs.Evidence.{IsReportedOf, IsAnsweredBy}
use Rattle.verifier.specs.declared.failures.TypingError.{TypingError}
use Rattle.verifier.specs.declared.failures.TypingError.TheVariants.{Untyped, OutOfMemory}
use Rattle.verifier.specs.declared.search.RaiseError.{RaiseError}
use Rattle.verifier.specs.declared.search.RaiseError.TheVariants as OfRaise
use Rattle.verifier.specs.declared.search.Search.{Search}
use Rattle.verifier.proofs.TableLaws.{finished, begun, not_begun, passed_over, no_result, visited, not_visited}
use Rattle.verifier.proofs.WayLaws.{are_ways}
use Rattle.verifier.proofs.SearchLaws.{row_at, count_taken, taken_back, still_whole}
use Rattle.cil_model.proofs.Lists.{none_is_some, none_is_outside}

pub work_falls : {T : Type 0} (tree : Tree) (max_stack : ℤ) (after : List StackEntry) (ways : List ℕ) (old new : Search) (r : Result T RaiseError) → IsRise tree max_stack after ways old new r → OnOk r (work_left tree max_stack new ≤ work_left tree max_stack old)
work_falls tree max_stack after ways old new (Ok done) h = h.1
work_falls tree max_stack after ways old new (Err e) h = tt

-- what holds where a stack was taken on holds where that is the result
pub answered_so : {T : Type 0} (P : Type 0) (r : Result T RaiseError) (answer : Result T TypingError) → IsAnsweredBy r answer → OnOk r P → OnOk answer P
answered_so P (Ok done) (Ok done') reported so = so
answered_so P (Err step) (Ok done) reported so = elim reported [ ]
answered_so _ _ _ _ _ = tt

module _ (m : MethodTypes) (operations : List Operation) (max_stack : ℤ) (code : Code) (of : AreOf m operations max_stack code) where
  abbrev arguments : List DeclaredType
  arguments = types_named m.types.now m.arguments.now

  abbrev return_type : Option DeclaredType
  return_type = option_map (type_named m.types.now) m.return_type

  abbrev Alike : Line → Operation → Type 0
  Alike line operation = IsOperation m.types.now code.lines line.instruction operation

  unmapped : (rows : List (Option (List StackEntry))) (pc : ℕ) → ((stack : List StackEntry) → slice_get rows pc ≡ Some (Some stack) → ⊥) → (stack : List StackType) → slice_get (typing_of m.types.now rows) pc ≡ Some (Some stack) → ⊥
  unmapped rows pc none stack e = by_row (slice_get rows pc) refl (sym (slice_get-map (option_map (stack_types m.types.now)) rows pc) ∙ e)
    where
      by_row : (o : Option (Option (List StackEntry))) → slice_get rows pc ≡ o → option_map (option_map (stack_types m.types.now)) o ≡ Some (Some stack) → ⊥
      by_row None h f = none_is_some (Some stack) f
      by_row (Some None) h f = none_is_some stack (same_Some None (Some stack) f)
      by_row (Some (Some known)) h f = none known h

  pub visit_unmapped : (rows : List (Option (List StackEntry))) (pending : List Bool) (pc : ℕ) → IsOnTheWay m code rows (slice_set pending pc true) → ((stack : List StackEntry) → slice_get rows pc ≡ Some (Some stack) → ⊥) → IsOnTheWay m code rows pending
  visit_unmapped rows pending pc u none = passed_over m.types.now arguments return_type code (typing_of m.types.now rows) pending pc u (unmapped rows pc none)

  pub visit_beyond : (rows : List (Option (List StackEntry))) (pending : List Bool) (pc : ℕ) → IsOnTheWay m code rows (slice_set pending pc true) → slice_get operations pc ≡ None → IsOnTheWay m code rows pending
  visit_beyond rows pending pc u e = passed_over m.types.now arguments return_type code (typing_of m.types.now rows) pending pc u outside
    where
      outside : (stack : List StackType) → slice_get (typing_of m.types.now rows) pc ≡ Some (Some stack) → ⊥
      outside stack f =
          let past : length code.lines ≤ pc = none_is_outside code.lines pc (alike_beyond Alike code.lines operations of.resolved pc e) in
          let inside : pc < length (typing_of m.types.now rows) = slice_get_within (typing_of m.types.now rows) pc (Some stack) f in
          let whole : length (typing_of m.types.now rows) ≡ length code.lines = u.whole in
          omega (arith, past, inside, whole)

  module _ (legal : IsLegal m.types.now) (old : Search) (pc : ℕ) (u : IsOnTheWay m code old.rows.items (slice_set old.is_pending.items pc true)) (op : Operation) (at : slice_get operations pc ≡ Some op)
      (before : List StackEntry) (held : slice_get old.rows.items pc ≡ Some (Some before)) where
    line : AlikeTo Alike code.lines pc op
    line = alike_to Alike code.lines operations pc op of.resolved at

    named : slice_get (typing_of m.types.now old.rows.items) pc ≡ Some (Some (stack_types m.types.now before))
    named = row_at m.types.now old.rows.items pc (Some before) held

    -- the rule's result with the code's own locals
    in_code : (answer : StackAfter) (i : Instruction) → flow_of m i before ≡ answer → flow m.types.now arguments code.locals return_type i (stack_types m.types.now before) ≡ answer
    in_code answer i e = subst (λ (ls : List DeclaredType). flow m.types.now arguments ls return_type i (stack_types m.types.now before) ≡ answer) of.locals e

    pub visit_no_result : (T U : Type 0) (e : TypingError) (new : Search) → ((lines : List Line) (i : Instruction) → IsOperation m.types.now lines i op → IsResultAt m.types.now (Err e) (flow_of m i before)) → IsVisit {T = U} m code new (Err e)
    visit_no_result T U (Untyped failure) new h =
        no_result m.types.now arguments return_type code legal (typing_of m.types.now old.rows.items) old.is_pending.items pc u line.item line.there (stack_types m.types.now before) named
        (in_code None line.item.instruction (h code.lines line.item.instruction line.alike))
    visit_no_result T U OutOfMemory new h = tt

    pub visit_continues : {T : Type 0} (r : Result T RaiseError) (answer : Result T TypingError) (new : Search) (after : List StackEntry) (ways : List ℕ) →
        ((lines : List Line) (i : Instruction) → IsOperation m.types.now lines i op → flow_of m i before ≡ Some (stack_types m.types.now after)) → ways ≡ ways_on op (pc + 1) →
        IsRise m.types.now max_stack after ways old new r → IsAnsweredBy r answer → IsVisit m code new answer
    visit_continues r answer new after ways h along rise reported = by_answer r answer rise reported
      where
        result : flow m.types.now arguments code.locals return_type line.item.instruction (stack_types m.types.now before) ≡ Some (stack_types m.types.now after)
        result = in_code (Some (stack_types m.types.now after)) line.item.instruction (h code.lines line.item.instruction line.alike)

        are : AreWays code pc line.item ways
        are = subst (λ (w : List ℕ). AreWays code pc line.item w) (sym along) (are_ways m.types.now code pc line.item op line.alike)

        by_answer : {T : Type 0} (r : Result T RaiseError) (answer : Result T TypingError) → IsRise m.types.now max_stack after ways old new r → IsAnsweredBy r answer → IsVisit m code new answer
        by_answer (Ok done) (Ok done') k same =
            visited m.types.now arguments return_type code legal (typing_of m.types.now old.rows.items) old.is_pending.items pc u line.item line.there (stack_types m.types.now before) named
            (stack_types m.types.now after) result ways are (typing_of m.types.now new.rows.items) new.is_pending.items
            (subst (λ (z : ℤ). HasRisen m.types.now z (stack_types m.types.now after) ways (typing_of m.types.now old.rows.items) old.is_pending.items (typing_of m.types.now new.rows.items) new.is_pending.items) of.same_max k.0)
        by_answer (Ok done) (Err e) k same = elim same [ ]
        by_answer (Err step) (Ok done) k same = elim same [ ]
        by_answer (Err (OfRaise.Refused at' reason)) (Err (Untyped failure)) k same =
            not_visited m.types.now arguments return_type code legal (typing_of m.types.now old.rows.items) old.is_pending.items pc u line.item line.there (stack_types m.types.now before) named
            (stack_types m.types.now after) result ways are
            (subst (λ (z : ℤ). CannotRise m.types.now z (stack_types m.types.now after) ways (typing_of m.types.now old.rows.items)) of.same_max k)
        by_answer (Err OfRaise.OutOfMemory) (Err (Untyped failure)) k same = elim same [ ]
        by_answer (Err (OfRaise.Refused at' reason)) (Err OutOfMemory) k same = tt
        by_answer (Err OfRaise.OutOfMemory) (Err OutOfMemory) k same = tt

  -- ---- the beginning and the end

  none_there : (n pc : ℕ) (stack : List StackEntry) → slice_get (replicate n None) pc ≡ Some (Some stack) → ⊥
  none_there zero pc stack e = none_is_some (Some stack) e
  none_there (suc n) zero stack e = none_is_some stack (same_Some None (Some stack) e)
  none_there (suc n) (suc pc) stack e = none_there n pc stack e

  length_none : (n : ℕ) (xs : List (Option (List StackEntry))) → xs ≡ replicate n None → length xs ≡ n
  length_none n xs e = ap length e ∙ counted n
    where
      counted : (k : ℕ) → length {A = Option (List StackEntry)} (replicate k None) ≡ k
      counted zero = refl
      counted (suc k) = ap suc (counted k)

  module _ (old : Search) (rows : old.rows.items ≡ replicate (length operations) None) where
    nothing : (pc : ℕ) (stack : List StackType) → slice_get (typing_of m.types.now old.rows.items) pc ≡ Some (Some stack) → ⊥
    nothing pc stack e = unmapped old.rows.items pc (λ s h. none_there (length operations) pc s (sym (ap (λ (v : List (Option (List StackEntry))). slice_get v pc) rows) ∙ h)) stack e

    as_long : length (typing_of m.types.now old.rows.items) ≡ length code.lines
    as_long = length-map old.rows.items (option_map (stack_types m.types.now)) ∙ length_none (length operations) old.rows.items rows ∙ sym (alike_length Alike code.lines operations of.resolved)

    pub on_the_way : (new : Search) → IsRisen m.types.now max_stack [] (0 ∷ []) old new → IsOnTheWay m code new.rows.items new.is_pending.items
    on_the_way new h =
        begun m.types.now arguments return_type code (typing_of m.types.now old.rows.items) (typing_of m.types.now new.rows.items) old.is_pending.items new.is_pending.items as_long nothing
        (subst (λ (z : ℤ). HasRisen m.types.now z [] (0 ∷ []) (typing_of m.types.now old.rows.items) old.is_pending.items (typing_of m.types.now new.rows.items) new.is_pending.items) of.same_max h.0)

    pub never_begun : (T : Type 0) (step : RaiseError) (e : TypingError) (new : Search) → IsRise {T = T} m.types.now max_stack [] (0 ∷ []) old new (Err step) → IsReportedOf step e → IsTypingAnswer m.types.now arguments return_type code (Err e)
    never_begun T (OfRaise.Refused at reason) (Untyped failure) new h reported =
        not_begun m.types.now arguments return_type code (typing_of m.types.now old.rows.items) as_long nothing
        (subst (λ (z : ℤ). CannotRise m.types.now z [] (0 ∷ []) (typing_of m.types.now old.rows.items)) of.same_max h)
    never_begun T OfRaise.OutOfMemory (Untyped failure) new h reported = elim reported [ ]
    never_begun _ _ _ _ _ _ = tt

  pub stopped : (T : Type 0) (e : TypingError) (new : Search) → IsVisit {T = T} m code new (Err e) → IsTypingAnswer m.types.now arguments return_type code (Err e)
  stopped T (Untyped failure) new h = h
  stopped T OutOfMemory new h = tt

  arrived : (rows : List (Option (List StackEntry))) (pending : List Bool) → IsOnTheWay m code rows pending → ((pc : ℕ) → IsPending pending pc → ⊥) → IsLeastTyping m.types.now arguments return_type code (typing_of m.types.now rows)
  arrived rows pending u none = record {
    is_typing = finished m.types.now arguments return_type code (typing_of m.types.now rows) pending u none;
    under = u.under;
  }

  -- what is known before a pc is visited, its flag taken
  pub taken : (rows later : List (Option (List StackEntry))) (pending rest : List Bool) (pc : ℕ) → IsOnTheWay m code rows pending → later ≡ rows → IsPending pending pc → rest ≡ slice_set pending pc false → IsOnTheWay m code later (slice_set rest pc true)
  taken rows later pending rest pc u same flag left =
      let again : slice_set rest pc true ≡ pending = ap (λ v. slice_set v pc true) left ∙ taken_back pending pc flag in
      subst (λ (v : List (Option (List StackEntry))). IsOnTheWay m code v (slice_set rest pc true)) (sym same) (subst (λ (p : List Bool). IsOnTheWay m code rows p) (sym again) u)

  pub decided_all : (rows later result : List (Option (List StackEntry))) (pending : List Bool) → IsOnTheWay m code rows pending → ((pc : ℕ) → IsPending pending pc → ⊥) → later ≡ rows → result ≡ later →
      IsLeastTyping m.types.now arguments return_type code (typing_of m.types.now result)
  decided_all rows later result pending u none same made = subst (λ (v : List (Option (List StackEntry))). IsLeastTyping m.types.now arguments return_type code (typing_of m.types.now v)) (sym (made ∙ same)) (arrived rows pending u none)

pub work_taken : (tree : Tree) (max_stack : ℤ) (old new : Search) (pc : ℕ) → new.rows.items ≡ old.rows.items → IsPending old.is_pending.items pc → new.is_pending.items ≡ slice_set old.is_pending.items pc false →
    work_left tree max_stack new < work_left tree max_stack old
work_taken tree max_stack old new pc rows flag pending =
    let same : table_rises tree (most_values max_stack) (typing_of tree new.rows.items) ≡ table_rises tree (most_values max_stack) (typing_of tree old.rows.items) = ap (λ v. table_rises tree (most_values max_stack) (typing_of tree v)) rows in
    let fewer : count_pending (slice_set old.is_pending.items pc false) < count_pending old.is_pending.items = count_taken old.is_pending.items pc flag in
    let counted : count_pending new.is_pending.items ≡ count_pending (slice_set old.is_pending.items pc false) = ap count_pending pending in
    omega (arith, same, fewer, counted)

-- ---- a flag for each pc

pub rise_whole : {T : Type 0} (tree : Tree) (max_stack : ℤ) (after : List StackEntry) (ways : List ℕ) (old new : Search) (r : Result T RaiseError) → IsWhole old → IsRise tree max_stack after ways old new r → OnOk r (IsWhole new)
rise_whole tree max_stack after ways old new (Ok done) w h = still_whole tree max_stack after ways old new w h
rise_whole tree max_stack after ways old new (Err e) w h = tt

-- ---- .maxstack

pub natural_is : (z : ℤ) (n : ℕ) → as_natural z ≡ Some n → pos n ≡ z
natural_is (pos k) n e = ap pos (sym (same_Some k n e))
natural_is (negsuc k) n e = none_is_some n e

pub no_natural : (z : ℤ) (n : ℕ) → as_natural z ≡ None → pos n ≤ℤ z → ⊥
no_natural (pos k) n e h = none_is_some k (sym e)
no_natural (negsuc k) n e h = grind (arith, ints, h)

pub none_is_low : (tree : Tree) (taken_types : List DeclaredType) (given : Option DeclaredType) (code : Code) (z : ℤ) → z ≡ code.max_stack → as_natural z ≡ None → (typing : Typing) → IsCodeTyping tree taken_types given code typing → ⊥
none_is_low tree taken_types given code z same e typing t = no_natural z 0 e (subst (λ (k : ℤ). pos 0 ≤ℤ k) (sym same) (t.height 0 [] t.start))

-- a failure is returned for code without a typing
pub has_no_typing : (tree : Tree) (taken_types : List DeclaredType) (given : Option DeclaredType) (code : Code) (e : TypingError) → ((typing : Typing) → IsCodeTyping tree taken_types given code typing → ⊥) → IsTypingAnswer tree taken_types given code (Err e)
has_no_typing tree taken_types given code (Untyped failure) none = none
has_no_typing tree taken_types given code OutOfMemory none = tt
