-- The lemmas of the steps, in the form that a call requires.
use Rattle.std.proofs.Common.{true, false, Some, None, ◌≡◌, ℕ, ◌+◌, ◌<◌, ◌≤◌, [], ◌∷◌, ◌++◌, length, get_or, set, sym, ap, ◌∙◌, subst, arith}
use mathlib.Core.Option.{none}
use Rattle.atomic_table.specs.Table.{State, step, Allows}
use Rattle.flip_table.specs.declared.slot_table.CopierView.{CopierView}
use Rattle.flip_table.specs.declared.slot_table.PlanView.{PlanView}
use Rattle.flip_table.specs.declared.slot_table.View.{View}
use Rattle.flip_table.specs.declared.slot_table.View.TheVariants.{OfWriter, OfCopier}
use Rattle.flip_table.specs.declared.slot_table.WriterView.{WriterView}
use Rattle.flip_table.specs.Rule.{retired_mark, forward, AllMarked, KeepsFlip}
use Rattle.epoch_words.specs.Tokens.{FoundAll, IsPostedOrOneLess}
use Rattle.flip_table.specs.Steps.{Holder, loading_writer, looking_copier, LoadsFirst, LoadsSecond, StoresFirst, StoresSecond, StoresAlone, PollsStage, TakesUp, LoadsToCopy, StoresCopy, LoadsToCheck, FindsStage, PostsStage, Retires}
use Rattle.flip_table.proofs.StepsKeep as keep

-- a step that reports A reports what follows from A
allows_then : (holds : State (Unit {0}) View → Type 0) (slots id : ℕ) (me : Holder) (i : ℕ) (f : ℕ → ℕ) (A B : ℕ → Holder → Type 0) → Allows holds slots id me i f A → ((x : ℕ) (after : Holder) → A x after → B x after) → Allows holds slots id me i f B
allows_then holds slots id me i f A B allowed follows s r deep at fits = let t = allowed s r deep at fits in (t.0, t.1, t.2, t.3, follows _ _ t.4)

module _ (plan : PlanView) where
  abbrev m : ℕ
  m = length plan.owners

  pub loads_first : (slots id i : ℕ) (me : Holder) (q : WriterView) → me ≡ (OfWriter q, []) → q.plan ≡ plan → i < m → q.taken_up ≡ 0
      → Allows (KeepsFlip plan) slots id me i (λ x. x) (LoadsFirst (step slots i 0 0 none) me)
  loads_first slots id i me q is of l low = subst (λ (z : Holder). Allows (KeepsFlip plan) slots id z i (λ x. x) (LoadsFirst (step slots i 0 0 none) z)) (sym is)
      (allows_then (KeepsFlip plan) slots id (OfWriter q, []) i (λ x. x) (λ x (after : Holder). (after ≡ (OfWriter (loading_writer q i x), [])) × (x < plan.limit) × (get_or plan.owners i 0 ≡ q.index → x ≡ get_or q.written i 0)) (LoadsFirst (step slots i 0 0 none) (OfWriter q, [])) (keep.loads_first plan slots id i q l low)
      (λ x after t. (t.0, subst (λ (z : PlanView). x < z.limit) (sym of) t.1, subst (λ (z : PlanView). get_or z.owners i 0 ≡ q.index → x ≡ get_or q.written i 0) (sym of) t.2)))

  pub loads_second : (slots id i word : ℕ) (me : Holder) (q : WriterView) → me ≡ (OfWriter q, []) → word ≡ m + i → q.plan ≡ plan → i < m → 0 < q.taken_up → q.pending ≡ None
      → Allows (KeepsFlip plan) slots id me word (λ x. x) (LoadsSecond (step slots word 0 0 none) me)
  loads_second slots id i word me q is word_is of l high calm = subst (λ (z : Holder × ℕ). Allows (KeepsFlip plan) slots id z.0 z.1 (λ x. x) (LoadsSecond (step slots z.1 0 0 none) z.0)) (λ c. (sym is c, sym word_is c))
      (allows_then (KeepsFlip plan) slots id (OfWriter q, []) (m + i) (λ x. x) (λ y (after : Holder). ((x : ℕ) × (after ≡ (OfWriter (loading_writer q (m + i) x), [])) × (x < plan.limit) × (y ≡ forward x)) × (get_or plan.owners i 0 ≡ q.index → y ≡ forward (get_or q.written i 0))) (LoadsSecond (step slots (m + i) 0 0 none) (OfWriter q, []))
      (keep.loads_second plan slots id i q l high calm)
      (λ y after t. (
        (t.0.0, t.0.1, subst (λ (z : PlanView). t.0.0 < z.limit) (sym of) t.0.2, t.0.3),
        subst (λ (z : PlanView). (k : ℕ) → m + i ≡ length z.owners + k → get_or z.owners k 0 ≡ q.index → y ≡ forward (get_or q.written k 0)) (sym of)
            (λ k e. subst (λ (z : ℕ). get_or plan.owners z 0 ≡ q.index → y ≡ forward (get_or q.written z 0)) (let same : i ≡ k = omega (arith, e) in same) t.1),
      )))

  pub stores_first : (slots id i x : ℕ) (me : Holder) (q : WriterView) → me ≡ (OfWriter q, []) → i < m → get_or plan.owners i 0 ≡ q.index → q.taken_up ≤ 1 → q.pending ≡ None → x < plan.limit
      → Allows (KeepsFlip plan) slots id me i (λ _. x) (λ _. StoresFirst (step slots i x 0 none) me x)
  stores_first slots id i x me q is l own low idle small = subst (λ (z : Holder). Allows (KeepsFlip plan) slots id z i (λ _. x) (λ _. StoresFirst (step slots i x 0 none) z x)) (sym is) (keep.stores_first plan slots id i x q l own low idle small)

  pub stores_second : (slots id i y word said : ℕ) (me : Holder) (q : WriterView) → me ≡ (OfWriter q, []) → word ≡ m + i → said ≡ forward y → i < m → get_or plan.owners i 0 ≡ q.index → q.pending ≡ Some i → get_or q.written i 0 ≡ y → y < plan.limit
      → Allows (KeepsFlip plan) slots id me word (λ _. said) (λ _. StoresSecond (step slots word said 0 none) me said)
  stores_second slots id i y word said me q is word_is said_is l own busy wrote small = subst (λ (z : Holder × ℕ × ℕ). Allows (KeepsFlip plan) slots id z.0 z.1 (λ _. z.2) (λ _. StoresSecond (step slots z.1 z.2 0 none) z.0 z.2)) (λ c. (sym is c, sym word_is c, sym said_is c))
      (keep.stores_second plan slots id i y q l own busy wrote small)

  pub stores_alone : (slots id i y word said : ℕ) (me : Holder) (q : WriterView) → me ≡ (OfWriter q, []) → word ≡ m + i → said ≡ forward y → q.plan ≡ plan → i < m → get_or plan.owners i 0 ≡ q.index → 1 < q.taken_up → q.pending ≡ None → y < plan.limit
      → Allows (KeepsFlip plan) slots id me word (λ _. said) (λ _. StoresAlone (step slots word said 0 none) me said)
  stores_alone slots id i y word said me q is word_is said_is of l own high idle small = subst (λ (z : Holder × ℕ × ℕ). Allows (KeepsFlip plan) slots id z.0 z.1 (λ _. z.2) (λ _. StoresAlone (step slots z.1 z.2 0 none) z.0 z.2)) (λ c. (sym is c, sym word_is c, sym said_is c))
      (allows_then (KeepsFlip plan) slots id (OfWriter q, []) (m + i) (λ _. forward y) (λ _ (after : Holder). after ≡ (OfWriter (record q { written = set q.written i y; wrote = q.wrote ++ (i, y) ∷ []; pending = None }), [])) (λ _. StoresAlone (step slots (m + i) (forward y) 0 none) (OfWriter q, []) (forward y))
      (keep.stores_alone plan slots id i y q l own high idle small)
      (λ _ after t k x e f. let at : m + i ≡ m + k = e ∙ ap (λ (z : PlanView). length z.owners + k) of in let same : i ≡ k = omega (arith, at) in let value : y ≡ x = omega (arith, f) in
      t ∙ ap (λ (z : ℕ × ℕ). (OfWriter (record q { written = set q.written z.0 z.1; wrote = q.wrote ++ (z.0, z.1) ∷ []; pending = None }), [])) (λ c. (same c, value c))))

  pub polls_stage : (slots id word : ℕ) (me : Holder) (q : WriterView) → me ≡ (OfWriter q, []) → word ≡ m + m + plan.seats
      → Allows (KeepsFlip plan) slots id me word (λ x. x) (PollsStage (step slots word 0 0 none) me)
  polls_stage slots id word me q is word_is = subst (λ (z : Holder × ℕ). Allows (KeepsFlip plan) slots id z.0 z.1 (λ x. x) (PollsStage (step slots z.1 0 0 none) z.0)) (λ c. (sym is c, sym word_is c)) (keep.polls plan slots id q)

  pub takes_up : (slots id word x : ℕ) (me : Holder) (q : WriterView) → me ≡ (OfWriter q, []) → word ≡ m + m + q.index → x ≡ q.polled → q.pending ≡ None
      → Allows (KeepsFlip plan) slots id me word (λ _. x) (λ _. TakesUp (step slots word x 0 none) me x)
  takes_up slots id word x me q is word_is x_is idle = subst (λ (z : Holder × ℕ × ℕ). Allows (KeepsFlip plan) slots id z.0 z.1 (λ _. z.2) (λ _. TakesUp (step slots z.1 z.2 0 none) z.0 z.2)) (λ c. (sym is c, sym word_is c, sym x_is c)) (keep.takes_up plan slots id q idle)

  pub loads_to_copy : (slots id i : ℕ) (me : Holder) (p : CopierView) → me ≡ (OfCopier p, []) → p.plan ≡ plan → i < m → p.stage ≡ 0
      → Allows (KeepsFlip plan) slots id me i (λ x. x) (LoadsToCopy (step slots i 0 0 none) me)
  loads_to_copy slots id i me p is of l low = subst (λ (z : Holder). Allows (KeepsFlip plan) slots id z i (λ x. x) (LoadsToCopy (step slots i 0 0 none) z)) (sym is)
      (allows_then (KeepsFlip plan) slots id (OfCopier p, []) i (λ x. x) (λ x (after : Holder). (after ≡ (OfCopier (record p { copying = Some i; value = x; stored = false }), [])) × (x < plan.limit)) (LoadsToCopy (step slots i 0 0 none) (OfCopier p, [])) (keep.loads_to_copy plan slots id i p l low)
      (λ x after t. (t.0, subst (λ (z : PlanView). x < z.limit) (sym of) t.1)))

  pub stores_copy : (slots id i word x : ℕ) (me : Holder) (p : CopierView) → me ≡ (OfCopier p, []) → word ≡ m + i → i < m → p.stage ≡ 0 → p.copying ≡ Some i → x ≡ forward p.value → p.value < plan.limit
      → Allows (KeepsFlip plan) slots id me word (λ _. x) (λ _. StoresCopy (step slots word x 0 none) me x)
  stores_copy slots id i word x me p is word_is l low busy x_is small = subst (λ (z : Holder × ℕ). Allows (KeepsFlip plan) slots id z.0 z.1 (λ _. x) (λ _. StoresCopy (step slots z.1 x 0 none) z.0 x)) (λ c. (sym is c, sym word_is c))
      (allows_then (KeepsFlip plan) slots id (OfCopier p, []) (m + i) (λ _. x) (λ _ (after : Holder). after ≡ (OfCopier (record p { stored = true; copied = set p.copied i false }), [])) (λ _. StoresCopy (step slots (m + i) x 0 none) (OfCopier p, []) x) (keep.stores_copy plan slots id i x p l low busy x_is small)
      (λ _ after t k e. let same : i ≡ k = cc in t ∙ ap (λ (z : ℕ). (OfCopier (record p { stored = true; copied = set p.copied z false }), [])) same))

  pub loads_to_check : (slots id i : ℕ) (me : Holder) (p : CopierView) → me ≡ (OfCopier p, []) → i < m → p.stage ≡ 0 → p.copying ≡ Some i → p.stored ≡ true
      → Allows (KeepsFlip plan) slots id me i (λ x. x) (LoadsToCheck (step slots i 0 0 none) me)
  loads_to_check slots id i me p is l low busy done = subst (λ (z : Holder). Allows (KeepsFlip plan) slots id z i (λ x. x) (LoadsToCheck (step slots i 0 0 none) z)) (sym is) (keep.loads_to_check plan slots id i p l low busy done)

  pub finds_stage : (slots id j word : ℕ) (me : Holder) (p : CopierView) → me ≡ (OfCopier p, []) → word ≡ m + m + j → p.plan ≡ plan → j < plan.seats
      → Allows (KeepsFlip plan) slots id me word (λ x. x) (FindsStage (step slots word 0 0 none) me)
  finds_stage slots id j word me p is word_is of l = subst (λ (z : Holder × ℕ). Allows (KeepsFlip plan) slots id z.0 z.1 (λ x. x) (FindsStage (step slots z.1 0 0 none) z.0)) (λ c. (sym is c, sym word_is c))
      (allows_then (KeepsFlip plan) slots id (OfCopier p, []) (m + m + j) (λ x. x) (λ x (after : Holder). (after ≡ (OfCopier (looking_copier p j x), [])) × IsPostedOrOneLess x p.stage × (get_or p.found j 0 ≤ x)) (FindsStage (step slots (m + m + j) 0 0 none) (OfCopier p, []))
      (keep.finds plan slots id j p l)
      (λ x after t k e. let at : m + m + j ≡ m + m + k = e ∙ ap (λ (z : PlanView). length z.owners + length z.owners + k) of in let same : j ≡ k = omega (arith, at) in
      (t.0 ∙ ap (λ (z : ℕ). (OfCopier (looking_copier p z x), [])) same, t.1, subst (λ (z : ℕ). get_or p.found z 0 ≤ x) same t.2)))

  pub posts_stage : (slots id word x : ℕ) (me : Holder) (p : CopierView) → me ≡ (OfCopier p, []) → word ≡ m + m + plan.seats → x ≡ p.stage + 1 → FoundAll plan.seats p.stage p.found → p.stage < 2 → (p.stage ≡ 0 → AllMarked p.copied)
      → Allows (KeepsFlip plan) slots id me word (λ _. x) (λ _. PostsStage (step slots word x 0 none) me x)
  posts_stage slots id word x me p is word_is x_is all low copied = subst (λ (z : Holder × ℕ × ℕ). Allows (KeepsFlip plan) slots id z.0 z.1 (λ _. z.2) (λ _. PostsStage (step slots z.1 z.2 0 none) z.0 z.2)) (λ c. (sym is c, sym word_is c, sym x_is c)) (keep.posts plan slots id p all low copied)

  pub retires : (slots id i : ℕ) (me : Holder) (p : CopierView) → me ≡ (OfCopier p, []) → i < m → FoundAll plan.seats 2 p.found
      → Allows (KeepsFlip plan) slots id me i (λ _. retired_mark) (λ _. Retires (step slots i retired_mark 0 none) me retired_mark)
  retires slots id i me p is l all = subst (λ (z : Holder). Allows (KeepsFlip plan) slots id z i (λ _. retired_mark) (λ _. Retires (step slots i retired_mark 0 none) z retired_mark)) (sym is) (keep.retires plan slots id i p l all)
