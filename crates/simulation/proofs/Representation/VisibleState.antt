-- What a user sees of a machine that represents a state is so in the state: bytes printed, live threads, ends, and how many were started.
use Rattle.std.proofs.Common.{◌≡◌, ◌≢◌, ◌<◌, ℕ, zero, suc, true, false, List, [], ◌∷◌, map, length, Option, Some, None, option_map, slice_get, is_none, refl, sym, ap, ◌∙◌, arith}
use Rattle.std.specs.Prelude.{◌+◌, Bool, cond, unwrap_or}
use Rattle.std.proofs.lemmas.List.{length-map}
use Rattle.std.proofs.lemmas.Option.{option_and_then_some, same_Some}
use Rattle.std.specs.List.{count_by, fold, zip}
use Rattle.std.specs.Option.{option_map_or}
use Rattle.interpreter.specs.cil_model.declared.types.ClassName.{ClassName}
use Rattle.interpreter.specs.cil_model.declared.trees.Code.{Code}
use Rattle.interpreter.specs.cil_model.declared.trees.Method.{Method}
use Rattle.interpreter.specs.cil_model.declared.trees.Tree.{Tree}
use Rattle.interpreter.specs.cil_model.declared.events.Event.{Event}
use Rattle.interpreter.specs.cil_model.declared.limits.Limits.{Limits}
use Rattle.interpreter.specs.cil_model.declared.reports.End.{End}
use Rattle.interpreter.specs.cil_model.declared.reports.Report.{Report}
use Rattle.interpreter.specs.cil_model.Bodies.{code_of, entry_points}
use Rattle.interpreter.specs.reference_machine.States.{Frame as StateFrame, State, Thread as StateThread, is_live as is_live_in, is_live_thread}
use Rattle.interpreter.specs.reference_machine.Runs.{initial_state, initial_state_at, run, thread_part}
use Rattle.interpreter.specs.threads_monitors.Threads.{end_in, end_of, is_live, is_live_at}
use Rattle.interpreter.specs.threads_monitors.declared.threads.ThreadStatus.{ThreadStatus}
use Rattle.interpreter.specs.threads_monitors.declared.threads.ThreadStatus.TheVariants.{Live, Ended}
use Rattle.interpreter.specs.threads_monitors.declared.threads.Thread.{Thread}
use Rattle.simulation.specs.Agreement.{Agree}
use Rattle.simulation.specs.Budgets.{AreWithinBudget, HasEnded, KeepsBudgets, steps_left_of}
use Rattle.simulation.specs.MachineStates.{MachineState}
use Rattle.simulation.specs.Runs.{FollowsReference, RunsAlike, RefinesAfter}
use Rattle.simulation.specs.Transitions.{initial_machine_state}
use Rattle.simulation.specs.Refines.{IsThread, Names, Represents, StatusRefines}
use Rattle.simulation.proofs.ListLaws.AgreeingLists.{agree_at}
use Rattle.interpreter.proofs.cil_model.Lists.{none_is_some}

-- ---- the states of threads, and what was printed

same_end : (tree : Tree) (limits : Limits) (name : Names) (thread_status : ThreadStatus) (frames : List StateFrame) (ended : Option End) → StatusRefines tree limits name thread_status frames ended → end_in thread_status ≡ ended
same_end tree limits name (Live m) frames None h = refl
same_end tree limits name (Ended e) frames (Some e') h = ap Some h
same_end tree limits name _ frames _ h = absurd h

ends_agree : (tree : Tree) (limits : Limits) (name : Names) (ts : List Thread) (us : List StateThread) → Agree (IsThread tree limits name) ts us → map end_of ts ≡ map (λ (u : StateThread). u.ended) us
ends_agree tree limits name [] [] h = refl
ends_agree tree limits name (t ∷ ts) (u ∷ us) h = ap (λ e. e ∷ map end_of ts) (same_end tree limits name t.thread_status u.frames u.ended h.0.thread_status) ∙ ap (λ es. u.ended ∷ es) (ends_agree tree limits name ts us h.1)
ends_agree tree limits name _ _ h = absurd h

-- whether a thread of a number is live, and how many are, follows from how the threads have ended
same_first : (a b : Option End) (xs ys : List (Option End)) → a ∷ xs ≡ b ∷ ys → a ≡ b
same_first a b xs ys e = cc

same_rest : (a b : Option End) (xs ys : List (Option End)) → a ∷ xs ≡ b ∷ ys → xs ≡ ys
same_rest a b xs ys e = cc

none_first : {X : Type 0} → (a : Option End) (xs : List (Option End)) → [] ≡ a ∷ xs → X
none_first a xs e = absurd (cc e)

abbrev ended : StateThread → Option End
ended u = u.ended

live_by_ends : (ts : List Thread) (us : List StateThread) → map end_of ts ≡ map ended us → (t : ℕ) → is_live_at ts t ≡ unwrap_or (option_map is_live_thread (slice_get us t)) false
live_by_ends [] [] e t = refl
live_by_ends (x ∷ ts) (u ∷ us) e zero = ap is_none (same_first (end_of x) (ended u) (map end_of ts) (map ended us) e)
live_by_ends (x ∷ ts) (u ∷ us) e (suc t) = live_by_ends ts us (same_rest (end_of x) (ended u) (map end_of ts) (map ended us) e) t
live_by_ends [] (u ∷ us) e t = none_first (ended u) (map ended us) e
live_by_ends (x ∷ ts) [] e t = none_first (end_of x) (map end_of ts) (sym e)

count_from : (n : ℕ) (ts : List Thread) (us : List StateThread) → map end_of ts ≡ map ended us
    → fold (λ (a : ℕ) (x : Thread). a + cond (is_live x) 1 0) n ts ≡ fold (λ (a : ℕ) (u : StateThread). a + cond (is_live_thread u) 1 0) n us
count_from n [] [] e = refl
count_from n (x ∷ ts) (u ∷ us) e =
    let first = ap is_none (same_first (end_of x) (ended u) (map end_of ts) (map ended us) e) in
    let rest = same_rest (end_of x) (ended u) (map end_of ts) (map ended us) e in
    ap (λ (b : Bool). fold (λ (a : ℕ) (y : Thread). a + cond (is_live y) 1 0) (n + cond b 1 0) ts) first ∙ count_from (n + cond (is_live_thread u) 1 0) ts us rest
count_from n [] (u ∷ us) e = none_first (ended u) (map ended us) e
count_from n (x ∷ ts) [] e = none_first (end_of x) (map end_of ts) (sym e)

module _ (c : MachineState) (s : State) (r : Represents c s) where
  -- the threads stand alike
  pub ends_refine : map end_of c.threads ≡ map (λ (u : StateThread). u.ended) s.threads
  ends_refine = ends_agree c.tree c.limits r.refines.name c.threads s.threads r.refines.by.threads

  pub printed_refines : c.printed ≡ s.printed
  printed_refines = r.refines.by.memory.printed_is

  pub live_refine : (t : ℕ) → is_live_at c.threads t ≡ is_live_in s t
  live_refine t = live_by_ends c.threads s.threads ends_refine t

  pub count_refines : count_by is_live c.threads ≡ count_by is_live_thread s.threads
  count_refines = count_from 0 c.threads s.threads ends_refine

  pub started_refine : length c.threads ≡ length s.threads
  started_refine = sym (length-map c.threads end_of) ∙ ap length ends_refine ∙ length-map s.threads (λ (u : StateThread). u.ended)

-- ---- budgets

-- before a run, each thread of the state has its whole budget
opened_budget : (tree : Tree) (limits : Limits) (s : State) → initial_state tree limits ≡ Some s → (t : ℕ) (u : StateThread) → slice_get s.threads t ≡ Some u → u.steps_left ≡ limits.budget
opened_budget tree limits s opens t u there = option_and_then_some _ (slice_get (entry_points tree) 0) s opens (λ entry is h. by_code entry (code_of entry.1.kind) h)
  where
    opened : (entry : ClassName × Method) (code : Code) (n : ℕ) → slice_get (initial_state_at tree limits entry code).threads n ≡ Some u → u.steps_left ≡ limits.budget
    opened entry code zero is = sym (ap (λ (x : StateThread). x.steps_left) (same_Some _ u is))
    opened entry code (suc n) is = none_is_some u is

    by_code : (entry : ClassName × Method) (o : Option Code) → option_map (initial_state_at tree limits entry) o ≡ Some s → u.steps_left ≡ limits.budget
    by_code entry None e = none_is_some s e
    by_code entry (Some code) e = opened entry code t (ap (λ (x : State). slice_get x.threads t) (same_Some (initial_state_at tree limits entry code) s e) ∙ there)

module _ (tree : Tree) (limits : Limits) (c : MachineState) (s : State) (opens : initial_state tree limits ≡ Some s) (r : Represents c s) (same : c.limits ≡ limits) where
  -- so it is on the machine
  whole_budget : (t : ℕ) → steps_left_of c t ≡ limits.budget
  whole_budget t = by_thread (slice_get c.threads t) refl
    where
      by_thread : (o : Option Thread) → slice_get c.threads t ≡ o → option_map_or (λ (x : Thread). x.steps_left) o c.limits.budget ≡ limits.budget
      by_thread None is = ap (λ (l : Limits). l.budget) same
      by_thread (Some thread) is =
          let at = agree_at (IsThread c.tree c.limits r.refines.name) c.threads s.threads r.refines.by.threads t thread is in
          at.2.steps_left ∙ opened_budget tree limits s opens t at.0 at.1

module _ (limits : Limits) (c d : MachineState) (s : State) (events : List (Event × Report)) (r : Represents d s) (same : d.limits ≡ limits) (some : 0 < limits.budget)
    (whole : (t : ℕ) → steps_left_of c t ≡ limits.budget) (kept : KeepsBudgets c d events) where
  -- a thread without steps left has ended
  spent : (t : ℕ) → steps_left_of d t ≡ 0 → HasEnded s t
  spent t none = by_thread (slice_get d.threads t) refl
    where
      ended_at : (thread : Thread) → slice_get d.threads t ≡ Some thread → (u : StateThread) → slice_get s.threads t ≡ Some u → end_of thread ≡ u.ended → u.ended ≢ None
      ended_at thread there u there' alike is =
          let live : is_live_at d.threads t ≡ true = ap (λ (o : Option Thread). option_map_or is_live o false) there ∙ ap (λ (e : Option End). is_none e) (alike ∙ is) in
          let left : 0 < steps_left_of d t = kept.live t live in
          omega (arith, left, none)

      by_thread : (o : Option Thread) → slice_get d.threads t ≡ o → HasEnded s t
      by_thread None is =
          let budget : steps_left_of d t ≡ limits.budget = ap (λ (o : Option Thread). option_map_or (λ (x : Thread). x.steps_left) o d.limits.budget) is ∙ ap (λ (l : Limits). l.budget) same in
          absurd (omega (arith, budget, none, some))
      by_thread (Some thread) is =
          let at = agree_at (IsThread d.tree d.limits r.refines.name) d.threads s.threads r.refines.by.threads t thread is in
          (at.0, at.1, ended_at thread is at.0 at.1 (same_end d.tree d.limits r.refines.name thread.thread_status at.0.frames at.0.ended at.2.thread_status))

  within_budget : AreWithinBudget limits events s
  within_budget = record { within = λ t. omega (arith, kept.counted t, whole t); ended = λ t all. spent t (omega (arith, kept.counted t, whole t, all)) }

-- a machine that represented the initial state, after a run
pub occurs_after : (tree : Tree) (limits : Limits) (c d : MachineState) (events : List Event) (reports : List Report) (first : State) → initial_state tree limits ≡ Some first → initial_machine_state tree limits ≡ Some c → Represents c first → c.tree ≡ tree → c.limits ≡ limits → d.limits ≡ c.limits → 0 < limits.budget
    → length reports ≡ length events → FollowsReference c d (zip events reports) → RefinesAfter tree limits events reports d
occurs_after tree limits c d events reports first opens opened r same_tree same_limits kept_limits some each follows =
    let alike : RunsAlike c d (zip events reports) first = follows first r in
    record {
      state = alike.state;
      is_run = record {
        each = each;
        first = first;
        begins = opens;
        gives = ap (λ x. run x limits first (thread_part (zip events reports))) (sym same_tree) ∙ (ap (λ x. run c.tree x first (thread_part (zip events reports))) (sym same_limits) ∙ alike.gives);
        machine = c;
        opened = opened;
        last = d;
        refuses = alike.refuses;
      };
      ends = refl;
      budgets = within_budget limits c d alike.state (zip events reports) alike.represents (kept_limits ∙ same_limits) some (whole_budget tree limits c first opens r same_limits) alike.budgets;
      represents = alike.represents;
    }
