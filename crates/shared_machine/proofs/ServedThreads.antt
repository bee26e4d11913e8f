-- How many threads a worker serves.
use Rattle.std.proofs.Common.{◌≡◌, ◌+◌, ℕ, zero, suc, Bool, true, false, cond, if◌then◌else◌, List, [], ◌∷◌, refl, add-one, arith, sym, ap, ◌∙◌}
use Rattle.std.proofs.lemmas.List.Sums.{sum_by-cons}
use Rattle.std.specs.Prelude.{◌&&◌}
use Rattle.std.specs.List.{count_by}
use Rattle.interleaving_core.specs.simulation.MachineStates.{MachineState}
use Rattle.interleaving_core.specs.simulation.threads_monitors.Threads.{is_live, is_live_at}
use Rattle.interleaving_core.specs.simulation.threads_monitors.declared.threads.Thread.{Thread}
use Rattle.shared_machine.specs.Work.{is_driven_by, served_below}

module _ (c : MachineState) (workers worker n count : ℕ) (counted : count ≡ served_below c workers worker n) where
  -- the thread of the next number is served
  pub count_with : (is_live_at c.threads n && is_driven_by workers worker n) ≡ true → count + 1 ≡ served_below c workers worker (n + 1)
  count_with is = ap (λ k. k + 1) counted ∙ ap (λ b. served_below c workers worker n + (if b then 1 else 0)) (sym is) ∙ ap (served_below c workers worker) (sym (add-one n))

  -- it is not
  pub count_without : (is_live_at c.threads n && is_driven_by workers worker n) ≡ false → count ≡ served_below c workers worker (n + 1)
  count_without is = counted ∙ sym (no_more (served_below c workers worker n)) ∙ ap (λ b. served_below c workers worker n + (if b then 1 else 0)) (sym is) ∙ ap (served_below c workers worker) (sym (add-one n))
    where
      no_more : (k : ℕ) → k + 0 ≡ k
      no_more k = omega arith

not_counted : (b : Bool) (n : ℕ) → cond b 1 0 + n ≡ 0 → (b ≡ false) × (n ≡ 0)
not_counted true n none = absurd (omega (arith, none))
not_counted false n none = (refl, omega (arith, none))

-- where no thread is live, none of any number is
not_live_at : (ts : List Thread) → count_by is_live ts ≡ 0 → (n : ℕ) → is_live_at ts n ≡ false
not_live_at [] none n = refl
not_live_at (t ∷ ts) none zero = (not_counted (is_live t) (count_by is_live ts) (sym (sum_by-cons (λ (x : Thread). cond (is_live x) 1 0) t ts) ∙ none)).0
not_live_at (t ∷ ts) none (suc n) =
    not_live_at ts (not_counted (is_live t) (count_by is_live ts) (sym (sum_by-cons (λ (x : Thread). cond (is_live x) 1 0) t ts) ∙ none)).1 n

-- so none is served
pub none_served : (c : MachineState) (workers worker : ℕ) → count_by is_live c.threads ≡ 0 → (n : ℕ) → served_below c workers worker n ≡ 0
none_served c workers worker none zero = refl
none_served c workers worker none (suc n) =
    ap (λ b. served_below c workers worker n + (if b && is_driven_by workers worker n then 1 else 0)) (not_live_at c.threads none n)
    ∙ ap (λ k. k + 0) (none_served c workers worker none n)
