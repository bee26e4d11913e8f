-- Each event is in one row.
use Rattle.std.proofs.Common.{◌≡◌, ◌==◌, ◌&&◌, ◌+◌, ◌<◌, ◌≤◌, ℕ, zero, suc, Bool, true, false, Contains, List, [], ◌∷◌, length, if◌then◌else◌, inl, inr, refl, sym, ap, subst, ◌∙◌, arith}
use Rattle.std.proofs.lemmas.Bool.Decides.{nat_tests}
use Rattle.std.proofs.lemmas.List.Elements.{Contains-append_cases, Contains-append_left, Contains-append_right}
use Rattle.cil_model.specs.declared.events.Event.{Event}
use Rattle.cil_model.specs.declared.reports.Report.{Report}
use Rattle.run_picture.specs.Laws.{IsInOneRow}
use Rattle.run_picture.specs.Rows.{number_in, numbers_of, row_of}
use Rattle.run_picture.specs.Windows.{is_in_window}
use Rattle.run_picture.specs.declared.rows.TheConstants.{ROWS}
use Rattle.run_picture.specs.declared.windows.Window.{Window}
use Rattle.run_picture.proofs.RowLaws.{row_of_within}

-- a list of one number, or of none
in_one : (b : Bool) (n x : ℕ) → Contains (if b then n ∷ [] else []) x → (b ≡ true) × (n ≡ x)
in_one true n x (zero, within, is) = (refl, is)
in_one true n x (suc k, within, is) = absurd (omega (arith, within))
in_one false n x (k, within, is) = absurd (omega (arith, within))

both_true : (a b : Bool) → (a && b) ≡ true → b ≡ true
both_true true b h = h
both_true false b h = absurd (cc)

module _ (w : Window) where
  -- where a number is in the row of an event, it is that event's, whose row that is
  own : (row n : ℕ) (e : Event) (r : Report) (x : ℕ) → Contains (number_in w row n e r) x → (row ≡ row_of e r) × (n ≡ x)
  own row n e r x h =
      let (is, same) = in_one (is_in_window w n && (row_of e r == row)) n x h in
      let equal : (row_of e r == row) ≡ true = both_true (is_in_window w n) (row_of e r == row) is in
      (grind (arith, nat_tests, equal), same)

  -- no number is less than the first one
  above : (row n : ℕ) (es : List Event) (rs : List Report) (x : ℕ) → Contains (numbers_of w row n es rs) x → n ≤ x
  above row n [] rs x h = absurd (omega (arith, h.1))
  above row n (e ∷ es) [] x h = absurd (omega (arith, h.1))
  above row n (e ∷ es) (r ∷ rs) x h = elim (Contains-append_cases (number_in w row n e r) (numbers_of w row (n + 1) es rs) x h) [
    | inl k ↦ let same : n ≡ x = (own row n e r x k).1 in omega (arith, same)
    | inr k ↦ let more : n + 1 ≤ x = above row (n + 1) es rs x k in omega (arith, more)
  ]

  -- an event in the window is in its own row
  here : (n : ℕ) (e : Event) (r : Report) → is_in_window w n ≡ true → Contains (number_in w (row_of e r) n e r) n
  here n e r is =
      let itself : (row_of e r == row_of e r) ≡ true = grind (arith, nat_tests) in
      let test : (is_in_window w n && (row_of e r == row_of e r)) ≡ true = ap (λ b. b && (row_of e r == row_of e r)) is ∙ itself in
      subst (λ b. Contains (if b then n ∷ [] else []) n) (sym test) (0, omega arith, refl)

  abbrev IsOnly : ℕ → List Event → List Report → ℕ → ℕ → Type 0
  IsOnly n es rs x row = (row < ROWS) × Contains (numbers_of w row n es rs) x × ((other : ℕ) → Contains (numbers_of w other n es rs) x → other ≡ row)

  only : (n : ℕ) (es : List Event) (rs : List Report) → length rs ≡ length es → (k : ℕ) → k < length es → is_in_window w (n + k) ≡ true → (row : ℕ) × IsOnly n es rs (n + k) row
  only n [] rs each k within is = absurd (omega (arith, within))
  only n (e ∷ es) [] each k within is = absurd (omega (arith, each))
  only n (e ∷ es) (r ∷ rs) each zero within is =
      let same : n + 0 ≡ n = omega arith in
      let row = row_of e r in
      subst (λ x. (row : ℕ) × IsOnly n (e ∷ es) (r ∷ rs) x row) (sym same) (
        row,
        (
          row_of_within e r,
          Contains-append_left (number_in w row n e r) (numbers_of w row (n + 1) es rs) n (here n e r (subst (λ x. is_in_window w x ≡ true) same is)),
          λ other h. elim (Contains-append_cases (number_in w other n e r) (numbers_of w other (n + 1) es rs) n h) [
            | inl k ↦ (own other n e r n k).0
            | inr k ↦ let more : n + 1 ≤ n = above other (n + 1) es rs n k in absurd (omega (arith, more))
          ],
        ),
      )
  only n (e ∷ es) (r ∷ rs) each (suc j) within is =
      let same : n + 1 + j ≡ n + suc j = omega arith in
      let (row, (below, has, others)) = only (n + 1) es rs (omega (arith, each)) j (omega (arith, within)) (subst (λ x. is_in_window w x ≡ true) (sym same) is) in
      subst (λ x. (row : ℕ) × IsOnly n (e ∷ es) (r ∷ rs) x row) same (
        row,
        (
          below,
          Contains-append_right (number_in w row n e r) (numbers_of w row (n + 1) es rs) (n + 1 + j) has,
          λ other h. elim (Contains-append_cases (number_in w other n e r) (numbers_of w other (n + 1) es rs) (n + 1 + j) h) [
            | inl k ↦ let at : n ≡ n + 1 + j = (own other n e r (n + 1 + j) k).1 in absurd (omega (arith, at))
            | inr k ↦ others other k
          ],
        ),
      )

pub one_row : (w : Window) (es : List Event) (rs : List Report) → length rs ≡ length es → (n : ℕ) → n < length es → is_in_window w n ≡ true → (row : ℕ) × IsInOneRow w es rs n row
one_row w es rs each n within is =
    let same : 0 + n ≡ n = omega arith in
    subst (λ x. (row : ℕ) × IsInOneRow w es rs x row) same (only w 0 es rs each n within (subst (λ x. is_in_window w x ≡ true) (sym same) is))
