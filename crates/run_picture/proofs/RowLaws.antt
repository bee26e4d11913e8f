-- The rows of a picture, event by event.
use Rattle.std.proofs.Common.{◌≡◌, ◌≢◌, ◌==◌, ◌&&◌, ◌+◌, ◌<◌, ℕ, suc, Bool, true, false, List, [], ◌∷◌, ◌++◌, length, get_or, if◌then◌else◌, replicate, refl, sym, ap, ◌∙◌, arith, append-nil, append_assoc}
use Rattle.std.proofs.lemmas.List.{get_or-replicate, get_or-set_other, get_or-set_same, length-set}
use Rattle.std.specs.Prelude.{nat_lt, set}
use Rattle.std.proofs.lemmas.Bool.Decides.{nat_tests}
use Rattle.cil_model.specs.declared.events.Event.{Event}
use Rattle.cil_model.specs.declared.events.Event.TheVariants.{Step, Ack, Gc}
use Rattle.cil_model.specs.declared.reports.End.TheVariants.{Done, Budget, Fault}
use Rattle.cil_model.specs.declared.reports.Report.{Report}
use Rattle.cil_model.specs.declared.reports.Report.TheVariants.{Ran, Blocked, Ended, Absent, Acked, NothingPosted, Worked, Waiting, CycleDone}
use Rattle.run_picture.specs.Rows.{drawn_rows, number_in, numbers_of, row_of, thread_row}
use Rattle.run_picture.specs.Windows.{is_in_window}
use Rattle.run_picture.specs.declared.rows.TheConstants.{ROWS}
use Rattle.run_picture.specs.declared.windows.Window.{Window}

-- ---- each event has a row

thread_row_within : (t : ℕ) (r : Report) → t < 16 → thread_row t r < 84
thread_row_within t Ran h = omega arith
thread_row_within t (Ended Done) h = omega arith
thread_row_within t (Ended Budget) h = omega arith
thread_row_within t (Ended (Fault fault)) h = omega arith
thread_row_within t Blocked h = omega arith
thread_row_within t Acked h = omega arith
thread_row_within t NothingPosted h = omega arith
thread_row_within t Absent h = omega arith
thread_row_within t Worked h = omega arith
thread_row_within t Waiting h = omega arith
thread_row_within t CycleDone h = omega arith

of_thread_within : (t : ℕ) (r : Report) → (if nat_lt t 16 then thread_row t r else 83) < 84
of_thread_within t r = by_test (nat_lt t 16) refl
  where
    by_test : (b : Bool) → nat_lt t 16 ≡ b → (if b then thread_row t r else 83) < 84
    by_test true is = thread_row_within t r (grind (arith, nat_tests, is))
    by_test false is = omega arith

pub row_of_within : (e : Event) (r : Report) → row_of e r < ROWS
row_of_within (Step t) r = of_thread_within t r
row_of_within (Ack t) r = of_thread_within t r
row_of_within Gc Worked = omega arith
row_of_within Gc Waiting = omega arith
row_of_within Gc CycleDone = omega arith
row_of_within Gc Ran = omega arith
row_of_within Gc Blocked = omega arith
row_of_within Gc (Ended end) = omega arith
row_of_within Gc Absent = omega arith
row_of_within Gc Acked = omega arith
row_of_within Gc NothingPosted = omega arith

-- ---- one event more

nothing_more : (n : ℕ) → n + 0 ≡ n
nothing_more n = omega arith

next_number : (n k : ℕ) → n + 1 + k ≡ n + suc k
next_number n k = omega arith

pub numbers_more : (w : Window) (row n : ℕ) (es : List Event) (rs : List Report) (e : Event) (r : Report) → length rs ≡ length es →
    numbers_of w row n (es ++ e ∷ []) (rs ++ r ∷ []) ≡ numbers_of w row n es rs ++ number_in w row (n + length es) e r
numbers_more w row n [] [] e r each = append-nil (number_in w row n e r) ∙ ap (λ m. number_in w row m e r) (sym (nothing_more n))
numbers_more w row n [] (y ∷ ys) e r each = absurd (omega (arith, each))
numbers_more w row n (x ∷ es) [] e r each = absurd (omega (arith, each))
numbers_more w row n (x ∷ es) (y ∷ rs) e r each =
    ap (λ l. number_in w row n x y ++ l) (numbers_more w row (n + 1) es rs e r (omega (arith, each)))
    ∙ sym (append_assoc (number_in w row n x y) (numbers_of w row (n + 1) es rs) (number_in w row (n + 1 + length es) e r))
    ∙ ap (λ m. (number_in w row n x y ++ numbers_of w row (n + 1) es rs) ++ number_in w row m e r) (next_number n (length es))

-- a row with one event more of its own
with_number : (rows : List (List ℕ)) (own row n : ℕ) → own < length rows →
    get_or (set rows own (get_or rows own [] ++ n ∷ [])) row [] ≡ get_or rows row [] ++ (if own == row then n ∷ [] else [])
with_number rows own row n within = by_test (own == row) refl
  where
    by_test : (b : Bool) → (own == row) ≡ b → get_or (set rows own (get_or rows own [] ++ n ∷ [])) row [] ≡ get_or rows row [] ++ (if b then n ∷ [] else [])
    by_test true is =
        let same : own ≡ row = grind (arith, nat_tests, is) in
        ap (λ k. get_or (set rows own (get_or rows own [] ++ n ∷ [])) k []) (sym same) ∙ get_or-set_same rows own (get_or rows own [] ++ n ∷ []) [] within
        ∙ ap (λ k. get_or rows k [] ++ n ∷ []) same
    by_test false is =
        let other : row ≢ own = grind (arith, nat_tests, is) in
        get_or-set_other rows own row (get_or rows own [] ++ n ∷ []) [] other ∙ sym (append-nil (get_or rows row []))

pub row_drawn : (w : Window) (n : ℕ) (e : Event) (r : Report) (rows : List (List ℕ)) (row : ℕ) → length rows ≡ ROWS →
    get_or (drawn_rows w n e r rows) row [] ≡ get_or rows row [] ++ number_in w row n e r
row_drawn w n e r rows row many = by_test (is_in_window w n)
  where
    by_test : (b : Bool) → get_or (if b then set rows (row_of e r) (get_or rows (row_of e r) [] ++ n ∷ []) else rows) row [] ≡ get_or rows row [] ++ (if b && (row_of e r == row) then n ∷ [] else [])
    by_test true = with_number rows (row_of e r) row n (omega (arith, row_of_within e r, many))
    by_test false = sym (append-nil (get_or rows row []))

pub many_drawn : (w : Window) (n : ℕ) (e : Event) (r : Report) (rows : List (List ℕ)) → length (drawn_rows w n e r rows) ≡ length rows
many_drawn w n e r rows = by_test (is_in_window w n)
  where
    by_test : (b : Bool) → length (if b then set rows (row_of e r) (get_or rows (row_of e r) [] ++ n ∷ []) else rows) ≡ length rows
    by_test true = length-set rows (row_of e r) (get_or rows (row_of e r) [] ++ n ∷ [])
    by_test false = refl

-- ---- no event yet

pub rows_empty : (rows : List (List ℕ)) (row : ℕ) → rows ≡ replicate ROWS [] → row < ROWS → get_or rows row [] ≡ []
rows_empty rows row e h = ap (λ (l : List (List ℕ)). get_or l row []) e ∙ get_or-replicate ROWS row [] [] h
