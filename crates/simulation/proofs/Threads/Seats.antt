-- Which seat each thread has once the seat of one is changed.
-- What the end of a thread, the start of another and an acknowledgement leave of the seats of threads.
use Rattle.std.proofs.Common.{◌≡◌, ◌⊎◌, ℕ, zero, suc, true, false, List, ◌∷◌, Option, Some, option_and_then, slice_get, slice_set, refl, inl, inr, sym, ap, ◌∙◌, ◌<◌, ◌-◌, [], ◌++◌, length, replicate, get_or, None, arith}
use Rattle.std.proofs.lemmas.Bool.{cases_eq}
use Rattle.std.proofs.lemmas.Option.{same_Some, slice_get-get_or}
use Rattle.interpreter.proofs.cil_model.Lists.{set_is_there, last_is_there, none_is_some, set_or_was}
use Rattle.interpreter.proofs.cil_model.SameLaws.{never}
use Rattle.collector.specs.phase_handshake.Handshakes.{Handshakes, seat_of, first_handshakes, first_seat, join_thread, leave_handshakes as without_seat}
use Rattle.collector.specs.phase_handshake.declared.posts.Seat.{Seat}
use Rattle.collector.proofs.phase_handshake.Closeness.{seat_there, joined_close, left_close}
use Rattle.std.specs.Prelude.{is_some}
use Rattle.std.specs.Option.{option_map_or}
use Rattle.std.proofs.lemmas.List.{length-replicate}
use Rattle.interpreter.specs.cil_model.declared.limits.TheConstants.{MOST_THREADS}
use Rattle.interpreter.specs.cil_model.declared.reports.End.{End}
use Rattle.interpreter.specs.threads_monitors.Frames.{Frames}
use Rattle.interpreter.specs.threads_monitors.Threads.{end_after, is_live, is_live_at, report_of, charge, status_after}
use Rattle.interpreter.specs.threads_monitors.declared.effects.Effect.{Effect}
use Rattle.interpreter.specs.threads_monitors.declared.effects.Effect.TheVariants.{Continues}
use Rattle.interpreter.specs.threads_monitors.declared.threads.ThreadStatus.TheVariants.{Live, Ended}
use Rattle.interpreter.specs.threads_monitors.declared.threads.Thread.{Thread}
use Rattle.interpreter.specs.cil_model.declared.reports.Report.{Report}
use Rattle.interpreter.specs.cil_model.declared.reports.Report.TheVariants.{Ended as HasEnded}
use Rattle.simulation.specs.Sound.{AreSeated}
use Rattle.simulation.specs.Transitions.{live_thread, seats_after}

-- ---- indices of lists

-- a change leaves every other item
pub set_other : {X : Type 0} (xs : List X) (t n : ℕ) (x : X) → (n ≡ t → ⊥) → slice_get (slice_set xs t x) n ≡ slice_get xs n
set_other (y ∷ ys) zero zero x other = absurd (other refl)
set_other (y ∷ ys) (suc t) (suc n) x other = set_other ys t n x (λ e. other (ap suc e))
set_other _ _ _ x other = refl

-- ---- seats

-- the seat at another index is as it was
pub other_seat : (h : Handshakes) (t n : ℕ) (o : Option Seat) → (n ≡ t → ⊥) → seat_of (record h { seats = slice_set h.seats t o }) n ≡ seat_of h n
other_seat h t n o other = ap (option_and_then (λ (x : Option Seat). x)) (set_other h.seats t n o other)

module _ (h : Handshakes) (t : ℕ) (next : Seat) where
  abbrev after : Handshakes
  after = record h { seats = slice_set h.seats t (Some next) }

  -- a seat that was there is the new one
  pub own_seat : (s : Seat) → seat_of h t ≡ Some s → seat_of after t ≡ Some next
  own_seat s is = ap (option_and_then (λ (x : Option Seat). x)) (set_is_there h.seats t (Some next) (Some s) (seat_there h t s is))

  -- so each seat is the new one or as it was
  pub seat_cases : (s : Seat) → seat_of h t ≡ Some s → (n : ℕ) (x : Seat) → seat_of after n ≡ Some x → ((n ≡ t) × (x ≡ next)) ⊎ ((n ≡ t → ⊥) × (seat_of h n ≡ Some x))
  seat_cases s here n x is = by_index (cases_eq n t)
    where
      by_index : (n ≡ t) ⊎ (n ≡ t → ⊥) → ((n ≡ t) × (x ≡ next)) ⊎ ((n ≡ t → ⊥) × (seat_of h n ≡ Some x))
      by_index (inl same) = inl (same, same_Some x next (sym is ∙ ap (seat_of after) same ∙ own_seat s here))
      by_index (inr other) = inr (other, sym (other_seat h t n (Some next) other) ∙ is)

-- ---- What the end of a thread, the start of another and an acknowledgement leave of the seats of threads.

-- ---- indices of lists

-- one item more at the end leaves every other item
pub append_other : {X : Type 0} (xs : List X) (n : ℕ) (x : X) → (n ≡ length xs → ⊥) → slice_get (xs ++ x ∷ []) n ≡ slice_get xs n
append_other [] zero x other = absurd (other refl)
append_other (y ∷ ys) (suc n) x other = append_other ys n x (λ e. other (ap suc e))
append_other _ _ x other = refl

-- ---- live threads

-- a thread that continues is live, and all others are as they were
pub live_set : (xs : List Thread) (t n : ℕ) (x : Thread) → is_live x ≡ true → is_live_at xs t ≡ true → is_live_at (slice_set xs t x) n ≡ is_live_at xs n
live_set [] t n x lives there = never there
live_set (y ∷ ys) zero zero x lives there = lives ∙ sym there
live_set (y ∷ ys) (suc t) (suc n) x lives there = live_set ys t n x lives there
live_set _ _ _ x lives there = refl

-- a live one is so beside one more
pub live_more : (xs : List Thread) (t : ℕ) (x : Thread) → is_live_at xs t ≡ true → is_live_at (xs ++ x ∷ []) t ≡ true
live_more [] t x there = never there
live_more (y ∷ ys) zero x there = there
live_more (y ∷ ys) (suc t) x there = live_more ys t x there

-- one that has ended is not
dead_set : (xs : List Thread) (t : ℕ) (x : Thread) → is_live x ≡ false → is_live_at (slice_set xs t x) t ≡ false
dead_set [] t x ended = refl
dead_set (y ∷ ys) zero x ended = ended
dead_set (y ∷ ys) (suc t) x ended = dead_set ys t x ended

live_get : (xs ys : List Thread) (n : ℕ) → slice_get xs n ≡ slice_get ys n → is_live_at xs n ≡ is_live_at ys n
live_get xs ys n e = ap (λ o. option_map_or is_live o false) e

-- ---- seats

-- indices without seats
empty_indices : (m n : ℕ) → option_and_then (λ (x : Option Seat). x) (slice_get (replicate m None) n) ≡ None
empty_indices (suc m) (suc n) = empty_indices m n
empty_indices _ _ = refl

-- ---- another seat

-- an index without a seat
emptied : (seats : List (Option Seat)) (t : ℕ) → option_and_then (λ (x : Option Seat). x) (slice_get (slice_set seats t None) t) ≡ None
emptied (x ∷ xs) (suc t) = emptied xs t
emptied _ _ = refl

-- a seat that is there once one is set is that one, or was there
pub set_seat : (h : Handshakes) (t n : ℕ) (o : Option Seat) (s : Seat) → seat_of (record h { seats = slice_set h.seats t o }) n ≡ Some s → (o ≡ Some s) ⊎ (seat_of h n ≡ Some s)
set_seat h t n o s is = elim (set_or_was h.seats t n o (Some s) (seat_there (record h { seats = slice_set h.seats t o }) n s is)) [ inl new ↦ inl (sym new) | inr was ↦ inr (ap (option_and_then (λ (x : Option Seat). x)) was) ]

-- the seats once a step is counted were there,
pub counted_seat : (h : Handshakes) (t : ℕ) (report : Report) (n : ℕ) (s : Seat) → seat_of (seats_after h t report) n ≡ Some s → seat_of h n ≡ Some s
counted_seat h t (HasEnded e) n s is = elim (set_seat h t n None s is) [ inl new ↦ none_is_some s new | inr was ↦ was ]
counted_seat h t report n s is = is

-- and posts are the same
pub counted_posts : (h : Handshakes) (t : ℕ) (report : Report) → seats_after h t report ≡ record h { seats = (seats_after h t report).seats }
counted_posts h t (HasEnded e) = refl
counted_posts h t report = refl

module _ (h : Handshakes) (threads : List Thread) (fit : AreSeated h threads) where
  -- ---- a thread that continues, and one that ends

  -- a live thread in place of another
  pub live_fits : (t : ℕ) (x : Thread) → is_live x ≡ true → is_live_at threads t ≡ true → AreSeated h (slice_set threads t x)
  live_fits t x lives there = record { close = fit.close; live = λ n. live_set threads t n x lives there ∙ fit.live n }

  -- one that has ended, without a seat
  pub ended_fits : (t : ℕ) (x : Thread) → is_live x ≡ false → AreSeated (without_seat h t) (slice_set threads t x)
  ended_fits t x ended = record { close = left_close h fit.close t; live = λ n. lives n (cases_eq n t) }
    where
      lives : (n : ℕ) → (n ≡ t) ⊎ (n ≡ t → ⊥) → is_live_at (slice_set threads t x) n ≡ is_some (seat_of (without_seat h t) n)
      lives n (inl same) =
          ap (is_live_at (slice_set threads t x)) same ∙ dead_set threads t x ended ∙ ap is_some (sym (emptied h.seats t)) ∙ ap (λ k. is_some (seat_of (without_seat h t) k)) (sym same)
      lives n (inr other) = live_get (slice_set threads t x) threads n (set_other threads t n x other) ∙ fit.live n ∙ ap is_some (sym (other_seat h t n None other))

  -- once the step of a live thread is counted
  pub counted_fits : (t : ℕ) (effect : Effect) (m : Frames) (leave_handshakes : ℕ) → is_live_at threads t ≡ true →
      AreSeated (seats_after h t (charge effect (live_thread leave_handshakes m)).1) (slice_set threads t (charge effect (live_thread leave_handshakes m)).0)
  counted_fits t effect m leave_handshakes there = by_end (end_after effect (leave_handshakes - 1))
    where
      by_effect : (e : Effect) (x : Thread) → is_live x ≡ true → AreSeated (seats_after h t (report_of e)) (slice_set threads t x)
      by_effect Continues x lives = live_fits t x lives there
      by_effect _ x lives = live_fits t x lives there

      by_end : (o : Option End) → AreSeated (seats_after h t (status_after o m (leave_handshakes - 1) effect).1) (slice_set threads t (status_after o m (leave_handshakes - 1) effect).0)
      by_end None = by_effect effect (record { thread_status = Live m; steps_left = leave_handshakes - 1 }) refl
      by_end (Some e) = ended_fits t (record { thread_status = Ended e; steps_left = leave_handshakes - 1 }) refl

  -- ---- a thread that begins

  -- it has its starter's seat
  pub begun_fits : (t : ℕ) (new : Thread) → is_live new ≡ true → length threads < MOST_THREADS → is_live_at threads t ≡ true → AreSeated (join_thread h (length threads) t) (threads ++ new ∷ [])
  begun_fits t new lives room there = record { close = joined_close h fit.close (length threads) t; live = λ n. live n (cases_eq n (length threads)) }
    where
      inside : length threads < length h.seats
      inside = let indices = fit.close.indices in omega (arith, room, indices)

      here : slice_get (slice_set h.seats (length threads) (seat_of h t)) (length threads) ≡ Some (seat_of h t)
      here = set_is_there h.seats (length threads) (seat_of h t) (get_or h.seats (length threads) None) (slice_get-get_or h.seats (length threads) None inside)

      live : (n : ℕ) → (n ≡ length threads) ⊎ (n ≡ length threads → ⊥) → is_live_at (threads ++ new ∷ []) n ≡ is_some (seat_of (join_thread h (length threads) t) n)
      live n (inl same) =
          ap (is_live_at (threads ++ new ∷ [])) same ∙ ap (λ o. option_map_or is_live o false) (last_is_there threads new) ∙ lives ∙ sym there ∙ fit.live t ∙
          ap (λ o. is_some (option_and_then (λ (x : Option Seat). x) o)) (sym here) ∙ ap (λ k. is_some (seat_of (join_thread h (length threads) t) k)) (sym same)
      live n (inr other) = live_get (threads ++ new ∷ []) threads n (append_other threads n new other) ∙ fit.live n ∙ ap is_some (sym (other_seat h (length threads) n (seat_of h t) other))

-- ---- the beginning

-- the first thread alone has a seat
pub first_alone : (n : ℕ) (s : Seat) → seat_of first_handshakes n ≡ Some s → s ≡ first_seat
first_alone zero s is = sym (same_Some first_seat s is)
first_alone (suc n) s is = none_is_some s (sym (empty_indices (MOST_THREADS - 1) n) ∙ is)

pub first_fits : (first : Thread) → is_live first ≡ true → AreSeated first_handshakes (first ∷ [])
first_fits first lives = record {
  close = record {
    indices = ap suc (length-replicate {A = Option Seat} (MOST_THREADS - 1) None) ∙ refl;
    phases = λ t s is. inl (ap (λ (x : Seat). x.phase) (first_alone t s is));
    answers = λ t s is answered. never (sym (ap (λ (x : Seat). x.answered) (first_alone t s is)) ∙ answered);
  };
  live = live;
}
  where
    live : (n : ℕ) → is_live_at (first ∷ []) n ≡ is_some (seat_of first_handshakes n)
    live zero = lives
    live (suc n) = ap is_some (sym (empty_indices (MOST_THREADS - 1) n))
