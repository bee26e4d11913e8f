-- What a loan that comes back leaves: n entries more.
use Rattle.std.proofs.Common.{◌≡◌, ◌<◌, ◌+◌, ℕ, zero, suc, Bool, true, List, [], ◌∷◌, ◌++◌, inl, inr, length, map, set, Option, None, Some, is_none, refl, sym, ap, ◌∙◌, subst, arith, append_assoc, append-nil, replicate}
use Rattle.std.specs.Prelude.{slice_get, slice_index_or}
use Rattle.std.proofs.lemmas.List.{length-set, length_push}
use Rattle.std.proofs.lemmas.Option.{same_Some, slice_get_read}
use Rattle.cil_model.specs.declared.trees.Tree.{Tree}
use Rattle.cil_model.proofs.Lists.{last_or_was, none_is_some, set_itself, set_or_was}
use Rattle.cil_model.specs.declared.events.Event.{Event}
use Rattle.cil_model.specs.declared.events.Event.TheVariants.{Step}
use Rattle.cil_model.specs.declared.reports.Report.{Report}
use Rattle.cil_model.specs.declared.reports.Report.TheVariants.{Ran}
use Rattle.interleaving_core.specs.Loans.{Begins, IsAtOrigin, Lent}
use Rattle.interleaving_core.specs.simulation.threads_monitors.Threads.{is_live_at}
use Rattle.interleaving_core.proofs.Runs.FollowedRuns.{transitions_program}
use Rattle.interleaving_core.specs.simulation.MachineStates.{MachineState}
use Rattle.interleaving_core.specs.simulation.Runs.{AreTransitions}
use Rattle.shared_machine.specs.Codes.{add, add_times}
use Rattle.shared_machine.specs.Counts.{Count}
use Rattle.shared_machine.specs.Histories.{IsSmall, entry, events_of, reports_of}
use Rattle.shared_machine.specs.Worlds.{HasRooms, IsCheckedIn, IsLentOut, IsPrintedWithin, IsSoundWorld, IsWorld, WorldState, added_times, book_times, is_lent_in, lent_of, with_entries}
use Rattle.shared_machine.specs.declared.history.Entry.{Entry}
use Rattle.shared_machine.proofs.Histories.{sound_at, sound_more}
use Rattle.shared_machine.proofs.Moves.{get_same}

set_there : (xs : List ℕ) (k p : ℕ) → slice_get xs k ≡ Some p → set xs k p ≡ xs
set_there [] k p e = refl
set_there (x ∷ xs) zero p e = ap (λ (y : ℕ). y ∷ xs) (cc)
set_there (x ∷ xs) (suc k) p e = ap (λ (l : List ℕ). x ∷ l) (set_there xs k p e)

set_twice : (xs : List ℕ) (k p q : ℕ) → set (set xs k p) k q ≡ set xs k q
set_twice [] k p q = refl
set_twice (x ∷ xs) zero p q = refl
set_twice (x ∷ xs) (suc k) p q = ap (λ (l : List ℕ). x ∷ l) (set_twice xs k p q)

-- the number of a thread is a byte
pub small_step : (thread : ℕ) → thread < 256 → IsSmall (Step thread)
small_step thread less = omega (arith, less)

module _ (o : MachineState) (workers w : ℕ) (e : Event) (r : Report) (small : IsSmall e) (next : MachineState) where
  -- the same entry n times more, of a worker whose count is in the book
  sound_some : (n : ℕ) (core : MachineState) (h : List Entry) (book : List ℕ) (count : ℕ) → IsSoundWorld o workers core h book → slice_get book w ≡ Some count → AreTransitions core (replicate n e) next (replicate n r)
      → IsSoundWorld o workers next (h ++ replicate n (entry w e r)) (set book w (add_times n count e r))
  sound_some zero core h book count s there transitions =
      subst (λ (x : MachineState × (List Entry × List ℕ)). IsSoundWorld o workers x.0 x.1.0 x.1.1) (λ i. (sym transitions.0 i, (sym (append-nil h) i, sym (set_there book w count there) i))) s
  sound_some (suc n) core h book count s there (mid, one, more) =
      let step = sound_more o workers core mid h book w count e r s one small there in
      let rest = sound_some n mid (h ++ entry w e r ∷ []) (set book w (add count e r)) (add count e r) step (get_same book w count (add count e r) there) more in
      subst (λ (x : List Entry × List ℕ). IsSoundWorld o workers next x.0 x.1)
      (λ i. (append_assoc h (entry w e r ∷ []) (replicate n (entry w e r)) i, set_twice book w (add count e r) (add_times n (add count e r) e r) i)) rest

  -- n times, none among them
  pub sound_times : (n : ℕ) (core : MachineState) (h : List Entry) (book : List ℕ) (count : ℕ) → IsSoundWorld o workers core h book → (0 < n → slice_get book w ≡ Some count) → AreTransitions core (replicate n e) next (replicate n r)
      → IsSoundWorld o workers next (h ++ replicate n (entry w e r)) (book_times book (record { worker = w; count = count }) n e r)
  sound_times zero core h book count s there transitions =
      subst (λ (x : MachineState × List Entry). IsSoundWorld o workers x.0 x.1 book) (λ i. (sym transitions.0 i, sym (append-nil h) i)) s
  sound_times (suc n) core h book count s there transitions = sound_some (suc n) core h book count s (there (omega arith)) transitions

-- a world under equations
pub world_at : (o : MachineState) (workers : ℕ) (most kept : Option ℕ) (core core' : MachineState) (h h' : List Entry) (book book' : List ℕ) (rooms rooms' : List (Option Tree)) → IsSoundWorld o workers core h book → core' ≡ core → h' ≡ h → book' ≡ book → rooms' ≡ rooms → HasRooms o rooms
    → kept ≡ most → IsPrintedWithin most o core' → IsWorld o workers most kept core' h' book' rooms'
world_at o workers most kept core core' h h' book book' rooms rooms' s a b c d homes same within = record {
  sound = sound_at o workers core core' h h' book book' s a b c;
  homes = subst (HasRooms o) (sym d) homes;
  bound = same;
  printed = within;
}

-- ---- memory for loans

-- the rooms so far
pub record RoomsSoFar (tree : Tree) (n : ℕ) (rooms : List (Option Tree)) : Type 0 where
  pub each : length rooms ≡ n
  pub theirs : (t : ℕ) (other : Tree) → slice_get rooms t ≡ Some (Some other) → other ≡ tree

pub one_room_more : (tree room : Tree) (n : ℕ) (rooms all : List (Option Tree)) → RoomsSoFar tree n rooms → all ≡ rooms ++ Some room ∷ [] → room ≡ tree → RoomsSoFar tree (n + 1) all
one_room_more tree room n rooms all so is same = record {
  each = ap length is ∙ length_push rooms (Some room) ∙ ap (λ k. k + 1) so.each;
  theirs = λ t other there. elim (last_or_was rooms t (Some room) (Some other) (ap (λ (l : List (Option Tree)). slice_get l t) (sym is) ∙ there)) [
    | inl last ↦ same_Some other room last ∙ same
    | inr was ↦ so.theirs t other was
  ];
}

-- a room that is taken, and one that is put back
pub taken_rooms : (o : MachineState) (rooms : List (Option Tree)) (t : ℕ) → HasRooms o rooms → HasRooms o (set rooms t None)
taken_rooms o rooms t homes = record {
  each = length-set rooms t None ∙ homes.each;
  theirs = λ n tree there. elim (set_or_was rooms t n None (Some tree) there) [ inl gone ↦ absurd (cc gone) | inr was ↦ homes.theirs n tree was ];
}

pub room_back : (o : MachineState) (rooms : List (Option Tree)) (t : ℕ) (room : Tree) → HasRooms o rooms → room ≡ o.tree → HasRooms o (set rooms t (Some room))
room_back o rooms t room homes same = record {
  each = length-set rooms t (Some room) ∙ homes.each;
  theirs = λ n tree there. elim (set_or_was rooms t n (Some room) (Some tree) there) [ inl here ↦ same_Some tree room here ∙ same | inr was ↦ homes.theirs n tree was ];
}

-- which threads are lent then
map_set : {X Y : Type 0} (f : X → Y) (xs : List X) (n : ℕ) (x : X) → map f (set xs n x) ≡ set (map f xs) n (f x)
map_set f [] n x = refl
map_set f (y ∷ ys) zero x = refl
map_set f (y ∷ ys) (suc n) x = ap (λ l. f y ∷ l) (map_set f ys n x)

pub lent_set : (rooms : List (Option Tree)) (t : ℕ) (room : Option Tree) → lent_of (set rooms t room) ≡ set (lent_of rooms) t (is_none room)
lent_set rooms t room = map_set is_none rooms t room

pub lent_at : (rooms : List (Option Tree)) (t : ℕ) (room : Option Tree) → slice_get rooms t ≡ Some room → is_lent_in (lent_of rooms) t ≡ is_none room
lent_at [] t room e = none_is_some room e
lent_at (x ∷ xs) zero room e = ap is_none (same_Some x room e)
lent_at (x ∷ xs) (suc t) room e = lent_at xs t room e

pub lent_within : (rooms : List (Option Tree)) (t : ℕ) → is_lent_in (lent_of rooms) t ≡ true → t < length rooms
lent_within [] t e = absurd (cc e)
lent_within (x ∷ xs) zero e = omega arith
lent_within (x ∷ xs) (suc t) e = let h = lent_within xs t e in omega (arith, h)

pub read_room : (rooms : List (Option Tree)) (t i : ℕ) (room : Option Tree) → i ≡ t → i < length rooms → room ≡ slice_index_or rooms i room → slice_get rooms t ≡ Some room
read_room rooms t i room same inside reads = subst (λ n. slice_get rooms n ≡ Some room) same (slice_get_read rooms (length rooms) i room refl inside reads)

-- a machine runs the program that it was opened with
pub same_tree : (o : MachineState) (workers : ℕ) (core : MachineState) (h : List Entry) (book : List ℕ) → IsSoundWorld o workers core h book → core.tree ≡ o.tree
same_tree o workers core h book s = (transitions_program o core (events_of h) (reports_of h) s.transitions).0

-- ---- what a world shows

abbrev pub shown_as : MachineState → List Entry → List ℕ → List Bool → Bool → WorldState
shown_as core h book lent stopped = record { core = core; history = h; book = book; lent = lent; stopped = stopped }

-- nothing was taken where nothing was there
pub nothing_taken : (core : MachineState) (h : List Entry) (book : List ℕ) (stopped : Bool) (rooms : List (Option Tree)) (t i : ℕ) (room left : Option Tree) → i ≡ t → slice_get rooms t ≡ Some room → room ≡ None → left ≡ None
    → (shown_as core h book (lent_of (set rooms i left)) stopped ≡ shown_as core h book (lent_of rooms) stopped) × (is_lent_in (lent_of rooms) t ≡ true)
nothing_taken core h book stopped rooms t i room left same there none none' = (
  ap (λ (l : List (Option Tree)). shown_as core h book (lent_of l) stopped) (ap (λ (k : ℕ). set rooms k left) same ∙ ap (set rooms t) none' ∙ set_itself rooms t None (there ∙ ap Some none)),
  lent_at rooms t room there ∙ ap is_none none,
)

-- a thread is lent
pub lent_out : (core : MachineState) (h : List Entry) (book : List ℕ) (stopped : Bool) (rooms : List (Option Tree)) (t i : ℕ) (old left : Option Tree) (room : Tree) (l : Lent) → i ≡ t → slice_get rooms t ≡ Some old → old ≡ Some room → left ≡ None
    → is_live_at core.threads t ≡ true → Begins core t l → IsLentOut (shown_as core h book (lent_of rooms) stopped) t l (shown_as core h book (lent_of (set rooms i left)) stopped)
lent_out core h book stopped rooms t i old left room l same there some none live begins = record {
  live = live;
  home = lent_at rooms t old there ∙ ap is_none some;
  begins = begins;
  marked = ap (λ (l : List Bool). shown_as core h book l stopped) (ap (λ (k : ℕ). lent_of (set rooms k left)) same ∙ lent_set rooms t left ∙ ap (λ (x : Option Tree). set (lent_of rooms) t (is_none x)) none);
}

-- a loan comes back
pub checked_in : (core next : MachineState) (h h' : List Entry) (book book' : List ℕ) (stopped : Bool) (rooms : List (Option Tree)) (i n thread : ℕ) (room : Tree) (t u : Count) (l : Lent) → i ≡ thread → n ≡ l.done → thread ≡ l.thread
    → is_lent_in (lent_of rooms) thread ≡ true → IsAtOrigin core l → AreTransitions core (replicate n (Step thread)) next (replicate n Ran)
    → h' ≡ h ++ replicate n (entry t.worker (Step thread) Ran) → book' ≡ book_times book t n (Step thread) Ran → u ≡ added_times t n (Step thread) Ran
    → IsCheckedIn (shown_as core h book (lent_of rooms) stopped) t l n (shown_as next h' book' (lent_of (set rooms i (Some room))) stopped) u
checked_in core next h h' book book' stopped rooms i n thread room t u l same all own lent at transitions history_is book_is ticket_is =
    record {
      all = all;
      kept = (ap (is_lent_in (lent_of rooms)) (sym own) ∙ lent, at);
      transitions = subst (λ k. AreTransitions core (replicate n (Step k)) next (replicate n Ran)) own transitions;
      recorded =
          (λ j. shown_as next (history_is j) (book_is j) (lent_of (set rooms (same j) (Some room))) stopped)
          ∙ ap (λ (x : List Bool). shown_as next (h ++ replicate n (entry t.worker (Step thread) Ran)) (book_times book t n (Step thread) Ran) x stopped) (lent_set rooms thread (Some room))
          ∙ ap (λ k. with_entries (shown_as core h book (lent_of rooms) stopped) t n k next) own;
      counted = ticket_is ∙ ap (λ k. added_times t n (Step k) Ran) own;
    }
