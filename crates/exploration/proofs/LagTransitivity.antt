-- A machine state that lags behind one that lags behind a third.
use Rattle.std.proofs.Common.{◌≡◌, List, [], ◌∷◌, refl, ap, ◌∙◌, subst, map}
use Rattle.interleaving_core.specs.Alike.{AreAlike, status_of}
use Rattle.exploration.proofs.Names.{Tree, Frames, ThreadStatus, Live, Ended, Thread, Agree, MachineState, IsLagging, IsAhead, here, onward, IsStatusLagging, IsThreadLagging, IsCovered}
use Rattle.exploration.proofs.ChargedSteps.{thread_itself}

module _ (tree : Tree) where
  further_more : (m n k : Frames) → IsAhead tree m n → IsAhead tree n k → IsAhead tree m k
  further_more m n k (here _) h = h
  further_more m n k (onward _ next _ move rest) h = onward m next k move (further_more next n k rest h)

  status_more : (x y z : ThreadStatus) → IsStatusLagging tree x y → IsStatusLagging tree y z → IsStatusLagging tree x z
  status_more (Live m) (Live n) (Live k) h h' = further_more m n k h h'
  status_more (Ended e) (Ended f) (Ended g) h h' = h ∙ h'
  status_more (Live m) (Ended f) z h h' = elim h [ ]
  status_more (Ended e) (Live n) z h h' = elim h [ ]
  status_more (Live m) (Live n) (Ended g) h h' = elim h' [ ]
  status_more (Ended e) (Ended f) (Live k) h h' = elim h' [ ]

  threads_more : (xs ys zs : List Thread) → Agree (IsThreadLagging tree) xs ys → Agree (IsThreadLagging tree) ys zs → Agree (IsThreadLagging tree) xs zs
  threads_more [] [] zs h h' = h'
  threads_more (x ∷ xs) (y ∷ ys) (z ∷ zs) h h' = (status_more x.thread_status y.thread_status z.thread_status h.0 h'.0, threads_more xs ys zs h.1 h'.1)
  threads_more (x ∷ xs) (y ∷ ys) [] h h' = elim h' [ ]
  threads_more [] (y ∷ ys) zs h h' = elim h [ ]
  threads_more (x ∷ xs) [] zs h h' = elim h [ ]

pub lagging_more : (b c d : MachineState) → IsLagging b c → IsLagging c d → IsLagging b d
lagging_more b c d h k =
    let same : c.tree ≡ b.tree = ap (λ (x : MachineState). x.tree) h.rest in
    record {
      rest = k.rest ∙ ap (λ (x : MachineState). record x { threads = d.threads }) h.rest;
      threads = threads_more b.tree b.threads c.threads d.threads h.threads (subst (λ (t : Tree). Agree (IsThreadLagging t) c.threads d.threads) same k.threads);
    }

-- ---- a machine state and itself

pub threads_itself : (tree : Tree) (xs : List Thread) → Agree (IsThreadLagging tree) xs xs
threads_itself tree [] = tt
threads_itself tree (x ∷ xs) = (thread_itself tree x, threads_itself tree xs)

pub lagging_itself : (c : MachineState) → IsLagging c c
lagging_itself c = record { rest = refl; threads = threads_itself c.tree c.threads }

-- ---- a set

pub one_covers : (known : MachineState → Type 0) (c : MachineState) → known c → IsCovered known c
one_covers known c among = record { machine_state = c; among = among; lagging = lagging_itself c }

pub covered_more : (known : MachineState → Type 0) (c d : MachineState) → IsLagging c d → IsCovered known d → IsCovered known c
covered_more known c d h k = record { machine_state = k.machine_state; among = k.among; lagging = lagging_more c d k.machine_state h k.lagging }

head_is : (s u : ThreadStatus) (xs ys : List ThreadStatus) → s ∷ xs ≡ u ∷ ys → s ≡ u
head_is s u xs ys h = cc

tail_is : (s u : ThreadStatus) (xs ys : List ThreadStatus) → s ∷ xs ≡ u ∷ ys → xs ≡ ys
tail_is s u xs ys h = cc

-- ---- machine states that differ in budgets alone

statuses_lagging : (tree : Tree) (xs ys : List Thread) → map status_of xs ≡ map status_of ys → Agree (IsThreadLagging tree) xs ys
statuses_lagging tree [] [] h = tt
statuses_lagging tree (x ∷ xs) (y ∷ ys) h = (subst (λ (s : ThreadStatus). IsStatusLagging tree x.thread_status s) (head_is x.thread_status y.thread_status (map status_of xs) (map status_of ys) h) (thread_itself tree x), statuses_lagging tree xs ys (tail_is x.thread_status y.thread_status (map status_of xs) (map status_of ys) h))
statuses_lagging tree [] (y ∷ ys) h = absurd cc
statuses_lagging tree (x ∷ xs) [] h = absurd cc

pub alike_lagging : (c d : MachineState) → AreAlike c d → IsLagging c d
alike_lagging c d h = record { rest = h.rest; threads = statuses_lagging c.tree c.threads d.threads h.statuses }
