-- A step of a thread changes neither the phase that is posted nor the collector's progress.
use Rattle.std.proofs.Common.{◌≡◌, ◌⊎◌, inl, inr, ℕ, length, refl, ap, ◌∙◌, subst}
use Rattle.interpreter.specs.cil_model.declared.events.Event.TheVariants.{Step}
use Rattle.interpreter.specs.cil_model.declared.reports.Report.{Report}
use Rattle.interpreter.specs.cil_model.declared.reports.Report.TheVariants.{Ended as HasEnded}
use Rattle.interpreter.specs.Instructions.{Answer}
use Rattle.collector.specs.phase_handshake.Handshakes.{Handshakes, join_thread}
use Rattle.simulation.specs.MachineStates.{MachineState}
use Rattle.simulation.specs.Transitions.{IsTransition, left_by, seats_after}
use Rattle.simulation.proofs.Threads.StepEffects.{HasBegun, IsFinished, finished_by, step_by}

-- the same phase and rounds are posted
pub record KeepsPosts (h k : Handshakes) : Type 0 where
  pub posted_phase : k.posted_phase ≡ h.posted_phase
  pub round : k.has_round ≡ h.has_round

-- a thread that ends leaves, and with any other report the seats stay
seats_keep : (h : Handshakes) (t : ℕ) (r : Report) → KeepsPosts h (seats_after h t r)
seats_keep h t (HasEnded e) = record { posted_phase = refl; round = refl }
seats_keep h t _ = record { posted_phase = refl; round = refl }

keeps_then : {h k l : Handshakes} → KeepsPosts h k → KeepsPosts k l → KeepsPosts h l
keeps_then f g = record { posted_phase = g.posted_phase ∙ f.posted_phase; round = g.round ∙ f.round }

-- and the collector is as far
pub record KeepsCollector (c d : MachineState) : Type 0 where
  pub posts : KeepsPosts c.posts d.posts
  pub progress : d.progress ≡ c.progress

pub step_keeps : (c : MachineState) (t : ℕ) (after : MachineState × Report) → IsTransition c (Step t) after → KeepsCollector c after.0
step_keeps c t after transition =
    step_by c after (λ (x : MachineState × Report). KeepsCollector c x.0) (λ r. record { posts = record { posted_phase = refl; round = refl }; progress = refl }) (λ t left m a there done is. by_way t left a (finished_by c t left a after a.outcome is)) t transition
  where
    begun : (t left : ℕ) (a : Answer) (way : IsFinished c t left a a.outcome after) → KeepsPosts c.posts way.posts
    begun t left a way = by_case way.are
      where
        by_case : ((way.threads ≡ (left_by c t left a).threads) × (way.posts ≡ c.posts)) ⊎ (HasBegun c.limits.budget (left_by c t left a).threads way.threads × (way.posts ≡ join_thread c.posts (length (left_by c t left a).threads) t)) → KeepsPosts c.posts way.posts
        by_case (inl (same, posts)) = record { posted_phase = ap (λ (h : Handshakes). h.posted_phase) posts; round = ap (λ (h : Handshakes). h.has_round) posts }
        by_case (inr (more, posts)) = record { posted_phase = ap (λ (h : Handshakes). h.posted_phase) posts; round = ap (λ (h : Handshakes). h.has_round) posts }

    by_way : (t left : ℕ) (a : Answer) → IsFinished c t left a a.outcome after → KeepsCollector c after.0
    by_way t left a way = subst (λ (x : MachineState × Report). KeepsCollector c x.0) way.is (record { posts = keeps_then (begun t left a way) (seats_keep way.posts t _); progress = refl })

-- so no step posts a phase
pub step_posted : (c : MachineState) (t : ℕ) (after : MachineState × Report) → IsTransition c (Step t) after → after.0.posts.posted_phase ≡ c.posts.posted_phase
step_posted c t after transition = (step_keeps c t after transition).posts.posted_phase
