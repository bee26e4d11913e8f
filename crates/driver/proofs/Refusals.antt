-- What refuses a source, limits or a schedule is no failed write.
use Rattle.std.proofs.Common.{◌≡◌, ℕ, List, inl, inr, sym, ◌∙◌}
use Rattle.schedule_text.specs.declared.errors.ScheduleError.{ScheduleError}
use Rattle.schedule_text.specs.declared.errors.ScheduleError.TheVariants.{NoItem}
use Rattle.source_runs.specs.acceptance.Errors.{failure_of_source}
use Rattle.source_runs.specs.acceptance.declared.errors.SourceError.{SourceError}
use Rattle.source_runs.specs.acceptance.declared.errors.SourceError.TheVariants.{OutOfMemory}
use Rattle.driver.proofs.Names.{Limits, failure_of_schedule, IsNotAccepted, IsNotRun, Failure, Device, IsNotRunBy}
use Rattle.driver.proofs.OutcomeLemmas.{no_device}

scheduling : (error : ScheduleError) → failure_of_schedule error ≡ Device → ⊥
scheduling NoItem same = absurd (cc same)
scheduling error same = absurd (cc same)

of_source : (error : SourceError) → failure_of_source error ≡ Device → ⊥
of_source OutOfMemory same = absurd (cc same)
of_source error same = absurd (cc same)

pub not_accepted : (source : List ℕ) (failure : Failure) → IsNotAccepted source failure → failure ≡ Device → ⊥
not_accepted source failure (error, found, is) device = of_source error (sym is ∙ device)

pub not_run : (source : List ℕ) (limits : Limits) (failure : Failure) → IsNotRun source limits failure → failure ≡ Device → ⊥
not_run source limits failure (inl refused) device = not_accepted source failure refused device
not_run source limits failure (inr (let_in, inl (out_of_range, is))) device = absurd (cc (sym is ∙ device))
not_run source limits failure (inr (let_in, inr (in_range, memory))) device = no_device failure memory device

pub not_run_by : (source : List ℕ) (limits : Limits) (text : List ℕ) (failure : Failure) → IsNotRunBy source limits text failure → failure ≡ Device → ⊥
not_run_by source limits text failure (inl refused) device = not_run source limits failure refused device
not_run_by source limits text failure (inr (let_in, in_range, (error, first, is))) device = scheduling error (sym is ∙ device)
