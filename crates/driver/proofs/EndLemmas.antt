-- What a run shows: what its machine shows, and what explains how threads ended.
use Rattle.std.proofs.Common.{◌++◌, ℕ, Bool, List, append_assoc, inr, map, refl, subst}
use Rattle.driver.proofs.Names.{zip, Event, Limits, Report, Fails, StreamState, Takes, fails_second, takes_both, MachineState, end_of, IsEndText, IsMachineShown, IsMachineShownInPart, IsRunShown, IsRunShownInPart, OutputState, lines_from}
use Rattle.driver.proofs.OutcomeLemmas.{live_text}

module _ (explain : Bool) (source : List ℕ) (limits : Limits) (events : List Event) (reports : List Report) (c : MachineState) (o m : OutputState) where
  -- a write of what the machine shows failed
  pub cut_run : IsMachineShownInPart explain c o m → IsRunShownInPart explain source limits events reports c o m
  cut_run (live, explains, cut) = (live, live_text explain explain source limits (zip events reports) c live explains, cut)

  -- all that the machine shows is written, and nothing more
  pub live_run : (status : ℕ) → IsMachineShown explain c o m status → IsRunShown explain source limits events reports c o m status
  live_run status (live, explains, shown) = (live, live_text explain explain source limits (zip events reports) c live explains, shown)

  -- what explains how threads ended is written too
  pub whole_run : (err' : StreamState) (status : ℕ) → IsMachineShown explain c o m status
      → (ended : List ℕ) × IsEndText explain source limits (zip events reports) ended × Takes m.err err' ended → IsRunShown explain source limits events reports c o (record m { err = err' }) status
  whole_run err' status (live, explains, shown) (ended, is_end, taken) =
      let lines = lines_from 0 (map end_of c.threads) in (
        live ++ ended,
        (live, ended, explains, is_end, refl),
        record {
          output = shown.output;
          errors = subst (Takes o.err err') (append_assoc lines live ended) (takes_both o.err m.err err' (lines ++ live) ended shown.errors taken);
          status_is = shown.status_is;
        },
      )

  -- a write of that failed
  pub ends_cut : (err' : StreamState) (status : ℕ) → IsMachineShown explain c o m status
      → (ended : List ℕ) × IsEndText explain source limits (zip events reports) ended × Fails m.err err' ended → IsRunShownInPart explain source limits events reports c o (record m { err = err' })
  ends_cut err' status (live, explains, shown) (ended, is_end, cut) =
      let lines = lines_from 0 (map end_of c.threads) in (
        live ++ ended,
        (live, ended, explains, is_end, refl),
        inr (shown.output, subst (Fails o.err err') (append_assoc lines live ended) (fails_second o.err m.err err' (lines ++ live) ended shown.errors cut)),
      )
