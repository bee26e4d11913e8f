use Rattle.std.proofs.Common.{◌≡◌, ◌∙◌, ap, ap₂, ℕ, List, Some}
use Rattle.hex.specs.Hex.{encode_lower}
use Rattle.run_files.specs.RunFiles.{line}
use Rattle.run_files.proofs.RunFileLemmas.{contents, found_none, found_some, no_break_hex}
use Rattle.run_files.proofs.reading.checksum_line.Goals as goal

pub returns-clause-read : goal.returns-clause-read
returns-clause-read c =
    let bytes = c.in_ok-bytes.ensures.read in
    (bytes.0, c.in_ok-value.ensures.read ∙ ap (λ (v : List ℕ). line c.args.name.now v c.in_ok-value.rest.now) bytes.1)

pub returns-in_err-value-clause-found : goal.returns-in_err-value-clause-found
returns-in_err-value-clause-found c bytes rest is whole =
    absurd (found_none contents c.value_line.result _ c.in_err-value.was (c.value_line.ensures.found (encode_lower bytes) rest (λ i below. no_break_hex bytes i) whole))

pub returns-in_err-bytes-clause-found : goal.returns-in_err-bytes-clause-found
returns-in_err-bytes-clause-found c bytes rest is whole =
    let parts = found_some contents c.value_line.result _ _ c.in_ok-value.was (c.value_line.ensures.found (encode_lower bytes) rest (λ i below. no_break_hex bytes i) whole) in
    let found = c.checksum_of.ensures.found bytes is (ap (λ (p : List ℕ × List ℕ). p.0) parts) in
    absurd (cc (found, c.in_err-bytes.was))

pub returns-clause-found : goal.returns-clause-found
returns-clause-found c bytes rest is whole =
    let parts = found_some contents c.value_line.result _ _ c.in_ok-value.was (c.value_line.ensures.found (encode_lower bytes) rest (λ i below. no_break_hex bytes i) whole) in
    let found = c.checksum_of.ensures.found bytes is (ap (λ (p : List ℕ × List ℕ). p.0) parts) in
    let same : c.in_ok-bytes.bytes ≡ bytes = cc (found, c.in_ok-bytes.was) in
    ap₂ (λ (m r : List ℕ). Some (m, r)) same (ap (λ (p : List ℕ × List ℕ). p.1) parts)
