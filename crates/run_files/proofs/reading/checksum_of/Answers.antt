use Rattle.std.proofs.Common.{◌≡◌, ◌∙◌, ap, sym, List, ℕ, Some}
use Rattle.hex.proofs.HexLemmas.{decode_sized-encode_lower}
use Rattle.hex.specs.Hex.{decode_sized, encode_lower}
use Rattle.run_files.proofs.reading.checksum_of.Goals as goal

pub returns-in-Ok-clause-found : goal.returns-in-Ok-clause-found
returns-in-Ok-clause-found c bytes is whole =
    let gives : c.from_hex.result ≡ decode_sized c.args.text.now 32 = c.from_hex.ensures in
    let decoded = gives ∙ ap (λ t. decode_sized t 32) whole ∙ decode_sized-encode_lower bytes 32 is.0 is.1 in
    let same : c.in-Ok.bytes ≡ bytes = cc (c.in-Ok.is, decoded) in
    ap (λ (b : List ℕ). Some b) same

pub returns-in_default-clause-found : goal.returns-in_default-clause-found
returns-in_default-clause-found c bytes is whole =
    let gives : c.from_hex.result ≡ decode_sized c.args.text.now 32 = c.from_hex.ensures in
    let decoded = gives ∙ ap (λ t. decode_sized t 32) whole ∙ decode_sized-encode_lower bytes 32 is.0 is.1 in
    let same : c.in-Ok.bytes ≡ bytes = cc (c.in-Ok.is, decoded) in
    absurd (cc (c.is_text_of.ensures.1 (whole ∙ ap encode_lower (sym same)), c.if-is_text_of.false))

pub returns-in_default-2-clause-found : goal.returns-in_default-2-clause-found
returns-in_default-2-clause-found c bytes is whole =
    let gives : c.from_hex.result ≡ decode_sized c.args.text.now 32 = c.from_hex.ensures in
    let decoded = gives ∙ ap (λ t. decode_sized t 32) whole ∙ decode_sized-encode_lower bytes 32 is.0 is.1 in
    absurd (cc (decoded, c.in_default.is))
