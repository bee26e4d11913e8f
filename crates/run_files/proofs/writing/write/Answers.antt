use Rattle.std.proofs.Common.{◌∙◌, [], codes, decimal}
use Rattle.std.proofs.lemmas.Result.{IfOk-weaker}
use Rattle.hex.specs.Hex.{encode_lower}
use Rattle.run_files.specs.RunFiles.{line}
use Rattle.run_files.proofs.RunFileLemmas.{text_in_parts}
use Rattle.run_files.proofs.writing.write.Goals as goal

pub returns : goal.returns
returns c =
    let file = c.args.file.now in
    let whole = text_in_parts (encode_lower file.source) file.limits (decimal file.workers) (line (codes "output: ") (encode_lower file.output) []) in
    IfOk-weaker c.format.result _ _ (λ text is. is ∙ rw (c.in_ok-source.ensures, c.in_ok-output.ensures) whole) c.format.ensures.ok
