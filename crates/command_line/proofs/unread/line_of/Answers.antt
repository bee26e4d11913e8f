use Rattle.std.proofs.Common.{append_assoc, string_bytes}
use Rattle.std.proofs.lemmas.Result.{IfOk-weaker}
use Rattle.command_line.proofs.unread.line_of.Goals as goal

pub returns : goal.returns
returns c =
    IfOk-weaker c.format.result _ _ (λ line is. (string_bytes c.in_ok-why.why, rw (append_assoc, append_assoc, append_assoc, append_assoc, ← c.in_ok-name.ensures) is))
    c.format.ensures.ok
