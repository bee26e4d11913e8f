use Rattle.std.proofs.Common.{◌≡◌, [], false}
use Rattle.ilasm_tokens.proofs.Many.{begins, ends_loop}
use Rattle.ilasm_reader.proofs.lists.many.Goals as goal

pub returns-else-starts : goal.returns-else-starts
returns-else-starts g c =
    let s : g.P.Starts.starts_at c.args.tokens.now.now ≡ false = cc c.if-starts.ensures in
    rw (c.new-else-starts.ensures, c.new.ensures.items) (ends_loop g.P.Starts.starts_at g.P.Parse.parsed_at _ [] c.args.tokens.now.now (begins g.P.Starts.starts_at g.P.Parse.parsed_at c.args.tokens.now.now) s)
