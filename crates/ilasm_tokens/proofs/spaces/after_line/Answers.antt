use Rattle.std.proofs.Common.{◌∙◌, arith}
use Rattle.ilasm_tokens.proofs.SpaceLaws.{after_shorter, line_continues, line_ends, line_none_left}
use Rattle.ilasm_tokens.proofs.spaces.after_line.Goals as goal

pub returns-then-byte-eq10 : goal.returns-then-byte-eq10
returns-then-byte-eq10 c =
    let rest = c.loop-rest.rest.now in
    let some = c.in-len1-up.len_at_least in
    record {
      within = omega (arith, after_shorter rest some, c.loop-rest.invariant.within);
      value = c.loop-rest.invariant.value ∙ line_ends rest some c.if-byte-eq10.true;
    }

pub loop-rest-smaller : goal.loop-rest-smaller
loop-rest-smaller c = after_shorter c.loop-rest.rest.now c.in-len1-up.len_at_least

pub loop-rest-preserved : goal.loop-rest-preserved
loop-rest-preserved c =
    let rest = c.loop-rest.rest.now in
    let some = c.in-len1-up.len_at_least in
    record {
      within = omega (arith, after_shorter rest some, c.loop-rest.invariant.within);
      value = c.loop-rest.invariant.value ∙ line_continues rest some c.if-byte-eq10.false;
    }

pub returns : goal.returns
returns c = record { within = c.loop-rest.invariant.within; value = c.loop-rest.invariant.value ∙ line_none_left c.loop-rest.rest.now c.in_default.len_below }
