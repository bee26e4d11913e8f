use Rattle.std.proofs.Common.{◌∙◌, arith}
use Rattle.ilasm_tokens.proofs.SpaceLaws.{after_shorter, block_continues, star_continues, block_ends, block_none_left}
use Rattle.ilasm_tokens.proofs.spaces.after_block.Goals.{else-star-via-then-star+else-byte-eq47, else-star-via-else-star}
use Rattle.ilasm_tokens.proofs.spaces.after_block.Goals as goal

pub returns-then-byte-eq47 : goal.returns-then-byte-eq47
returns-then-byte-eq47 c =
    let rest = c.loop-rest.rest.now in
    let some = c.in-len1-up.len_at_least in
    record {
      within = omega (arith, after_shorter rest some, c.loop-rest.invariant.within);
      value = c.loop-rest.invariant.value ∙ block_ends rest some c.loop-rest.star c.if-star.true c.if-byte-eq47.true;
    }

pub loop-rest-smaller : goal.loop-rest-smaller
loop-rest-smaller c = after_shorter c.loop-rest.rest.now c.in-len1-up.len_at_least

pub loop-rest-preserved : goal.loop-rest-preserved
loop-rest-preserved c =
    let rest = c.loop-rest.rest.now in
    let some = c.in-len1-up.len_at_least in
    record {
      within = omega (arith, after_shorter rest some, c.loop-rest.invariant.within);
      value = c.loop-rest.invariant.value ∙ elim c.else-star.branch [
        | else-star-via-then-star+else-byte-eq47 w ↦ star_continues rest some c.loop-rest.star w.if-star.true w.if-byte-eq47.false
        | else-star-via-else-star w ↦ block_continues rest some c.loop-rest.star w.if-star.false
      ];
    }

pub returns : goal.returns
returns c = record { within = tt; value = c.loop-rest.invariant.value ∙ block_none_left c.loop-rest.star c.loop-rest.rest.now c.in_default.len_below }
