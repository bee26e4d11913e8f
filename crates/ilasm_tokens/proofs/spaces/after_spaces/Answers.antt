use Rattle.std.proofs.Common.{◌∙◌}
use Rattle.ilasm_tokens.proofs.SpaceLaws.{past_white, none_left, at_token, last_slash, in_line_comment, in_block_comment, slash_alone}
use Rattle.ilasm_tokens.proofs.spaces.after_spaces.Goals as goal

pub loop-rest-preserved-then-is_white : goal.loop-rest-preserved-then-is_white
loop-rest-preserved-then-is_white c =
    c.loop-rest.invariant ∙ past_white c.loop-rest.rest.now c.is_white.result c.in-len1-up.len_at_least c.is_white.ensures c.if-is_white.true

pub returns-in_default-after : goal.returns-in_default-after
returns-in_default-after c =
    c.loop-rest.invariant ∙ last_slash c.loop-rest.rest.now c.is_white.result c.in-len1-up.len_at_least c.is_white.ensures c.if-is_white.false c.if-first-eq47.true c.in_default-after.len_below

pub loop-rest-preserved-then-second-eq47 : goal.loop-rest-preserved-then-second-eq47
loop-rest-preserved-then-second-eq47 c =
    c.loop-rest.invariant ∙ in_line_comment c.loop-rest.rest.now c.is_white.result c.in-len1-up.len_at_least c.is_white.ensures c.if-is_white.false c.if-first-eq47.true c.in-len1-up-after.len_at_least c.if-second-eq47.true ∙ c.after_line-rest.ensures.value

pub returns-in_default-after_block : goal.returns-in_default-after_block
returns-in_default-after_block c =
    rw c.no_token.ensures (c.loop-rest.invariant ∙ in_block_comment c.loop-rest.rest.now c.is_white.result c.in-len1-up.len_at_least c.is_white.ensures c.if-is_white.false c.if-first-eq47.true c.in-len1-up-after.len_at_least c.if-second-eq47.false c.if-second-eq42.true ∙ c.in_default-after_block.ensures.value)

pub loop-rest-preserved : goal.loop-rest-preserved
loop-rest-preserved c =
    c.loop-rest.invariant ∙ in_block_comment c.loop-rest.rest.now c.is_white.result c.in-len1-up.len_at_least c.is_white.ensures c.if-is_white.false c.if-first-eq47.true c.in-len1-up-after.len_at_least c.if-second-eq47.false c.if-second-eq42.true ∙ c.in-Some.ensures.value

pub returns-else-second-eq42 : goal.returns-else-second-eq42
returns-else-second-eq42 c =
    c.loop-rest.invariant ∙ slash_alone c.loop-rest.rest.now c.is_white.result c.in-len1-up.len_at_least c.is_white.ensures c.if-is_white.false c.if-first-eq47.true c.if-second-eq47.false c.if-second-eq42.false

pub returns-else-first-eq47 : goal.returns-else-first-eq47
returns-else-first-eq47 c =
    c.loop-rest.invariant ∙ at_token c.loop-rest.rest.now c.is_white.result c.in-len1-up.len_at_least c.is_white.ensures c.if-is_white.false c.if-first-eq47.false

pub returns : goal.returns
returns c = c.loop-rest.invariant ∙ none_left c.loop-rest.rest.now c.in_default.len_below
