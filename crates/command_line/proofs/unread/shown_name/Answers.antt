use Rattle.std.proofs.Common.{◌∙◌, ap, append-nil, encode_utf8_all, map, map-id, sym}
use Rattle.std.proofs.lemmas.Iterator.{YieldsList-from_chars}
use Rattle.std.proofs.lemmas.List.{map-append}
use Rattle.std.proofs.lemmas.Iterator.Consumers.{YieldsList-end}
use Rattle.std.proofs.lemmas.Str.{encodes-append}
use Rattle.command_line.specs.UnreadFiles.{shown_character}
use Rattle.command_line.proofs.unread.shown_name.Goals as goal

pub loop-character-preserved : goal.loop-character-preserved
loop-character-preserved c =
    rw (map-append, encodes-append, append-nil, ← c.loop-character.invariant, ← c.shown_character.ensures) c.in_ok-push.ensures.bytes

pub returns : goal.returns
returns c =
    let done = YieldsList-end (YieldsList-from_chars c.args.name.now c.utf8.name cc) c.loop-character.yielded _ c.loop-character.yielded_by _ _ c.in-None.is c.next.ensures.steps in
    c.loop-character.invariant ∙ ap (λ cs. encode_utf8_all (map shown_character cs)) (sym (map-id c.loop-character.yielded) ∙ done.0)
