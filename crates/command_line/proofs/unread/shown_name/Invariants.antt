use Rattle.std.proofs.Common.{◌≡◌, encode_utf8_all, map, string_bytes}
use Rattle.command_line.specs.UnreadFiles.{shown_character}
use Rattle.command_line.proofs.unread.shown_name.Given as goal

abbrev pub invariant-loop-character : goal.invariant-loop-character
invariant-loop-character l = string_bytes l.shown ≡ encode_utf8_all (map shown_character l.yielded)
