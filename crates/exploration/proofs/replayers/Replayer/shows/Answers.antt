use Rattle.std.proofs.Common.{◌≡◌, sym, ◌∙◌}
use Rattle.std.proofs.lemmas.Slice.Eq.{bytes_eq-Decides}
use Rattle.exploration.proofs.replayers.Replayer.shows.Goals as goal

pub returns : goal.returns
returns g c = λ known.
    let console = c.console.result.now in
    let printed = c.as_slice.result.now in
    let bytes : console ≡ printed = (bytes_eq-Decides console printed).0 (sym c.eq-is_printed.ensures ∙ c.if-not-is_printed.false) in
    cc (bytes, c.as_slice.ensures.value, c.console.ensures, c.are_same_ends.ensures known, c.in_ok-ends.ensures)
