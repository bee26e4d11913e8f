use Rattle.std.proofs.Common.{length, refl}
use Rattle.std.proofs.lemmas.Option.{slice_get_read}
use Rattle.loaded_program.proofs.parts.item.Goals as goal

pub returns : goal.returns
returns g c = slice_get_read c.args.items.now (length c.args.items.now) c.args.number c.index-items-number.result refl c.requires c.index-items-number.is
