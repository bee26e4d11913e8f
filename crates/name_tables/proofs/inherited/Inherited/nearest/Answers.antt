use Rattle.std.proofs.Common.{◌<◌, ◌+◌, length, arith}
use Rattle.name_tables.specs.KeyIds.{number_in}
use Rattle.name_tables.proofs.KeyNumbers.{number_within}
use Rattle.name_tables.proofs.inherited.Inherited.nearest.Goals as goal

pub nearest-requires : goal.nearest-requires
nearest-requires g c =
    let low : number_in g.K.PartialEq.eq c.args.self.now.keys c.args.key < length c.args.self.now.keys + 1 = number_within g.K.PartialEq.eq c.args.self.now.keys c.args.key in
    omega (arith, low, c.number_of.ensures, c.args.self.now.within)
