use Rattle.name_tables.proofs.inherited.Inherited.nearest_round.Goals as goal

pub nearest-requires-clause-cut : goal.nearest-requires-clause-cut
nearest-requires-clause-cut g c = c.args.self.now.cut c.in-Some.cycles c.in-Some.is
