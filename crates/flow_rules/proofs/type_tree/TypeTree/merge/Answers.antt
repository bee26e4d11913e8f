use Rattle.flow_rules.proofs.type_tree.TypeTree.merge.Goals as goal

pub returns-in-Declared-Null : goal.returns-in-Declared-Null
returns-in-Declared-Null c = rw (c.in-Declared-Null.is-0, c.in-Declared-Null.is-1) (c.merged_with_null.ensures.second c.args.self.now)

pub returns-in-Null-Declared : goal.returns-in-Null-Declared
returns-in-Null-Declared c = rw (c.in-Null-Declared.is-0, c.in-Null-Declared.is-1) (c.merged_with_null-in-Null-Declared.ensures.first c.args.self.now)
