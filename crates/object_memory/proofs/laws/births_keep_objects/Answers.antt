use Rattle.object_memory.specs.Spaces.{birth_space_of}
use Rattle.object_memory.proofs.Births.{birth_at-here, birth_at-kept}
use Rattle.object_memory.proofs.laws.births_keep_objects.Goals as goal

pub returns-clause-own : goal.returns-clause-own
returns-clause-own c m phase k n a h e = birth_at-here m h k n (birth_space_of phase m.is_open) a e

pub returns-clause-others : goal.returns-clause-others
returns-clause-others c m phase k n a x h e = birth_at-kept m h k n (birth_space_of phase m.is_open) a x e
