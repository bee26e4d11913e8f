-- What loaded methods take from classes and methods whose types are given by number.
use Rattle.std.specs.Prelude.{ℕ, ◌+◌, List, [], ◌∷◌, length}
use Rattle.resolved_code.specs.declared.types.ResolvedType.{ResolvedType}
use Rattle.resolved_code.specs.declared.classes.ResolvedKind.{ResolvedKind}
use Rattle.resolved_code.specs.declared.classes.ResolvedKind.TheVariants.{Static, Instance, Virtual, Abstract}
use Rattle.resolved_code.specs.declared.classes.ResolvedMethod.{ResolvedMethod}

-- the types of the locals of a method; none where it has no code (II.15.4.1.3)
abbrev pub resolved_locals : ResolvedKind → List ResolvedType
resolved_locals (Static body) = body.locals
resolved_locals (Instance body) = body.locals
resolved_locals (Virtual is_new_slot body) = body.locals
resolved_locals (Abstract is_new_slot) = []

-- how many operands a call takes beside those of the parameters: the object, where the method has one (II.15.3)
abbrev pub with_object : ResolvedKind → ℕ → ℕ
with_object (Static body) n = n
with_object (Instance body) n = n + 1
with_object (Virtual is_new_slot body) n = n + 1
with_object (Abstract is_new_slot) n = n + 1

-- how many operands a call takes
abbrev pub operand_count : ResolvedMethod → ℕ
operand_count m = with_object m.kind (length m.parameters)

-- for each count the sum of those before it, from a first sum on
abbrev pub running_counts : ℕ → List ℕ → List ℕ
running_counts next [] = []
running_counts next (n ∷ ns) = next ∷ running_counts (next + n) ns
