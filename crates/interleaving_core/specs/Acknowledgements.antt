-- What a machine needs to do an acknowledgement.
use Rattle.std.specs.Prelude.{◌≡◌, true, List}
use Rattle.object_memory.specs.declared.addresses.Addr.{Addr}
use Rattle.object_memory.specs.Objects.{Objects}
use Rattle.object_memory.specs.Spaces.{is_there}
use Rattle.simulation.specs.collector.Soundness.{IsListed}

-- each address on a list is null, a literal's, or that of an object
abbrev pub AreAllThere : Objects → List Addr → Type 0
AreAllThere o list = (a : Addr) → IsListed list a → is_there o.spaces a ≡ true
