-- By which address an object is found once a cycle has ended (this profile).
use Rattle.std.specs.Prelude.{◌||◌, if◌then◌else◌, Bool, Option, Some, None, is_some}
use Rattle.object_memory.specs.declared.addresses.Addr.{Addr}
use Rattle.object_memory.specs.Cells.{cell_in, literal_number}
use Rattle.object_memory.specs.Objects.{Objects}
use Rattle.object_memory.specs.Spaces.{forward}

-- whether it is the address of a literal or of an object of the new space
abbrev pub stays : Objects → Addr → Bool
stays o a = is_some (literal_number a) || is_some (cell_in o.spaces.new a)

-- the forward of an address where it stays: of an old object the address of its new copy, of a new one or a literal its own
abbrev pub live_forward : Objects → Addr → Option Addr
live_forward o a = if stays o (forward o.spaces a) then Some (forward o.spaces a) else None
