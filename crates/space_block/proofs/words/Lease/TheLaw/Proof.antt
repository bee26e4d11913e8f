-- A `&` to a lease holds nothing.
use denote.RattleType.{RattleType}
use denote.Param.Laws.{Laws}
use denote.Param.Shared.{copy_shared}
use denote.SharingLaws.{nothing_shr_laws}
use denote.Struct.Laws.{field_copy}
use denote.Struct.Lending.{of_Lends, Lends-nothing}
use Rattle.std.specs.declared.alloc.Allocator.{Ghosts}
use Rattle.std.specs.contracts.marker.PhantomData as marker
use Rattle.space_block.specs.contracts.words.Lease as C
use Rattle.space_block.proofs.words.Lease.TheLaw.Statement.{statement}

pub shares : (A : RattleType) (g : Ghosts A.Denot) (P : Laws A) → statement A g P
shares A g P =
    of_Lends (C.struct A g) (C.the_codes A.Denot A.coded (marker.the_row A).coded) (C.the_heap A g) (C.the_lent A g) (λ d p. nothing_shr_laws)
    (copy_shared (marker.the_field A) (field_copy (marker.the_type A) tt), tt) (λ M 𝓤 𝓛 d p. Lends-nothing 𝓛 (C.the_heap A g d) (C.the_row A g).lives)
