-- The parts of a block may cross threads, the lease as its allocator may.
use Rattle.std.specs.Prelude.{ℕ, ◌+◌, List, [], ◌∷◌, Option, Some, None}
use Rattle.std.specs.declared.alloc.Allocator.{Ghosts}
use base.Fraction.{full_share}
use base.Shift.{Keyless}
use denote.Builtin.{u64}
use denote.RattleType.{RattleType}
use denote.RawPtr.{Ptr, block_ptr, null_ptr}
use denote.Param.Send.{IsSend, IsSync, Frees, Common, AllSend, part_keyless, owning_send, struct_sync, sendable}
use denote.Struct.Owning.{shape, fields, to}
use Rattle.space_block.specs.Memory.{slots, lent_words, words_owned, words_lent}
use Rattle.space_block.specs.contracts.words.Words as words
use Rattle.space_block.specs.contracts.words.Lease as lease

word_send : IsSend u64
word_send = search sendable

word_sync : IsSync u64
word_sync = search sendable

slots-Keyless : (b o : ℕ) (cs : List (Option ℕ)) → Keyless (slots b o cs)
slots-Keyless b o [] = tt
slots-Keyless b o (Some w ∷ cs) = (part_keyless u64 word_send full_share w b o, slots-Keyless b (o + 8) cs)
slots-Keyless b o (None ∷ cs) = (tt, slots-Keyless b (o + 8) cs)

lent_words-Common : (b o : ℕ) (cs : List (Option ℕ)) → Common (lent_words b o cs)
lent_words-Common b o [] κ = tt
lent_words-Common b o (Some w ∷ cs) κ = (word_sync.shared w b o κ, lent_words-Common b (o + 8) cs κ)
lent_words-Common b o (None ∷ cs) κ = (tt, lent_words-Common b (o + 8) cs κ)

words-Keyless : (p : Ptr) (cs : List (Option ℕ)) → Keyless (words_owned p cs)
words-Keyless (block_ptr b o) cs = (tt, slots-Keyless b o cs)
words-Keyless null_ptr cs = tt

words_lent-Common : (p : Ptr) (cs : List (Option ℕ)) → Common (words_lent p cs)
words_lent-Common (block_ptr b o) cs κ = (tt, lent_words-Common b o cs κ)
words_lent-Common null_ptr cs κ = tt

pub words_send : IsSend words.the_row
words_send =
    let O = words.the_type in let all : AllSend (fields O) = tt in
    owning_send O all (λ d. words-Keyless d.at d.slots) (λ k x w. tt)

pub words_sync : IsSync words.the_row
words_sync = let O = words.the_type in record { shared = λ d b o κ. ((struct_sync (shape O) tt).shared (to O d) b o κ, words_lent-Common d.at d.slots κ) }

module _ (A : RattleType) (g : Ghosts A.Denot) where
  pub lease_send : IsSend A → Frees g g.dealloc_token → IsSend (lease.the_row A g)
  lease_send s f =
      let O = lease.the_type A g in let all : AllSend (fields O) = (search sendable, tt) in
      owning_send O all (λ d. f.frees d.alloc _ d.at) (λ k x w. tt)

  pub lease_sync : IsSync (lease.the_row A g)
  lease_sync = let O = lease.the_type A g in record { shared = λ d b o κ. ((struct_sync (shape O) (search sendable, tt)).shared (to O d) b o κ, tt) }
