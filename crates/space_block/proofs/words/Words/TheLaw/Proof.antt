-- A `&` to the owner of words reaches each word.
use denote.Struct.Lending.{of_Lends}
use Rattle.space_block.specs.contracts.words.Words as C
use Rattle.space_block.proofs.words.Words.TheLaw.Statement.{statement}
use Rattle.space_block.proofs.SharedReferences.{words_lent_laws, Lends-words}

pub shares : statement
shares = of_Lends C.struct C.the_codes C.the_heap C.the_lent (λ d p. words_lent_laws d.at d.slots) tt
    (λ M 𝓤 𝓛 d p. Lends-words 𝓛 C.the_row.lives d.at d.slots)
