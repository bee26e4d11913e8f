-- A `&` to the owner of words is made where one to a word is.
use Prim.Native.Nat.{ℕ, ◌+◌}
use Rattle.std.specs.Prelude.{List, [], ◌∷◌, Option, Some, None}
use seplogic.Ra.Ura.{Ura}
use base.Fraction.{full_share}
use base.Fml.{Lft, ftrue, ffalse}
use mir.Syntax.{w64}
use types.Logic.{Logic}
use denote.RawPtr.{Ptr, block_ptr, null_ptr}
use denote.Sharing.{ShrLaws, said}
use denote.SharingLaws.{beside_shr_laws, nothing_shr_laws, said_shr_laws}
use denote.Copied.{uint_Copied}
use denote.Plain.{uint_row_laws}
use denote.Struct.Lending.{Lends, Lends-both, Lends-nothing, Lends-said, Lends-false}
use Rattle.space_block.specs.Memory.{word_size, slot, slots, lent_word, lent_words, fit, words_owned, words_lent}

slot_lent_laws : (b o : ℕ) (c : Option ℕ) → ShrLaws (lent_word b o c)
slot_lent_laws b o (Some w) = uint_row_laws w64 w b o
slot_lent_laws b o None = nothing_shr_laws

slots_lent_laws : (b o : ℕ) (cs : List (Option ℕ)) → ShrLaws (lent_words b o cs)
slots_lent_laws b o [] = nothing_shr_laws
slots_lent_laws b o (c ∷ cs) = beside_shr_laws _ _ (slot_lent_laws b o c) (slots_lent_laws b (o + word_size) cs)

pub words_lent_laws : (p : Ptr) (cs : List (Option ℕ)) → ShrLaws (words_lent p cs)
words_lent_laws (block_ptr b o) cs = beside_shr_laws _ _ (said_shr_laws (fit cs) tt) (slots_lent_laws b o cs)
words_lent_laws null_ptr cs = said_shr_laws ffalse tt

module _ {M : Type 1} {𝓤 : Ura M} (𝓛 : Logic 𝓤) (l : Lft) where
  Lends-slot : (b o : ℕ) (c : Option ℕ) → Lends 𝓛 (slot b o c) (lent_word b o c) l
  Lends-slot b o (Some w) = λ κ ts inc sp. (uint_Copied 𝓛 w64).shares full_share l w κ ts b o inc sp
  Lends-slot b o None = Lends-nothing 𝓛 (slot b o None) l

  Lends-slots : (b o : ℕ) (cs : List (Option ℕ)) → Lends 𝓛 (slots b o cs) (lent_words b o cs) l
  Lends-slots b o [] = Lends-nothing 𝓛 ftrue l
  Lends-slots b o (c ∷ cs) = Lends-both 𝓛 (slot b o c) (slots b (o + word_size) cs) (lent_word b o c) (lent_words b (o + word_size) cs) l (Lends-slot b o c) (Lends-slots b (o + word_size) cs)

  pub Lends-words : (p : Ptr) (cs : List (Option ℕ)) → Lends 𝓛 (words_owned p cs) (words_lent p cs) l
  Lends-words (block_ptr b o) cs = Lends-both 𝓛 (fit cs) (slots b o cs) (said (fit cs)) (lent_words b o cs) l (Lends-said 𝓛 (fit cs) tt l) (Lends-slots b o cs)
  Lends-words null_ptr cs = Lends-false 𝓛 (said ffalse) l
