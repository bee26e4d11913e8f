-- What readers see of objects with two copies: from Copy on each marked object has one, and from PreFlip on both show the same.
use Rattle.std.proofs.Common.{◌≡◌, ◌≢◌, ◌⊎◌, inl, inr, ℕ, suc, ◌<◌, Bool, true, length, refl, sym, ap, subst, ◌∙◌, arith}
use Rattle.std.specs.Prelude.{Option, Some, None, is_some, slice_get}
use Rattle.std.proofs.Math.Nat.{mod-eq_of_lt}
use Rattle.std.proofs.lemmas.Bool.{or_cases, or_left, or_right}
use Rattle.std.proofs.lemmas.Nat.{mod_below}
use Rattle.std.proofs.lemmas.Option.{same_Some, slice_get-get_or, slice_get_within}
use Rattle.cil_model.specs.declared.phases.Phase.{Phase}
use Rattle.cil_model.specs.declared.phases.Phase.TheVariants.{PreFlip, HeapFlip, ThreadFlip, Reclaim}
use Rattle.cil_model.specs.PhaseOrder.{is_between}
use Rattle.cil_model.specs.declared.trees.Tree.{Tree}
use Rattle.object_memory.specs.declared.addresses.Addr.{Addr}
use Rattle.object_memory.specs.declared.addresses.TheConstants.{ADDRESSES}
use Rattle.object_memory.specs.Cells.{Cell, cell_in}
use Rattle.object_memory.specs.Spaces.{Spaces, AreSpaces, forward, forward_word}
use Rattle.object_memory.proofs.TwoSpaces.TwoBlocks.{forward_bare, forward_copy, forward_else, forward_new, new_is_cell, are_distinct}
use Rattle.collector.specs.References.{is_permanent, reference_in, ValuePasses}
use Rattle.collector.specs.Phases.{HasCopied, is_live, is_live_object, is_marked_old, is_new, is_new_address}
use Rattle.collector.specs.Soundness.{AreCopies, AreCopied, IsCopiedSlot, copied_word}
use Rattle.collector.specs.declared.progress.Progress.{Progress}
pub use Rattle.collector.proofs.Addresses.LiveForwards.{has_copies}
use Rattle.collector.proofs.Copies.CopyTests.{other_there}
use Rattle.collector.proofs.Addresses.LiveForwards.{live_marked_or_new, looked_at_all}
use Rattle.collector.proofs.Addresses.Tests.{marked_there, permanent_not_old, some_there}
use Rattle.object_memory.specs.declared.values.Value.{Value}
use Rattle.object_memory.specs.declared.values.Value.TheVariants.{Ref}
use Rattle.object_memory.specs.Objects.{Objects}
use Rattle.barriers.specs.Barriers.{forward_value}

-- ---- phases

-- from PreFlip on, until the old copies go, the new ones have all words
abbrev pub has_words : Phase → Bool
has_words p = is_between PreFlip ThreadFlip p

-- an old object and its new copy show the same but for forwards
pub record ShowSame (tree : Tree) (m : Spaces) (c d : Cell) : Type 0 where
  pub kind : d.kind ≡ c.kind
  pub monitor : d.monitor ≡ c.monitor
  pub count : length d.slots ≡ length c.slots
  pub slots : (slot : ℕ) → IsCopiedSlot tree m c d slot

copied_by : (posted_phase : Phase) (p : Progress) (m : Spaces) (a : Addr) (word : ℕ) → has_words posted_phase ≡ true → HasCopied posted_phase p m a word
copied_by PreFlip p m a word e = tt
copied_by HeapFlip p m a word e = tt
copied_by ThreadFlip p m a word e = tt
copied_by _ p m a word e = absurd cc

not_reclaim : (posted_phase : Phase) → has_words posted_phase ≡ true → posted_phase ≢ Reclaim
not_reclaim posted_phase e is = let wrong : has_words Reclaim ≡ true = sym (ap has_words is) ∙ e in absurd cc

module _ (tree : Tree) (posted_phase : Phase) (p : Progress) (m : Spaces) (spaces : AreSpaces m) (copies : AreCopied tree posted_phase p m) where
  -- ---- forwards

  -- a marked object has another copy
  pub copy_of : has_copies posted_phase ≡ true → (a : Addr) (c : Cell) → cell_in m.old a ≡ Some c → c.marked ≡ true
      → (b : Addr) × (d : Cell) × (c.other ≡ Some b) × (cell_in m.new b ≡ Some d) × AreCopies tree posted_phase p m a c d
  copy_of late a c lies marked =
      let b = other_there c.other (copies.shells a c lies marked (looked_at_all posted_phase p m a late)) in
      let r = copies.out a b.0 c lies b.1 in
      (b.0, r.0, b.1, r.1, r.2)

  -- two old objects have no new copy in common, as long as old ones are read
  pub one_old : posted_phase ≢ Reclaim → (x y b : Addr) (c d : Cell) → cell_in m.old x ≡ Some c → cell_in m.old y ≡ Some d → c.other ≡ Some b → d.other ≡ Some b → x ≡ y
  one_old early x y b c d lies there other same_other =
      let r = copies.out x b c lies other in
      let s = copies.out y b d there same_other in
      let equal : r.0 ≡ s.0 = same_Some r.0 s.0 (sym r.1 ∙ s.1) in
      same_Some x y (sym (r.2.back (inl early)) ∙ ap (λ (z : Cell). z.other) equal ∙ s.2.back (inl early))

  -- the forward of what is live is new
  pub forward_is_new : has_copies posted_phase ≡ true → (a : Addr) → is_live posted_phase m a ≡ true → is_new_address m (forward m a) ≡ true
  forward_is_new late a live = by_kind (or_cases (is_permanent a) (is_live_object posted_phase m a) live)
    where
      by_object : (is_marked_old m a ≡ true) ⊎ (is_new m a ≡ true) → is_new_address m (forward m a) ≡ true
      by_object (inl marked) =
          let c = marked_there (cell_in m.old a) marked in
          let r = copy_of late a c.0 c.1 c.2 in
          let there : is_new m r.0 ≡ true = ap is_some r.3 in
          subst (λ x. is_new_address m x ≡ true) (sym (forward_copy m a r.0 c.0 c.1 r.2)) (or_right (is_permanent r.0) (is_new m r.0) there)
      by_object (inr new) =
          let d = some_there (cell_in m.new a) new in
          subst (λ x. is_new_address m x ≡ true) (sym (forward_new m spaces a d.0 d.1)) (or_right (is_permanent a) (is_new m a) new)

      by_kind : (is_permanent a ≡ true) ⊎ (is_live_object posted_phase m a ≡ true) → is_new_address m (forward m a) ≡ true
      by_kind (inl permanent) =
          subst (λ x. is_new_address m x ≡ true) (sym (forward_else m a (permanent_not_old m spaces a permanent))) (or_left (is_permanent a) (is_new m a) permanent)
      by_kind (inr object) = by_object (live_marked_or_new posted_phase m a late object)

  -- a forward is an address that a word can hold
  pub forward_short : (a : Addr) → a.number < ADDRESSES → (forward m a).number < ADDRESSES
  forward_short a short = by_cell (cell_in m.old a) refl
    where
      by_other : (c : Cell) (o : Option Addr) → cell_in m.old a ≡ Some c → c.other ≡ o → (forward m a).number < ADDRESSES
      by_other c None lies other = subst (λ (x : Addr). x.number < ADDRESSES) (sym (forward_bare m a c lies other)) short
      by_other c (Some b) lies other =
          let r = copies.out a b c lies other in
          let low = (are_distinct m spaces b r.0 (new_is_cell m spaces b r.0 r.1)).1 in
          subst (λ (x : Addr). x.number < ADDRESSES) (sym (forward_copy m a b c lies other)) (omega (arith, low))

      by_cell : (r : Option Cell) → cell_in m.old a ≡ r → (forward m a).number < ADDRESSES
      by_cell None lies = subst (λ (x : Addr). x.number < ADDRESSES) (sym (forward_else m a lies)) short
      by_cell (Some c) lies = by_other c c.other lies refl

  -- the reference in a copied word is the forward of the reference
  pub forward_in_word : (word : ℕ) → reference_in (forward_word m word) ≡ forward m (reference_in word)
  forward_in_word word =
      let short = forward_short (reference_in word) (mod_below word ADDRESSES (omega arith)) in
      ap (λ (n : ℕ). record { number = n }) (mod-eq_of_lt short)

  pub forward_word_is_new : has_copies posted_phase ≡ true → (word : ℕ) → is_live posted_phase m (reference_in word) ≡ true → is_new_address m (reference_in (forward_word m word)) ≡ true
  forward_word_is_new late word live = subst (λ x. is_new_address m x ≡ true) (sym (forward_in_word word)) (forward_is_new late (reference_in word) live)

  -- ---- both copies show the same

  module _ (late : has_words posted_phase ≡ true) where
    show : (a : Addr) (c d : Cell) → AreCopies tree posted_phase p m a c d → ShowSame tree m c d
    show a c d h = record {
      kind = h.kind;
      monitor = h.words 0 (inl (copied_by posted_phase p m a 0 late));
      count = h.count;
      slots = λ slot. h.words (suc slot) (inl (copied_by posted_phase p m a (suc slot) late));
    }

    -- through the old address, and through the new one
    pub old_shows : (a b : Addr) (c : Cell) → cell_in m.old a ≡ Some c → c.other ≡ Some b → (d : Cell) × (cell_in m.new b ≡ Some d) × (d.other ≡ Some a) × ShowSame tree m c d
    old_shows a b c lies other =
        let r = copies.out a b c lies other in
        (r.0, r.1, r.2.back (inl (not_reclaim posted_phase late)), show a c r.0 r.2)

-- the forward of a value that is live is new
pub forwarded_is_new : (tree : Tree) (posted_phase : Phase) (p : Progress) (o : Objects) → AreSpaces o.spaces → AreCopied tree posted_phase p o.spaces → has_copies posted_phase ≡ true → (v : Value)
    → ValuePasses (is_live posted_phase o.spaces) v → ValuePasses (is_new_address o.spaces) (forward_value o v)
forwarded_is_new tree posted_phase p o spaces copies late (Ref a) live = forward_is_new tree posted_phase p o.spaces spaces copies late a live
forwarded_is_new tree posted_phase p o spaces copies late _ live = tt

-- each word of a new copy is copied from that of the old one
pub word_shown : (tree : Tree) (m : Spaces) (c d : Cell) → ShowSame tree m c d → (slot word : ℕ) → slice_get d.slots slot ≡ Some word
    → (old : ℕ) × (slice_get c.slots slot ≡ Some old) × (word ≡ copied_word tree m c slot old)
word_shown tree m c d h slot word there =
    let within = slice_get_within d.slots slot word there in
    let inside : slot < length c.slots = omega (arith, within, h.count) in
    let was = slice_get-get_or c.slots slot 0 inside in
    (_, was, same_Some word _ (sym there ∙ h.slots slot _ was))
