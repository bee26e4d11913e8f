-- The two copies of an object: when both may be named, what their forwards are, and that both show the same object.
use Rattle.std.proofs.Common.{◌≡◌, ◌≢◌, ◌⊎◌, inl, inr, ℕ, ◌<◌, Bool, true, if◌then◌else◌, Option, Some, None, slice_get, refl, sym, ap, subst, ◌∙◌, arith}
use Rattle.std.proofs.lemmas.Option.{same_Some}
use Rattle.interpreter.specs.cil_model.declared.phases.Phase.{Phase}
use Rattle.interpreter.specs.cil_model.declared.phases.Phase.TheVariants.{PreFlip, HeapFlip, ThreadFlip, Reclaim}
use Rattle.interpreter.specs.cil_model.declared.trees.Tree.{Tree}
use Rattle.interpreter.proofs.cil_model.Lists.{none_is_some}
use Rattle.interpreter.proofs.cil_model.SameLaws.{never}
use Rattle.interpreter.specs.reference_machine.Values.{ObjectName, Value as StateValue}
use Rattle.interpreter.specs.reference_machine.States.{HeapObject}
use Rattle.interpreter.specs.object_memory.declared.addresses.Addr.{Addr}
use Rattle.interpreter.specs.object_memory.declared.addresses.TheConstants.{ADDRESSES}
use Rattle.interpreter.specs.object_memory.declared.values.Value.{Value}
use Rattle.interpreter.specs.object_memory.declared.values.Value.TheVariants.{Ref}
use Rattle.interpreter.specs.object_memory.Cells.{Cell, cell_in, null}
use Rattle.interpreter.specs.object_memory.Spaces.{AreSpaces, Spaces, cell_at, forward, forward_word, other_of}
use Rattle.interpreter.specs.object_memory.Values.{value_word}
use Rattle.interpreter.proofs.object_memory.TwoSpaces.TwoBlocks.{apart, either, forward_copy, forward_new, forward_null, new_is_cell, null_no_cell, old_is_cell}
use Rattle.collector.specs.References.{holds_reference, is_permanent, reference_in}
use Rattle.collector.specs.Phases.{is_live, is_new, is_new_address, is_read}
use Rattle.collector.specs.Soundness.{IsSoundHeap}
use Rattle.collector.specs.declared.progress.Progress.{Progress}
use Rattle.collector.proofs.Copies.VisibleCopies.{ShowSame, has_words, old_shows, one_old, word_shown}
use Rattle.collector.proofs.ThreadReferences.LiveValues.{reference_again}
use Rattle.collector.proofs.Addresses.Disjunctions.{or_second}
use Rattle.collector.proofs.Addresses.Tests.{is_new_live, live_is_late, live_is_read, new_is, new_is_live}
use Rattle.simulation.specs.Refines.{AreTwins, IsCell, IsMonitor, IsOfContents, IsValue, IsWord, Names, null_reference, reference, int32, int64, native}
use Rattle.simulation.proofs.Memory.ReferenceSlots.{IsLinked, is_reference_state}
use Rattle.simulation.proofs.CollectedHeap.RewrittenCells.{AreRewritten, IsNamedWord, contents_rewritten}
use Rattle.interpreter.specs.object_memory.Objects.{Objects}
use Rattle.interpreter.specs.instructions.barriers.Barriers.{forward_value}

-- ---- phases

-- where new objects are live and old ones are read, both copies have all words
pub late_of : (posted_phase : Phase) (c : Cell) → is_new_live posted_phase ≡ true → is_read posted_phase c ≡ true → has_words posted_phase ≡ true
late_of PreFlip c late read = refl
late_of HeapFlip c late read = refl
late_of ThreadFlip c late read = refl
late_of Reclaim c late read = never read
late_of _ c late read = never late

-- new objects are live then
pub words_are_live : (posted_phase : Phase) → has_words posted_phase ≡ true → is_new_live posted_phase ≡ true
words_are_live PreFlip e = refl
words_are_live HeapFlip e = refl
words_are_live ThreadFlip e = refl
words_are_live _ e = never e

-- and Reclaim isn't posted
pub words_not_last : (posted_phase : Phase) → has_words posted_phase ≡ true → posted_phase ≢ Reclaim
words_not_last posted_phase e is = never (sym (ap has_words is) ∙ e)

-- ---- two copies

-- an old object at the first address, and its other copy at the second
pub record AreOldAndNew (m : Spaces) (a b : Addr) : Type 0 where
  pub from : Cell
  pub to : Cell
  pub old : cell_in m.old a ≡ Some from
  pub out : from.other ≡ Some b
  pub new : cell_in m.new b ≡ Some to

-- the forward of an address but its own is that of another copy
pub other_by_forward : (m : Spaces) (a b : Addr) → forward m a ≡ b → a ≢ b → other_of (cell_in m.old a) ≡ Some b
other_by_forward m a b is ne = by_other (other_of (cell_in m.old a)) refl
  where
    by_other : (r : Option Addr) → other_of (cell_in m.old a) ≡ r → other_of (cell_in m.old a) ≡ Some b
    by_other None none = absurd (ne (sym (rw none refl) ∙ is))
    by_other (Some x) some = some ∙ ap Some (sym (rw some refl) ∙ is)

module _ (tree : Tree) (posted_phase : Phase) (has_round : Bool) (words : ℕ) (p : Progress) (m : Spaces) (sound : IsSoundHeap tree posted_phase has_round words p m) where
  abbrev spaces : AreSpaces m
  spaces = sound.blocks.spaces

  -- by what the old block notes
  pub copies_by : (a b : Addr) → other_of (cell_in m.old a) ≡ Some b → AreOldAndNew m a b
  copies_by a b other = by_cell (cell_in m.old a) refl other
    where
      by_cell : (r : Option Cell) → cell_in m.old a ≡ r → other_of r ≡ Some b → AreOldAndNew m a b
      by_cell None lies is = none_is_some b is
      by_cell (Some c) lies is = let u = sound.copies.out a b c lies is in record { from = c; to = u.0; old = lies; out = is; new = u.1 }

  pub noted : (a b : Addr) → AreOldAndNew m a b → other_of (cell_in m.old a) ≡ Some b
  noted a b copies = ap other_of copies.old ∙ copies.out

  -- an address is its own forward, or has another copy there
  pub forward_either : (a : Addr) → (forward m a ≡ a) ⊎ AreOldAndNew m a (forward m a)
  forward_either a = by_other (other_of (cell_in m.old a)) refl
    where
      by_other : (r : Option Addr) → other_of (cell_in m.old a) ≡ r → (forward m a ≡ a) ⊎ AreOldAndNew m a (forward m a)
      by_other None none = inl (rw none refl)
      by_other (Some b) some = let is : forward m a ≡ b = rw some refl in inr (subst (λ (x : Addr). AreOldAndNew m a x) (sym is) (copies_by a b some))

  module _ (a b : Addr) (copies : AreOldAndNew m a b) where
    -- both have the new one as their forward,
    pub old_forward : forward m a ≡ b
    old_forward = forward_copy m a b copies.from copies.old copies.out

    pub new_forward_itself : forward m b ≡ b
    new_forward_itself = forward_new m spaces b copies.to copies.new

    -- lie apart,
    pub copies_apart : a ≢ b
    copies_apart same = apart m spaces a b copies.from copies.to copies.old copies.new (ap (λ (x : Addr). x.number) same)

    -- and are both live only where both have all words
    pub copies_late : is_live posted_phase m a ≡ true → is_live posted_phase m b ≡ true → has_words posted_phase ≡ true
    copies_late live live' = late_of posted_phase copies.from (live_is_late m spaces b copies.to posted_phase copies.new live') (live_is_read m spaces a copies.from posted_phase copies.old live)

    -- the new one is new
    pub copy_is_new : is_new_address m b ≡ true
    copy_is_new = or_second (is_permanent b) (is_new m b) (new_is m b copies.to copies.new)

    -- both show the same
    pub copies_show : has_words posted_phase ≡ true → ShowSame tree m copies.from copies.to
    copies_show late =
        let u = old_shows tree posted_phase p m spaces sound.copies late a b copies.from copies.old copies.out in
        subst (ShowSame tree m copies.from) (same_Some u.0 copies.to (sym u.1 ∙ copies.new)) u.3

  -- ---- twins

  -- one of two twins is the other copy of the other one
  pub twins_either : (a b : ℕ) → AreTwins m a b → AreOldAndNew m (record { number = a }) (record { number = b }) ⊎ AreOldAndNew m (record { number = b }) (record { number = a })
  twins_either a b (inl other) = inl (copies_by (record { number = a }) (record { number = b }) other)
  twins_either a b (inr other) = inr (copies_by (record { number = b }) (record { number = a }) other)

  pub twins_late : (a b : ℕ) → AreTwins m a b → is_live posted_phase m (record { number = a }) ≡ true → is_live posted_phase m (record { number = b }) ≡ true → has_words posted_phase ≡ true
  twins_late a b twins live live' = elim (twins_either a b twins) [
    | inl copies ↦ copies_late (record { number = a }) (record { number = b }) copies live live'
    | inr copies ↦ copies_late (record { number = b }) (record { number = a }) copies live' live
  ]

  -- they have one forward
  pub twins_forward : (a b : ℕ) → AreTwins m a b → forward m (record { number = a }) ≡ forward m (record { number = b })
  twins_forward a b twins = elim (twins_either a b twins) [
    | inl copies ↦ old_forward (record { number = a }) (record { number = b }) copies ∙ sym (new_forward_itself (record { number = a }) (record { number = b }) copies)
    | inr copies ↦ new_forward_itself (record { number = b }) (record { number = a }) copies ∙ sym (old_forward (record { number = b }) (record { number = a }) copies)
  ]

  -- and addresses of one forward are one or twins, as long as old objects are read
  pub same_forward : posted_phase ≢ Reclaim → (a b : Addr) → forward m a ≡ forward m b → (a ≡ b) ⊎ AreTwins m a.number b.number
  same_forward early a b same = elim (forward_either a) [
    | inl own ↦ elim (forward_either b) [
      | inl own' ↦ inl (sym own ∙ same ∙ own')
      | inr copies ↦ inr (inr (noted b (forward m b) copies ∙ ap Some (sym same ∙ own)))
    ]
    | inr copies ↦ elim (forward_either b) [
      | inl own' ↦ inr (inl (noted a (forward m a) copies ∙ ap Some (same ∙ own')))
      | inr copies' ↦ inl (one_old tree posted_phase p m spaces sound.copies early a b (forward m a) copies.from copies'.from copies.old copies'.old copies.out (copies'.out ∙ ap Some (sym same)))
    ]
  ]

  -- null alone has null as its forward
  pub forward_is_null : (a : Addr) → forward m a ≡ null → a ≡ null
  forward_is_null a is = elim (forward_either a) [
    | inl own ↦ sym own ∙ is
    | inr copies ↦ none_is_some copies.to (sym (null_no_cell m spaces) ∙ ap (cell_at m) (sym is) ∙ new_is_cell m spaces (forward m a) copies.to copies.new)
  ]

  -- the other copy of an old object stays where forwards stay,
  pub copy_stays : (n : Spaces) (a b : ℕ) → forward n (record { number = a }) ≡ forward m (record { number = a }) → other_of (cell_in m.old (record { number = a })) ≡ Some (record { number = b }) →
      other_of (cell_in n.old (record { number = a })) ≡ Some (record { number = b })
  copy_stays n a b stays other =
      let copies = copies_by (record { number = a }) (record { number = b }) other in
      other_by_forward n (record { number = a }) (record { number = b }) (stays ∙ old_forward (record { number = a }) (record { number = b }) copies) (copies_apart (record { number = a }) (record { number = b }) copies)

  -- and so do twins
  pub twins_stay : (n : Spaces) (a b : ℕ) → forward n (record { number = a }) ≡ forward m (record { number = a }) → forward n (record { number = b }) ≡ forward m (record { number = b }) → AreTwins m a b → AreTwins n a b
  twins_stay n a b stays stays' (inl other) = inl (copy_stays n a b stays other)
  twins_stay n a b stays stays' (inr other) = inr (copy_stays n b a stays' other)

-- what a copy notes is its twin,
module _ (tree : Tree) (posted_phase : Phase) (has_round : Bool) (words : ℕ) (p : Progress) (m : Spaces) (sound : IsSoundHeap tree posted_phase has_round words p m) (a b : Addr) where
  pub noted_twin : (c : Cell) → cell_at m a ≡ Some c → c.other ≡ Some b → AreTwins m a.number b.number
  noted_twin c lies other = elim (either m a c lies) [
    | inl old ↦ inl (ap other_of old ∙ other)
    | inr new ↦ let u = sound.copies.back b a c new other in inr (ap other_of u.1 ∙ u.2)
  ]

  -- and each twin is noted
  pub twin_noted : has_words posted_phase ≡ true → AreTwins m a.number b.number → other_of (cell_at m a) ≡ Some b
  twin_noted late twins = elim (twins_either tree posted_phase has_round words p m sound a.number b.number twins) [
    | inl copies ↦ ap other_of (old_is_cell m a copies.from copies.old) ∙ copies.out
    | inr copies ↦
        let u = old_shows tree posted_phase p m sound.blocks.spaces sound.copies late b a copies.from copies.old copies.out in
        ap other_of (new_is_cell m sound.blocks.spaces a u.0 u.1) ∙ u.2
  ]

-- twins in the other order
pub twins_sym : (m : Spaces) (a b : ℕ) → AreTwins m a b → AreTwins m b a
twins_sym m a b (inl other) = inr other
twins_sym m a b (inr other) = inl other

-- ---- what both show

-- the words of references are of null or of what has a name
abbrev pub HasNamedWords : Tree → Names → Cell → Type 0
HasNamedWords tree name c = (slot word : ℕ) → slice_get c.slots slot ≡ Some word → holds_reference tree c.kind slot ≡ true → IsNamedWord name word

-- what a reference's word is of: null, or an address with the name
pub by_reference : (name : Names) (w : ℕ) (u : StateValue) (P : StateValue → Type 0) → is_reference_state u ≡ true → IsWord name w u → (w ≡ 0 → ((names : Names) → IsValue names (Ref null) u) → P u) →
    ((a : Addr) (n : ObjectName) → a.number ≡ w → name a.number ≡ Some n → ((names : Names) (b : Addr) → names b.number ≡ Some n → IsValue names (Ref b) u) → P u) → P u
by_reference name w u P sort h none some = by_value h.value u sort h.refines h.is none some
  where
    by_value : (v : Value) (u : StateValue) → is_reference_state u ≡ true → IsValue name v u → value_word v ≡ w → (w ≡ 0 → ((names : Names) → IsValue names (Ref null) u) → P u) →
        ((a : Addr) (n : ObjectName) → a.number ≡ w → name a.number ≡ Some n → ((names : Names) (b : Addr) → names b.number ≡ Some n → IsValue names (Ref b) u) → P u) → P u
    by_value v u sort null_reference is none some = none (sym is) (λ names. null_reference)
    by_value v u sort (reference a n named) is none some = some a n is named (λ names b named'. reference b n named')
    by_value v u sort _ is none some = never sort

module _ (tree : Tree) (posted_phase : Phase) (has_round : Bool) (words : ℕ) (p : Progress) (m : Spaces) (sound : IsSoundHeap tree posted_phase has_round words p m) (late : has_words posted_phase ≡ true)
    (name : Names) (filled : (a b : ℕ) (n : ObjectName) → name a ≡ Some n → other_of (cell_in m.old (record { number = a })) ≡ Some (record { number = b }) → is_live posted_phase m (record { number = b }) ≡ true → name b ≡ Some n) where
  -- a forward has the same name
  pub forward_named : (a : Addr) (n : ObjectName) → name a.number ≡ Some n → name (forward m a).number ≡ Some n
  forward_named a n named = elim (forward_either tree posted_phase has_round words p m sound a) [
    | inl own ↦ subst (λ (x : Addr). name x.number ≡ Some n) (sym own) named
    | inr copies ↦
        filled a.number (forward m a).number n named (noted tree posted_phase has_round words p m sound a (forward m a) copies)
        (new_is_live posted_phase m (forward m a) (words_are_live posted_phase late) (copy_is_new tree posted_phase has_round words p m sound a (forward m a) copies))
  ]

-- so the forward of a value represents the same
pub value_forwarded : (tree : Tree) (posted_phase : Phase) (has_round : Bool) (words : ℕ) (p : Progress) (o : Objects) → IsSoundHeap tree posted_phase has_round words p o.spaces → has_words posted_phase ≡ true → (name : Names) →
    ((a b : ℕ) (n : ObjectName) → name a ≡ Some n → other_of (cell_in o.spaces.old (record { number = a })) ≡ Some (record { number = b }) → is_live posted_phase o.spaces (record { number = b }) ≡ true → name b ≡ Some n) →
    (v : Value) (u : StateValue) → IsValue name v u → IsValue name (forward_value o v) u
value_forwarded tree posted_phase has_round words p o sound late name filled v u (int32 z fits) = int32 z fits
value_forwarded tree posted_phase has_round words p o sound late name filled v u (int64 z fits) = int64 z fits
value_forwarded tree posted_phase has_round words p o sound late name filled v u (native z fits) = native z fits
value_forwarded tree posted_phase has_round words p o sound late name filled v u null_reference = subst (λ a. IsValue name (Ref a) u) (sym (forward_null o.spaces sound.blocks.spaces)) null_reference
value_forwarded tree posted_phase has_round words p o sound late name filled v u (reference a n is) = reference (forward o.spaces a) n (forward_named tree posted_phase has_round words p o.spaces sound late name filled a n is)

module _ (tree : Tree) (posted_phase : Phase) (has_round : Bool) (words : ℕ) (p : Progress) (m : Spaces) (sound : IsSoundHeap tree posted_phase has_round words p m) (late : has_words posted_phase ≡ true)
    (name : Names) (small : (a : ℕ) (n : ObjectName) → name a ≡ Some n → a < ADDRESSES)
    (filled : (a b : ℕ) (n : ObjectName) → name a ≡ Some n → other_of (cell_in m.old (record { number = a })) ≡ Some (record { number = b }) → is_live posted_phase m (record { number = b }) ≡ true → name b ≡ Some n) where
  -- the forward of a reference represents the same,
  pub word_forwarded : (w : ℕ) (u : StateValue) → is_reference_state u ≡ true → IsWord name w u → IsWord name (forward_word m w) u
  word_forwarded w u sort h = by_reference name w u (λ x. IsWord name (forward_word m w) x) sort h
      (λ zero refines. record { value = Ref null; refines = refines name; is = sym (ap (forward_word m) zero ∙ ap (λ (a : Addr). a.number) (forward_null m sound.blocks.spaces)) })
      (λ a n is named refines. record {
        value = Ref (forward m a);
        refines = refines name (forward m a) (forward_named tree posted_phase has_round words p m sound late name filled a n named);
        is = ap (λ (x : Addr). (forward m x).number) (sym (reference_again a (small a.number n named))) ∙ ap (forward_word m) is;
      })

  -- and so does what the forward is of, where it has a name
  pub word_back : (was w : ℕ) (u : StateValue) → IsNamedWord name was → w ≡ forward_word m was → is_reference_state u ≡ true → IsWord name w u → IsWord name was u
  word_back was w u has is sort h = by_reference name w u (λ x. IsWord name was x) sort h of_null of_object
    where
      short : was < ADDRESSES
      short = elim has [ inl zero ↦ omega (arith, zero) | inr n ↦ small was n.0 n.1 ]

      again : reference_in was ≡ (record { number = was })
      again = reference_again (record { number = was }) short

      there : w ≡ (forward m (record { number = was })).number
      there = is ∙ ap (λ (x : Addr). (forward m x).number) again

      of_null : w ≡ 0 → ((names : Names) → IsValue names (Ref null) u) → IsWord name was u
      of_null zero refines =
          let forward_null_is : forward m (record { number = was }) ≡ null = ap (λ (k : ℕ). record { number = k }) (sym there ∙ zero) in
          record { value = Ref null; refines = refines name; is = sym (ap (λ (x : Addr). x.number) (forward_is_null tree posted_phase has_round words p m sound (record { number = was }) forward_null_is)) }

      of_object : (a : Addr) (n : ObjectName) → a.number ≡ w → name a.number ≡ Some n → ((names : Names) (b : Addr) → names b.number ≡ Some n → IsValue names (Ref b) u) → IsWord name was u
      of_object a n same named refines =
          let forward_is : forward m (record { number = was }) ≡ a = ap (λ (k : ℕ). record { number = k }) (sym there ∙ sym same) in
          let named' : name was ≡ Some n = elim has [
            | inl zero ↦
                (let null_is : a ≡ null = sym forward_is ∙ ap (λ (k : ℕ). forward m (record { number = k })) zero ∙ forward_null m sound.blocks.spaces in
                ap name zero ∙ ap (λ (x : Addr). name x.number) (sym null_is) ∙ named)
            | inr k ↦ k.1 ∙ sym (forward_named tree posted_phase has_round words p m sound late name filled (record { number = was }) k.0 k.1) ∙ ap (λ (x : Addr). name x.number) forward_is ∙ named
          ]
          in
          record { value = Ref (record { number = was }); refines = refines name (record { number = was }) named'; is = refl }

  module _ (a b : Addr) (copies : AreOldAndNew m a b) where
    show : ShowSame tree m copies.from copies.to
    show = copies_show tree posted_phase has_round words p m sound a b copies late

    to_new : AreRewritten tree name name copies.from.kind copies.from.slots copies.to.slots
    to_new = record {
      count = show.count;
      integers = λ slot w is none. show.slots slot w is ∙ ap (λ t. Some (if t then forward_word m w else w)) none;
      references = λ slot w is holds u sort refines. (forward_word m w, show.slots slot w is ∙ ap (λ t. Some (if t then forward_word m w else w)) holds, word_forwarded w u sort refines);
    }

    to_old : HasNamedWords tree name copies.from → AreRewritten tree name name copies.from.kind copies.to.slots copies.from.slots
    to_old has = record {
      count = sym show.count;
      integers = λ slot w is none.
          let r = word_shown tree m copies.from copies.to show slot w is in
          r.1 ∙ ap Some (sym (r.2 ∙ ap (λ t. if t then forward_word m r.0 else r.0) none));
      references = λ slot w is holds u sort refines.
          let r = word_shown tree m copies.from copies.to show slot w is in
          (r.0, r.1, word_back r.0 w u (has slot r.0 r.1 holds) (r.2 ∙ ap (λ t. if t then forward_word m r.0 else r.0) holds) sort refines);
    }

    -- the new copy shows what the old one shows,
    pub new_copy_refines : (object : HeapObject) → IsLinked tree copies.from.kind object.contents → IsCell tree name copies.from object → IsCell tree name copies.to object
    new_copy_refines object linked refines = record {
      contents =
          subst (λ k. IsOfContents tree name k copies.to.slots object.contents object.thread) (sym show.kind)
          (contents_rewritten tree name name copies.from.kind copies.from.slots copies.to.slots to_new object.contents object.thread linked refines.contents);
      monitor = subst (λ x. IsMonitor x object.monitor) (sym show.monitor) refines.monitor;
    }

    -- and the old one what the new one shows
    pub old_copy_refines : (object : HeapObject) → IsLinked tree copies.from.kind object.contents → HasNamedWords tree name copies.from → IsCell tree name copies.to object → IsCell tree name copies.from object
    old_copy_refines object linked has refines = record {
      contents =
          contents_rewritten tree name name copies.from.kind copies.to.slots copies.from.slots (to_old has) object.contents object.thread linked
          (subst (λ k. IsOfContents tree name k copies.to.slots object.contents object.thread) show.kind refines.contents);
      monitor = subst (λ x. IsMonitor x object.monitor) show.monitor refines.monitor;
    }
