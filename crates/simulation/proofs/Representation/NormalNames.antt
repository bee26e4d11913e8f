-- Names made normal: cut to the addresses that are live, and where both copies of an object are live filled to the new one. What stands under some
-- names stands under these.
use Rattle.std.proofs.Common.{◌≡◌, ◌⊎◌, ◌<◌, ◌==◌, ℕ, Bool, true, false, if◌then◌else◌, List, Option, Some, None, slice_get, refl, inl, inr, sym, ap, ◌∙◌, subst, arith}
use Rattle.std.specs.Prelude.{◌||◌, is_some}
use Rattle.std.proofs.lemmas.Option.{same_Some}
use Rattle.interpreter.specs.cil_model.declared.phases.Phase.{Phase}
use Rattle.interpreter.specs.cil_model.declared.trees.Tree.{Tree}
use Rattle.interpreter.specs.cil_model.Legality.{IsLegal}
use Rattle.interpreter.specs.cil_model.Mentions.{literals_of}
use Rattle.interpreter.specs.reference_machine.Values.{ObjectName, Born, Literal, Value as StateValue}
use Rattle.interpreter.specs.reference_machine.States.{State}
use Rattle.interpreter.specs.object_memory.declared.addresses.Addr.{Addr}
use Rattle.interpreter.specs.object_memory.declared.addresses.TheConstants.{ADDRESSES}
use Rattle.interpreter.specs.object_memory.Cells.{Cell, cell_in, literal, null}
use Rattle.interpreter.specs.object_memory.Objects.{Objects, object_cell}
use Rattle.interpreter.specs.object_memory.Spaces.{Spaces, first_of, other_of}
use Rattle.interpreter.specs.object_memory.Values.{value_word}
use Rattle.interpreter.proofs.object_memory.TwoSpaces.TwoBlocks.{apart, new_is_cell, no_literal, old_is_cell, are_distinct}
use Rattle.interpreter.proofs.cil_model.Lists.{none_is_some}
use Rattle.reference_machine.specs.TypedStates.{IsTyped}
use Rattle.collector.specs.References.{reference_in}
use Rattle.collector.specs.Phases.{is_live, is_live_object}
use Rattle.collector.specs.Soundness.{IsSoundHeap}
use Rattle.collector.specs.declared.progress.Progress.{Progress}
use Rattle.collector.proofs.Addresses.Tests.{live_is_late, live_is_read, live_loads}
use Rattle.collector.proofs.Copies.VisibleCopies.{has_words, old_shows}
use Rattle.collector.proofs.ThreadReferences.LiveValues.{reference_again}
use Rattle.simulation.specs.Refines.{Names, AreTwins, HasOneName, IsWord, IsCell, IsBornAt, IsHeap, IsLiteralAt}
use Rattle.simulation.proofs.CollectedHeap.TwoCopies.{late_of, AreOldAndNew, new_copy_refines}
use Rattle.simulation.proofs.Memory.ReferenceSlots.{typed_is_linked}
use Rattle.simulation.proofs.Memory.NamedAddresses.{born_renamed}
use Rattle.interpreter.proofs.loaded_program.OperandLaws.{if_some}
use Rattle.simulation.proofs.Representation.MoreNames.{value_renamed}
use Rattle.simulation.proofs.CollectedHeap.RewrittenCells.{AreRewritten, contents_rewritten}

-- What is named is live, and the new copy of a named old object has its name where it is live too.
pub record IsNormal (posted_phase : Phase) (m : Spaces) (name : Names) : Type 0 where
  pub live : (a : ℕ) (n : ObjectName) → name a ≡ Some n → is_live posted_phase m (record { number = a }) ≡ true
  pub filled : (a b : ℕ) (n : ObjectName) → name a ≡ Some n → other_of (cell_in m.old (record { number = a })) ≡ Some (record { number = b }) → is_live posted_phase m (record { number = b }) ≡ true → name b ≡ Some n

-- ---- the names

first_cases : {X : Type 0} (x y : Option X) (n : X) → first_of x y ≡ Some n → (x ≡ Some n) ⊎ (y ≡ Some n)
first_cases None y n e = inr e
first_cases (Some k) y n e = inl e

module _ (posted_phase : Phase) (m : Spaces) (name : Names) where
  -- the names of live addresses
  abbrev cut : Names
  cut a = if is_live posted_phase m (record { number = a }) then name a else None

  abbrev cut_at : Option Addr → Option ObjectName
  cut_at None = None
  cut_at (Some b) = cut b.number

  -- a new address without a name has that of its old copy
  abbrev pub filled : Names
  filled a = first_of (cut a) (if is_live posted_phase m (record { number = a }) then cut_at (other_of (cell_in m.new (record { number = a }))) else None)

  -- a name that a live address has then: its own, or that of its old copy
  data IsFilled (a : ℕ) (n : ObjectName) : Type 0 where
    own : name a ≡ Some n → IsFilled a n
    copied : (b : Addr) → other_of (cell_in m.new (record { number = a })) ≡ Some b → is_live posted_phase m b ≡ true → name b.number ≡ Some n → IsFilled a n

  cut_copied : (a : ℕ) (n : ObjectName) (o : Option Addr) → other_of (cell_in m.new (record { number = a })) ≡ o → cut_at o ≡ Some n → IsFilled a n
  cut_copied a n None is e = none_is_some n e
  cut_copied a n (Some b) is e = let parts = if_some (is_live posted_phase m b) (name b.number) n e in copied b is parts.0 parts.1

  filled_is : (a : ℕ) (n : ObjectName) → filled a ≡ Some n → (is_live posted_phase m (record { number = a }) ≡ true) × IsFilled a n
  filled_is a n e = by_part (first_cases (cut a) _ n e)
    where
      by_part : (cut a ≡ Some n) ⊎ ((if is_live posted_phase m (record { number = a }) then cut_at (other_of (cell_in m.new (record { number = a }))) else None) ≡ Some n) → (is_live posted_phase m (record { number = a }) ≡ true) × IsFilled a n
      by_part (inl k) = let parts = if_some (is_live posted_phase m (record { number = a })) (name a) n k in (parts.0, own parts.1)
      by_part (inr k) =
          let parts = if_some (is_live posted_phase m (record { number = a })) (cut_at (other_of (cell_in m.new (record { number = a })))) n k in
          (parts.0, cut_copied a n (other_of (cell_in m.new (record { number = a }))) refl parts.1)

  is_cut : (a : ℕ) (n : ObjectName) → is_live posted_phase m (record { number = a }) ≡ true → name a ≡ Some n → cut a ≡ Some n
  is_cut a n live is = ap (λ b. if b then name a else None) live ∙ is

  -- a live address keeps its name
  pub is_filled : (a : ℕ) (n : ObjectName) → is_live posted_phase m (record { number = a }) ≡ true → name a ≡ Some n → filled a ≡ Some n
  is_filled a n live is = ap (λ x. first_of x (if is_live posted_phase m (record { number = a }) then cut_at (other_of (cell_in m.new (record { number = a }))) else None)) (is_cut a n live is)

  -- and each of these names was there
  pub filled_from : (a : ℕ) (n : ObjectName) → filled a ≡ Some n → (b : ℕ) × (name b ≡ Some n)
  filled_from a n e = by_filled (filled_is a n e).1
    where
      by_filled : IsFilled a n → (b : ℕ) × (name b ≡ Some n)
      by_filled (own is) = (a, is)
      by_filled (copied b there live is) = (b.number, is)

-- ---- both copies of an object

-- the cell of an address that has another copy
pub other_cell : (o : Option Cell) (b : Addr) → other_of o ≡ Some b → (c : Cell) × (o ≡ Some c) × (c.other ≡ Some b)
other_cell None b e = none_is_some b e
other_cell (Some c) b e = (c, refl, e)

-- an old object and its new copy, both of them live
record ArePair (tree : Tree) (posted_phase : Phase) (m : Spaces) (a b : Addr) : Type 0 where
  from : Cell
  to : Cell
  old : cell_in m.old a ≡ Some from
  new : cell_in m.new b ≡ Some to
  out : from.other ≡ Some b
  back : to.other ≡ Some a
  late : has_words posted_phase ≡ true

module _ (tree : Tree) (posted_phase : Phase) (has_round : Bool) (words : ℕ) (p : Progress) (o : Objects) (sound : IsSoundHeap tree posted_phase has_round words p o.spaces) where
  abbrev m : Spaces
  m = o.spaces

  -- ---- both copies

  pair : (a b : Addr) (c : Cell) → cell_in m.old a ≡ Some c → c.other ≡ Some b → is_live posted_phase m a ≡ true → is_live posted_phase m b ≡ true → ArePair tree posted_phase m a b
  pair a b c lies other live_old live_new =
      let copy = sound.copies.out a b c lies other in
      let read = live_is_read m sound.blocks.spaces a c posted_phase lies live_old in
      let words_there = late_of posted_phase c (live_is_late m sound.blocks.spaces b copy.0 posted_phase copy.1 live_new) read in
      let shown = old_shows tree posted_phase p m sound.blocks.spaces sound.copies words_there a b c lies other in
      record { from = c; to = shown.0; old = lies; new = shown.1; out = other; back = shown.2; late = words_there }

  -- through the old address, and through the new one
  old_pair : (a b : Addr) → other_of (cell_in m.old a) ≡ Some b → is_live posted_phase m a ≡ true → is_live posted_phase m b ≡ true → ArePair tree posted_phase m a b
  old_pair a b is live_old live_new = let c = other_cell (cell_in m.old a) b is in pair a b c.0 c.1 c.2 live_old live_new

  new_pair : (a b : Addr) → other_of (cell_in m.new b) ≡ Some a → is_live posted_phase m a ≡ true → is_live posted_phase m b ≡ true → ArePair tree posted_phase m a b
  new_pair a b is live_old live_new =
      let d = other_cell (cell_in m.new b) a is in
      let c = sound.copies.back a b d.0 d.1 d.2 in
      pair a b c.0 c.1 c.2 live_old live_new

  -- the other copy of an old object is no old one
  never_old : (a b : Addr) (c : Cell) → other_of (cell_in m.old a) ≡ Some b → cell_in m.old b ≡ Some c → ⊥
  never_old a b c is there =
      let from = other_cell (cell_in m.old a) b is in
      let copy = sound.copies.out a b from.0 from.1 from.2 in
      apart m sound.blocks.spaces b b c copy.0 there copy.1 refl

  module _ (name : Names) where
    abbrev names : Names
    names = filled posted_phase m name

    module _ (s : State) (heap : IsHeap tree name o s) where
      -- ---- the new copy

      -- a new copy without a name gets that of the old one
      copy_named : (a b : Addr) (n : ObjectName) → ArePair tree posted_phase m a b → is_live posted_phase m a ≡ true → is_live posted_phase m b ≡ true → name a.number ≡ Some n → names b.number ≡ Some n
      copy_named a b n are live_old live_new named = by_own (cut posted_phase m name b.number) refl
        where
          there : other_of (cell_in m.new b) ≡ Some a
          there = ap other_of are.new ∙ are.back

          twins : AreTwins m a.number b.number
          twins = inl (ap other_of are.old ∙ are.out)

          by_own : (x : Option ObjectName) → cut posted_phase m name b.number ≡ x → first_of x (if is_live posted_phase m b then cut_at posted_phase m name (other_of (cell_in m.new b)) else None) ≡ Some n
          by_own None is =
              ap (λ t. if t then cut_at posted_phase m name (other_of (cell_in m.new b)) else None) live_new ∙ ap (cut_at posted_phase m name) there ∙ is_cut posted_phase m name a.number n live_old named
          by_own (Some k) is =
              let own_name = (if_some (is_live posted_phase m b) (name b.number) k is).1 in
              ap Some (sym (heap.names.twins a.number b.number n k named own_name twins))

      -- the new copy has the name of the old one
      full : (a b : Addr) (n : ObjectName) → names a.number ≡ Some n → other_of (cell_in m.old a) ≡ Some b → is_live posted_phase m b ≡ true → names b.number ≡ Some n
      full a b n is other live_new = by_name (filled_is posted_phase m name a.number n is).1
        where
          live_old : is_live posted_phase m a ≡ true
          live_old = (filled_is posted_phase m name a.number n is).0

          by_name : IsFilled posted_phase m name a.number n → names b.number ≡ Some n
          by_name (own named) = copy_named a b n (old_pair a b other live_old live_new) live_old live_new named
          by_name (copied c there live named) =
              let from = other_cell (cell_in m.old a) b other in
              let to = other_cell (cell_in m.new a) c there in
              absurd (apart m sound.blocks.spaces a a from.0 to.0 from.1 to.1 refl)

      -- these names are normal
      pub filled_is_normal : IsNormal posted_phase m names
      filled_is_normal = record {
        live = λ a n is. (filled_is posted_phase m name a n is).0;
        filled = λ a b n is other live. full (record { number = a }) (record { number = b }) n is other live;
      }

      -- ---- one name

      -- an address of the name of an old copy is that copy or the new one
      one_copied : (a b c : Addr) (n : ObjectName) → name a.number ≡ Some n → ArePair tree posted_phase m c b → name c.number ≡ Some n → (a.number ≡ b.number) ⊎ AreTwins m a.number b.number
      one_copied a b c n named are named_old = by_old (heap.names.one a.number c.number n named named_old)
        where
          out : other_of (cell_in m.old c) ≡ Some b
          out = ap other_of are.old ∙ are.out

          by_old : (a.number ≡ c.number) ⊎ AreTwins m a.number c.number → (a.number ≡ b.number) ⊎ AreTwins m a.number b.number
          by_old (inl same) = inr (inl (subst (λ x. other_of (cell_in m.old (record { number = x })) ≡ Some b) (sym same) out))
          by_old (inr (inl wrong)) = absurd (never_old a c are.from wrong are.old)
          by_old (inr (inr other)) = inl (ap (λ (x : Addr). x.number) (same_Some a b (sym other ∙ out)))

      swapped : (a b : ℕ) → (a ≡ b) ⊎ AreTwins m a b → (b ≡ a) ⊎ AreTwins m b a
      swapped a b (inl same) = inl (sym same)
      swapped a b (inr (inl h)) = inr (inr h)
      swapped a b (inr (inr h)) = inr (inl h)

      -- two new copies of old ones of one name are one
      two_copied : (a b c d : Addr) (n : ObjectName) → ArePair tree posted_phase m c a → ArePair tree posted_phase m d b → name c.number ≡ Some n → name d.number ≡ Some n → (a.number ≡ b.number) ⊎ AreTwins m a.number b.number
      two_copied a b c d n first second named named_also = by_old (heap.names.one c.number d.number n named named_also)
        where
          out : other_of (cell_in m.old c) ≡ Some a
          out = ap other_of first.old ∙ first.out

          out_also : other_of (cell_in m.old d) ≡ Some b
          out_also = ap other_of second.old ∙ second.out

          by_old : (c.number ≡ d.number) ⊎ AreTwins m c.number d.number → (a.number ≡ b.number) ⊎ AreTwins m a.number b.number
          by_old (inl same) =
              let here : other_of (cell_in m.old d) ≡ Some a = subst (λ x. other_of (cell_in m.old (record { number = x })) ≡ Some a) same out in
              inl (ap (λ (x : Addr). x.number) (same_Some a b (sym here ∙ out_also)))
          by_old (inr (inl wrong)) = absurd (never_old c d second.from wrong second.old)
          by_old (inr (inr wrong)) = absurd (never_old d c first.from wrong first.old)

      one_name : (a b : ℕ) (n : ObjectName) → names a ≡ Some n → names b ≡ Some n → (a ≡ b) ⊎ AreTwins m a b
      one_name a b n is also = by_names (filled_is posted_phase m name a n is).1 (filled_is posted_phase m name b n also).1
        where
          pair_at : (x : ℕ) (c : Addr) → names x ≡ Some n → other_of (cell_in m.new (record { number = x })) ≡ Some c → is_live posted_phase m c ≡ true → ArePair tree posted_phase m c (record { number = x })
          pair_at x c named there live = new_pair c (record { number = x }) there live (filled_is posted_phase m name x n named).0

          by_names : IsFilled posted_phase m name a n → IsFilled posted_phase m name b n → (a ≡ b) ⊎ AreTwins m a b
          by_names (own h) (own k) = heap.names.one a b n h k
          by_names (own h) (copied c there live k) = one_copied (record { number = a }) (record { number = b }) c n h (pair_at b c also there live) k
          by_names (copied c there live h) (own k) = swapped b a (one_copied (record { number = b }) (record { number = a }) c n k (pair_at a c is there live) h)
          by_names (copied c there live h) (copied d there_also live_also k) = two_copied (record { number = a }) (record { number = b }) c d n (pair_at a c is there live) (pair_at b d also there_also live_also) h k

      have_one_name : HasOneName names m
      have_one_name = record { one = one_name; twins = twins }
        where
          twins : (a b : ℕ) (n k : ObjectName) → names a ≡ Some n → names b ≡ Some k → AreTwins m a b → n ≡ k
          twins a b n k is also (inl out) = same_Some n k (sym (full (record { number = a }) (record { number = b }) n is out (filled_is posted_phase m name b k also).0) ∙ also)
          twins a b n k is also (inr out) = same_Some n k (sym is ∙ full (record { number = b }) (record { number = a }) k also out (filled_is posted_phase m name a n is).0)

      -- ---- addresses

      small_then : (a : ℕ) (n : ObjectName) → names a ≡ Some n → a < ADDRESSES
      small_then a n is = by_name (filled_is posted_phase m name a n is).1
        where
          by_name : IsFilled posted_phase m name a n → a < ADDRESSES
          by_name (own named) = heap.small a n named
          by_name (copied b there live named) =
              let to = other_cell (cell_in m.new (record { number = a })) b there in
              let low = (are_distinct m sound.blocks.spaces (record { number = a }) to.0 (new_is_cell m sound.blocks.spaces (record { number = a }) to.0 to.1)).1 in
              omega (arith, low)

      -- ---- words

      again : (a : Addr) (n : ObjectName) → name a.number ≡ Some n → reference_in a.number ≡ a
      again a n named = reference_again a (heap.small a.number n named)

      -- a word that refers to what is live stands as it is
      word_named : (word : ℕ) (u : StateValue) → is_live posted_phase m (reference_in word) ≡ true → IsWord name word u → IsWord names word u
      word_named word u live h = record {
        value = h.value;
        refines = value_renamed name names h.value u
            (λ a n is _ named. is_filled posted_phase m name a.number n (subst (λ x. is_live posted_phase m x ≡ true) (again a n named) (subst (λ w. is_live posted_phase m (reference_in w) ≡ true) (sym h.is ∙ ap value_word is) live)) named) h.refines;
        is = h.is;
      }

      -- ---- objects

      module _ (legal : IsLegal tree) (typed : IsTyped tree s) where
        -- a live object with a name
        own_born : (a : ℕ) (n : ℕ) → is_live posted_phase m (record { number = a }) ≡ true → name a ≡ Some (Born n) → IsBornAt tree names o s a n
        own_born a n live named =
            let b = heap.born a n named in
            born_renamed tree name names o s a n b
            (contents_rewritten tree name names b.cell.kind b.cell.slots b.cell.slots (alike b.cell b.lies) b.object.contents b.object.thread
            (typed_is_linked tree legal s name b.cell.kind b.cell.slots b.object.contents b.object.thread (typed.objects n b.object b.is) b.refines.contents) b.refines.contents)
          where
            alike : (cell : Cell) → object_cell o (record { number = a }) ≡ Some cell → AreRewritten tree name names cell.kind cell.slots cell.slots
            alike cell lies = record {
              count = refl;
              integers = λ slot word there held. there;
              references = λ slot word there held u kind h. (word, there, word_named word u (live_loads tree posted_phase p m sound.blocks.spaces sound.copies (record { number = a }) cell lies live slot word there held) h);
            }

        -- the new copy of one
        copied_born : (a : ℕ) (n : ℕ) (b : Addr) → is_live posted_phase m b ≡ true → ArePair tree posted_phase m b (record { number = a }) → name b.number ≡ Some (Born n) → IsBornAt tree names o s a n
        copied_born a n b live are named = record {
          no_literal = no_literal m sound.blocks.spaces (record { number = a }) are.to lies;
          cell = are.to;
          lies = lies;
          object = h.object;
          is = h.is;
          refines = new_copy_refines tree posted_phase has_round words p m sound are.late names small_then filled_is_normal.filled b (record { number = a }) copies h.object
              (typed_is_linked tree legal s names are.from.kind are.from.slots h.object.contents h.object.thread (typed.objects n h.object h.is) refines.contents) refines;
        }
          where
            lies : object_cell o (record { number = a }) ≡ Some are.to
            lies = new_is_cell m sound.blocks.spaces (record { number = a }) are.to are.new

            copies : AreOldAndNew m b (record { number = a })
            copies = record { from = are.from; to = are.to; old = are.old; out = are.out; new = are.new }

            h : IsBornAt tree names o s b.number n
            h = own_born b.number n live named

            refines : IsCell tree names are.from h.object
            refines = subst (λ x. IsCell tree names x h.object) (same_Some h.cell are.from (sym h.lies ∙ old_is_cell m b are.from are.old)) h.refines

        born_then : (a n : ℕ) → names a ≡ Some (Born n) → IsBornAt tree names o s a n
        born_then a n is = by_name (filled_is posted_phase m name a (Born n) is).1
          where
            live : is_live posted_phase m (record { number = a }) ≡ true
            live = (filled_is posted_phase m name a (Born n) is).0

            by_name : IsFilled posted_phase m name a (Born n) → IsBornAt tree names o s a n
            by_name (own named) = own_born a n live named
            by_name (copied b there live_old named) = copied_born a n b live_old (new_pair b (record { number = a }) there live_old live) named

        -- ---- the heap

        -- a literal lies in no block
        literal_then : (a : ℕ) (characters : List ℕ) → names a ≡ Some (Literal characters) → IsLiteralAt tree o s a characters
        literal_then a characters is = by_name (filled_is posted_phase m name a (Literal characters) is).1
          where
            by_name : IsFilled posted_phase m name a (Literal characters) → IsLiteralAt tree o s a characters
            by_name (own named) = heap.literals a characters named
            by_name (copied b there live named) =
                let to = other_cell (cell_in m.new (record { number = a })) b there in
                let from = sound.copies.back b (record { number = a }) to.0 to.1 to.2 in
                let none = no_literal m sound.blocks.spaces b from.0 (old_is_cell m b from.0 from.1) in
                none_is_some _ (sym none ∙ (heap.literals b.number characters named).has_id)

        literal_named : (n : ℕ) (characters : List ℕ) → slice_get (literals_of tree) n ≡ Some characters → names (literal n).number ≡ Some (Literal characters)
        literal_named n characters is = is_filled posted_phase m name (literal n).number (Literal characters) live named
          where
            named : name (literal n).number ≡ Some (Literal characters)
            named = heap.each_literal n characters is

            live : is_live posted_phase m (literal n) ≡ true
            live =
                let has_id = (heap.literals (literal n).number characters named).has_id in
                ap (λ x. (((literal n).number == 0) || x) || is_live_object posted_phase m (literal n)) (ap is_some has_id) ∙ either ((literal n).number == 0) (is_live_object posted_phase m (literal n))
              where
                either : (x y : Bool) → ((x || true) || y) ≡ true
                either true y = refl
                either false y = refl

        null_then : (x : Option ObjectName) → names 0 ≡ x → names 0 ≡ None
        null_then None is = is
        null_then (Some n) is = by_name (filled_is posted_phase m name 0 n is).1
          where
            by_name : IsFilled posted_phase m name 0 n → names 0 ≡ None
            by_name (own named) = none_is_some n (sym heap.null_unnamed ∙ named)
            by_name (copied b there live named) =
                let to = other_cell (cell_in m.new null) b there in
                let positive = (are_distinct m sound.blocks.spaces null to.0 (new_is_cell m sound.blocks.spaces null to.0 to.1)).0 in
                absurd (omega (arith, positive))

        -- the heap under these names
        pub filled_heap : IsHeap tree names o s
        filled_heap = record {
          null_unnamed = null_then (names 0) refl;
          small = small_then;
          names = have_one_name;
          born = born_then;
          literals = literal_then;
          each_literal = literal_named;
        }
