-- What a sound heap says of its objects, in the terms of the collector's steps.
use Rattle.std.proofs.Common.{◌≡◌, ℕ, ◌+◌, ◌-◌, ◌<◌, ◌≤◌, Bool, true, List, [], length, refl, sym, ap, ◌∙◌, arith}
use Rattle.std.specs.Prelude.{IsSome, Option, Some, None, option_map, slice_get, slice_index, unwrap_or}
use Rattle.std.proofs.lemmas.Option.{slice_get-get_or, unwrap_or-slice_get}
use Rattle.cil_model.specs.declared.limits.TheConstants.{MOST_WORDS}
use Rattle.cil_model.specs.declared.trees.Tree.{Tree}
use Rattle.class_layout.specs.Layouts.{IsLayout}
use Rattle.class_layout.specs.declared.layout.Layout.{Layout}
use Rattle.object_memory.specs.declared.addresses.Addr.{Addr}
use Rattle.object_memory.specs.Cells.{Cell, Cells, size, used_words, cell_in, address_after_cell, begins_after}
use Rattle.object_memory.specs.Spaces.{Spaces, IsSpace, AreSpaces, cell_at, is_there, slots_at}
use Rattle.object_memory.specs.Objects.{Objects}
use Rattle.object_memory.proofs.Blocks.{range_in}
use Rattle.object_memory.proofs.TwoSpaces.TwoBlocks.{new_is_cell, old_is_cell}
use Rattle.object_memory.specs.declared.kinds.Kind.{Kind}
use Rattle.collector.specs.References.{SlotsPass, Test, holds_reference, reference_in}
use Rattle.collector.specs.MarkSteps.{word_of}
use Rattle.collector.specs.Conditions.{IsReadable}

-- ---- cells

-- what begins at an offset
pub begun : (s : Cells) (n : ℕ) (a : Addr) → begins_after s n ≡ Some a → (c : Cell) × (cell_in s a ≡ Some c) × (a ≡ address_after_cell s n)
begun s n a e = by_cell (cell_in s (address_after_cell s n)) refl e
  where
    by_cell : (o : Option Cell) → cell_in s (address_after_cell s n) ≡ o → option_map (λ (c : Cell). address_after_cell s n) o ≡ Some a → (c : Cell) × (cell_in s a ≡ Some c) × (a ≡ address_after_cell s n)
    by_cell None is e = absurd cc
    by_cell (Some c) is e =
        let same : a ≡ address_after_cell s n = cc in
        (c, ap (cell_in s) same ∙ is, same)

-- an object ends within its block
pub walk_fits : (s : Cells) (n : ℕ) (a : Addr) (c : Cell) → IsSpace s → a ≡ address_after_cell s n → cell_in s a ≡ Some c → n + size c ≤ MOST_WORDS
walk_fits s n a c h is e =
    let r = range_in s a c e in
    let at : a.number ≡ s.start + n = ap (λ (x : Addr). x.number) is in
    omega (arith, r.1, at, h.fits, h.few)

-- what the heap reports of an object's cell
pub decoded : {A : Type 0} (f : Cell → A) (o : Option Cell) (c : Cell) (x : A) → o ≡ Some c → option_map f o ≡ Some x → x ≡ f c
decoded f o c x is e = let same : Some x ≡ Some (f c) = sym e ∙ ap (option_map f) is in cc

pub old_slots : (m : Spaces) (a : Addr) (c : Cell) → cell_in m.old a ≡ Some c → slots_at m a ≡ c.slots
old_slots m a c e = ap (λ (o : Option Cell). unwrap_or (option_map (λ (x : Cell). x.slots) o) []) (old_is_cell m a c e)

pub new_slots : (m : Spaces) → AreSpaces m → (a : Addr) (c : Cell) → cell_in m.new a ≡ Some c → slots_at m a ≡ c.slots
new_slots m h a c e = ap (λ (o : Option Cell). unwrap_or (option_map (λ (x : Cell). x.slots) o) []) (new_is_cell m h a c e)

-- ---- slots

pub word_decoded : (c : Cell) (slot : ℕ) → slot < length c.slots → slice_get c.slots slot ≡ Some (word_of c slot)
word_decoded c slot inside = slice_get-get_or c.slots slot 0 inside ∙ ap Some (sym (unwrap_or-slice_get c.slots slot 0))

-- what the heap reports of a slot of an old object
pub old_word : (m : Spaces) (a : Addr) (c : Cell) (slot word : ℕ) → cell_in m.old a ≡ Some c → word ≡ slice_index (slots_at m a) slot → word ≡ word_of c slot
old_word m a c slot word at is = is ∙ ap (λ (words : List ℕ). slice_index words slot) (old_slots m a c at) ∙ sym (unwrap_or-slice_get c.slots slot 0)

pub old_reference : (tree : Tree) (m : Spaces) (a : Addr) (c : Cell) (kind : Kind) (slot : ℕ) (holds : Bool) → cell_in m.old a ≡ Some c
    → option_map (λ (x : Cell). x.kind) (cell_at m a) ≡ Some kind → holds ≡ holds_reference tree kind slot → holds_reference tree c.kind slot ≡ holds
old_reference tree m a c kind slot holds at is decoded_so =
    ap (λ (k : Kind). holds_reference tree k slot) (sym (decoded (λ (x : Cell). x.kind) (cell_at m a) c kind (old_is_cell m a c at) is)) ∙ sym decoded_so

-- a slot can be read where its reference passes a test that only what is there passes
pub readable : (layout : Layout) (tree : Tree) (o : Objects) (test : Test) → IsLayout tree layout → (a : Addr) (c : Cell) (slot : ℕ) → cell_in o.spaces.old a ≡ Some c → slot < length c.slots
    → ((b : Addr) → test b ≡ true → is_there o.spaces b ≡ true) → SlotsPass tree test c → IsReadable layout o a slot
readable layout tree o test layout_is a c slot at inside there passes =
    record {
      tree = tree;
      layout_is = layout_is;
      cell = c;
      at = at;
      inside = inside;
      reference = λ holds. there (reference_in (word_of c slot)) (passes slot (word_of c slot) (word_decoded c slot inside) holds);
    }

-- ---- what lies there

pub cell_there : (s : Cells) (a : Addr) → IsSome (cell_in s a) → (c : Cell) × (cell_in s a ≡ Some c)
cell_there s a some = by_cell (cell_in s a) some
  where
    by_cell : (o : Option Cell) → IsSome o → (c : Cell) × (o ≡ Some c)
    by_cell None some = absurd cc
    by_cell (Some c) some = (c, refl)

pub ends_within : (s : Cells) (a : Addr) (c : Cell) → IsSpace s → cell_in s a ≡ Some c → a.number - s.start + size c ≤ MOST_WORDS
ends_within s a c h e = let r = range_in s a c e in omega (arith, r.0, r.1, h.fits, h.few)

-- and below the end of all
pub ends_below : (s : Cells) (n : ℕ) (a : Addr) (c : Cell) → a ≡ address_after_cell s n → cell_in s a ≡ Some c → n + size c ≤ used_words s.cells
ends_below s n a c is e =
    let r = range_in s a c e in
    let at : a.number ≡ s.start + n = ap (λ (x : Addr). x.number) is in
    omega (arith, r.1, at)
