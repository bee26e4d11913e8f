-- What the heap's methods read and write, in the terms of their contracts.
use Rattle.std.proofs.Common.{◌≡◌, ℕ, suc, ◌+◌, ◌-◌, ◌<◌, ◌≤◌, Bool, List, [], ◌∷◌, ◌++◌, length, take, set, get_or, refl, sym, ap, subst, ◌∙◌, arith}
use Rattle.std.specs.Prelude.{Option, Some, None, IsSome, option_map}
use Rattle.std.proofs.lemmas.List.{length-replicate}
use Rattle.std.proofs.Math.ListN.{length-set}
use Rattle.object_memory.specs.declared.addresses.Addr.{Addr}
use Rattle.object_memory.specs.declared.kinds.Kind.{Kind}
use Rattle.object_memory.specs.declared.monitors.Monitor.{Monitor}
use Rattle.object_memory.specs.Cells.{next_address, Cell, Cells, size, free_words, new_cell, cell_in, slots_in, change_in, store_slot, store_monitor, store_copies, with_last}
use Rattle.object_memory.specs.Words.{words_of, cells_of, IsDecoded, IsLaid, header_word, copies_word, is_marked_in, other_in, kind_in, count_in, monitor_in, monitor_word}
use Rattle.object_memory.proofs.Tiles.{born, used_words_held, Lies, lies, Lays, word_read, word_written}

-- the cells that contracts see
abbrev pub shown : ℕ → List ℕ → ℕ → Cells
shown start block used = record { start = start; cells = cells_of (take used block); words = length block }

some_cell : (o : Option Cell) → IsSome o → (c : Cell) × (o ≡ Some c)
some_cell None h = absurd cc
some_cell (Some c) h = (c, refl)

some_slots : (h : Cells) (a : Addr) (o : Option Cell) (i : ℕ) → cell_in h a ≡ o → i < length (slots_in h a) → IsSome (cell_in h a)
some_slots h a None i e less = let none = rw e at less in absurd (omega (arith, none))
some_slots h a (Some c) i e less = rw e refl

word_of_slot : (h w m : ℕ) (xs : List ℕ) (i : ℕ) → get_or (h ∷ w ∷ m ∷ xs) (3 + i) 0 ≡ get_or xs i 0
word_of_slot h w m xs i = let three : 3 + i ≡ suc (suc (suc i)) = omega arith in ap (λ k. get_or (h ∷ w ∷ m ∷ xs) k 0) three

slot_set : (h w m : ℕ) (xs : List ℕ) (i x : ℕ) → set (h ∷ w ∷ m ∷ xs) (3 + i) x ≡ h ∷ w ∷ m ∷ set xs i x
slot_set h w m xs i x = let three : 3 + i ≡ suc (suc (suc i)) = omega arith in ap (λ k. set (h ∷ w ∷ m ∷ xs) k x) three

decoded_slot : (c : Cell) (i w : ℕ) → IsDecoded c → IsDecoded (store_slot i w c)
decoded_slot c i w t = record { kind = rw length-set t.kind; slots = rw length-set t.slots; marked = t.marked; other = t.other; monitor = t.monitor }

-- ---- births

module _ (start : ℕ) (block : List ℕ) (used : ℕ) (laid : IsLaid block used) where
  pub free_is : length block - used ≡ free_words (shown start block used)
  free_is = ap (λ n. length block - n) (sym (used_words_held block used laid))

  -- there is room in the block where this number of words is free
  pub room_is : (n : ℕ) → 3 + n ≤ free_words (shown start block used) → used + (3 + n) ≤ length block
  room_is n free = omega (arith, free, free_is, laid.inside)

  pub next_is : ◌≡◌ {A = Addr} (record { number = used + start }) (next_address (shown start block used))
  next_is = let held = used_words_held block used laid in ap (λ (k : ℕ). record { number = k }) (omega (arith, held))

  module _ (k : Kind) (n w : ℕ) (word : w ≡ header_word k n) (kind : kind_in w ≡ k) (slots : count_in w ≡ n) (room : used + (3 + n) ≤ length block) where
    decoded_new : IsDecoded (new_cell k n)
    decoded_new = record { kind = rw (length-replicate, ← word) kind; slots = rw (length-replicate, ← word) slots; marked = refl; other = refl; monitor = refl }

    pub birth_lays : Lays (set block used w) (used + (3 + n)) (cells_of (take used block) ++ new_cell k n ∷ [])
    birth_lays = rw word (born block used laid k n room decoded_new)

    pub birth_done : shown start (set block used w) (used + (3 + n)) ≡ with_last (shown start block used) (new_cell k n)
    birth_done = rw (birth_lays.cells, length-set) refl

-- ---- cells

module _ {start : ℕ} {block : List ℕ} {used : ℕ} (laid : IsLaid block used) {h : Cells} (is : shown start block used ≡ h) (a : Addr) where
  abbrev offset : ℕ
  offset = a.number - start

  -- the cell at the address, and where it lies
  record Held : Type 0 where
    cell : Cell
    at : cell_in h a ≡ Some cell
    lies : Lies block used laid start a.number cell

  held : IsSome (cell_in h a) → Held
  held some =
      let c = some_cell (cell_in h a) some in
      record { cell = c.0; at = c.1; lies = lies block used laid start a.number c.0 (ap (λ (x : Cells). cell_in x a) is ∙ c.1) }

  -- ---- the header words

  pub header_inside : IsSome (cell_in h a) → (start ≤ a.number) × (offset + 2 < used)
  header_inside some =
      let c = held some in
      (omega (arith, c.lies.offset), omega (arith, c.lies.offset, c.lies.below))

  -- its address is one of those of the block
  pub own_range : IsSome (cell_in h a) → (start ≤ a.number) × (a.number < start + length block)
  own_range some = let inside = header_inside some in (inside.0, omega (arith, inside.0, inside.1, laid.inside))

  header_read : (c : Held) → get_or block offset 0 ≡ header_word c.cell.kind (length c.cell.slots)
  header_read c =
      let here : offset ≡ offset + 0 = omega arith in
      ap (λ k. get_or block k 0) here ∙ word_read block used laid start a.number 0 c.cell c.lies (omega arith)

  pub kind_read : IsSome (cell_in h a) → option_map (λ (c : Cell). c.kind) (cell_in h a) ≡ Some (kind_in (get_or block offset 0))
  kind_read some = let c = held some in rw (c.at, header_read c, c.lies.decoded.kind) refl

  pub slots_read : IsSome (cell_in h a) → count_in (get_or block offset 0) ≡ length (slots_in h a)
  slots_read some = let c = held some in rw (c.at, header_read c) c.lies.decoded.slots

  pub monitor_read : IsSome (cell_in h a) → option_map (λ (c : Cell). c.monitor) (cell_in h a) ≡ Some (monitor_in (get_or block (offset + 2) 0))
  monitor_read some =
      let c = held some in
      let word = word_read block used laid start a.number 2 c.cell c.lies (omega arith) in
      rw (c.at, word, c.lies.decoded.monitor) refl

  copies_read : (c : Held) → get_or block (offset + 1) 0 ≡ copies_word c.cell.marked c.cell.other
  copies_read c = word_read block used laid start a.number 1 c.cell c.lies (omega arith)

  pub marked_read : IsSome (cell_in h a) → option_map (λ (c : Cell). c.marked) (cell_in h a) ≡ Some (is_marked_in (get_or block (offset + 1) 0))
  marked_read some = let c = held some in rw (c.at, copies_read c, c.lies.decoded.marked) refl

  pub other_read : IsSome (cell_in h a) → option_map (λ (c : Cell). c.other) (cell_in h a) ≡ Some (other_in (get_or block (offset + 1) 0))
  other_read some = let c = held some in rw (c.at, copies_read c, c.lies.decoded.other) refl

  -- ---- its words

  pub cell_inside : IsSome (cell_in h a) → (start ≤ a.number) × (offset + 3 + length (slots_in h a) ≤ used)
  cell_inside some =
      let c = held some in
      (omega (arith, c.lies.offset), rw c.at (omega (arith, c.lies.offset, c.lies.below)))

  -- ---- the slots

  slot_held : (i : ℕ) → i < length (slots_in h a) → Held
  slot_held i less = held (some_slots h a (cell_in h a) i refl less)

  pub slot_inside : (i : ℕ) → i < length (slots_in h a) → (start ≤ a.number) × (offset + 3 + i < used)
  slot_inside i less =
      let c = slot_held i less in
      let own = rw c.at at less in
      (omega (arith, c.lies.offset), omega (arith, c.lies.offset, c.lies.below, own))

  pub slot_read : (i : ℕ) → i < length (slots_in h a) → get_or block (offset + 3 + i) 0 ≡ get_or (slots_in h a) i 0
  slot_read i less =
      let c = slot_held i less in
      let own = rw c.at at less in
      let there : offset + 3 + i ≡ offset + (3 + i) = omega arith in
      ap (λ k. get_or block k 0) there
      ∙ word_read block used laid start a.number (3 + i) c.cell c.lies (omega (arith, own))
      ∙ word_of_slot _ _ _ c.cell.slots i
      ∙ rw c.at refl

  -- ---- stores

  -- the block after a store
  pub record Stored (new : List ℕ) (f : Cell → Cell) : Type 0 where
    pub view : shown start new used ≡ change_in f h a
    pub still_laid : IsLaid new used
    pub long : length new ≡ length block

  stored : (j w : ℕ) (f : Cell → Cell) (c : Held) → j < size c.cell → set (words_of c.cell) j w ≡ words_of (f c.cell) → IsDecoded (f c.cell)
      → Stored (set block (offset + j) w) f
  stored j w f c less e decoded =
      let new = word_written block used laid start a.number j w c.cell f c.lies less e decoded in
      record {
        view = rw (← is, new.cells, length-set) refl;
        still_laid = new.laid;
        long = length-set block (offset + j) w;
      }

  pub slot_stored : (i w : ℕ) → i < length (slots_in h a) → Stored (set block (offset + 3 + i) w) (store_slot i w)
  slot_stored i w less =
      let c = slot_held i less in
      let own = rw c.at at less in
      let there : offset + (3 + i) ≡ offset + 3 + i = omega arith in
      subst (λ k. Stored (set block k w) (store_slot i w)) there
      (stored (3 + i) w (store_slot i w) c (omega (arith, own)) (rw length-set (slot_set _ _ _ c.cell.slots i w)) (decoded_slot c.cell i w c.lies.decoded))

  pub monitor_stored : (m : Monitor) (w : ℕ) → w ≡ monitor_word m → monitor_in w ≡ m → IsSome (cell_in h a) → Stored (set block (offset + 2) w) (store_monitor m)
  monitor_stored m w e back some =
      let c = held some in
      let decoded = c.lies.decoded in
      stored 2 w (store_monitor m) c (omega arith) (rw e refl)
      (record { kind = decoded.kind; slots = decoded.slots; marked = decoded.marked; other = decoded.other; monitor = rw (← e) back })

  pub copies_stored : (b : Bool) (o : Option Addr) (w : ℕ) → w ≡ copies_word b o → is_marked_in w ≡ b → other_in w ≡ o → IsSome (cell_in h a)
      → Stored (set block (offset + 1) w) (store_copies b o)
  copies_stored b o w e marked other some =
      let c = held some in
      let decoded = c.lies.decoded in
      stored 1 w (store_copies b o) c (omega arith) (rw e refl)
      (record { kind = decoded.kind; slots = decoded.slots; marked = rw (← e) marked; other = rw (← e) other; monitor = decoded.monitor })
