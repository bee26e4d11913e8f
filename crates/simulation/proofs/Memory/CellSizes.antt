-- The cell of an object has the number of words that the object needs, and changes of its contents keep that.
use Rattle.std.proofs.Common.{◌≡◌, ◌+◌, ℕ, zero, suc, Bool, true, false, if◌then◌else◌, List, [], ◌∷◌, ◌++◌, length, Option, Some, slice_get, slice_set, ap, ◌∙◌, arith}
use Rattle.std.proofs.lemmas.List.Sums.{sum_by-cons}
use Rattle.std.proofs.lemmas.Option.{same_Some}
use Rattle.interpreter.specs.cil_model.declared.trees.Tree.{Tree}
use Rattle.interpreter.specs.cil_model.Chains.{is_thread_class}
use Rattle.interpreter.specs.cil_model.Fields.{FieldKey}
use Rattle.interpreter.specs.reference_machine.Rooms.{cell_words, words_of_all}
use Rattle.interpreter.specs.reference_machine.States.{Contents, Instance as IsInstance, Array as IsArray, HeapObject}
use Rattle.interpreter.specs.reference_machine.Values.{Value as StateValue}
use Rattle.interpreter.specs.object_memory.declared.kinds.Kind.{Kind}
use Rattle.interpreter.specs.object_memory.declared.kinds.Kind.TheVariants.{Instance, Array}
use Rattle.interpreter.specs.object_memory.Cells.{Cell, size}
use Rattle.simulation.specs.Refines.{Names, IsCell, IsOfContents, IsWord, thread_word}
use Rattle.simulation.proofs.ListLaws.AgreeingLists.{agree_length}
use Rattle.interpreter.proofs.cil_model.Lists.{none_is_some}

-- ---- the words of a cell

hidden_length : (b : Bool) (w : ℕ) (ws : List ℕ) → length ((if b then w ∷ [] else []) ++ ws) ≡ (if b then 1 else 0) + length ws
hidden_length true w ws = omega arith
hidden_length false w ws = omega arith

-- what represents an object's contents has one slot for each word of these after the first three
pub contents_size : (tree : Tree) (name : Names) (k : Kind) (slots : List ℕ) (contents : Contents) (thread : Option ℕ) → IsOfContents tree name k slots contents thread → 3 + length slots ≡ cell_words tree contents
contents_size tree name (Instance class) slots (IsInstance c fields) thread h =
    let all : length slots ≡ (if is_thread_class tree c then 1 else 0) + length h.words = ap length h.slots_are ∙ hidden_length (is_thread_class tree c) (thread_word thread) h.words in
    let own : length h.words ≡ length fields = agree_length (λ w (f : FieldKey × StateValue). IsWord name w f.1) h.words fields h.values in
    omega (arith, all, own)
contents_size tree name (Array e) slots (IsArray t elements) thread h = let own : length slots ≡ length elements = agree_length (IsWord name) slots elements h.1 in omega (arith, own)
contents_size tree name _ slots _ thread h = elim h [ ]

-- so a cell has the words of its object
pub cell_size : (tree : Tree) (name : Names) (cell : Cell) (object : HeapObject) → IsCell tree name cell object → size cell ≡ cell_words tree object.contents
cell_size tree name cell object h = contents_size tree name cell.kind cell.slots object.contents object.thread h.contents

-- the words of all, where one object is in place of another with the same number
pub words_stay : (tree : Tree) (objects : List HeapObject) (n : ℕ) (old new : HeapObject) → slice_get objects n ≡ Some old → cell_words tree new.contents ≡ cell_words tree old.contents →
    words_of_all tree (slice_set objects n new) ≡ words_of_all tree objects
words_stay tree [] n old new is same = none_is_some old is
words_stay tree (o ∷ os) zero old new is same =
    let words : HeapObject → ℕ = λ x. cell_words tree x.contents in
    let first : words o ≡ words old = ap words (same_Some o old is) in
    omega (arith, sum_by-cons words new os, sum_by-cons words o os, first, same)
words_stay tree (o ∷ os) (suc n) old new is same =
    let words : HeapObject → ℕ = λ x. cell_words tree x.contents in
    let later : words_of_all tree (slice_set os n new) ≡ words_of_all tree os = words_stay tree os n old new is same in
    omega (arith, sum_by-cons words o (slice_set os n new), sum_by-cons words o os, later)
