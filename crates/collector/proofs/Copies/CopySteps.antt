-- What a step of Copy needs of the heap at the object that it finds, and its outcome where a loaded word is stored.
use Rattle.std.proofs.Common.{◌≡◌, ℕ, suc, ◌+◌, ◌-◌, ◌<◌, ◌≤◌, Bool, true, length, refl, sym, ap, ◌∙◌, arith}
use Rattle.std.specs.Prelude.{IsSome, is_some, Option, Some, None, option_map}
use Rattle.cil_model.specs.declared.phases.Phase.TheVariants.{Copy}
use Rattle.cil_model.specs.declared.trees.Tree.{Tree}
use Rattle.class_layout.specs.Layouts.{IsLayout}
use Rattle.class_layout.specs.declared.layout.Layout.{Layout}
use Rattle.object_memory.specs.declared.addresses.Addr.{Addr}
use Rattle.object_memory.specs.Cells.{Cell, cell_in}
use Rattle.object_memory.specs.Spaces.{cell_at, found_in, has_other, slots_at}
use Rattle.object_memory.specs.Objects.{Objects}
use Rattle.object_memory.proofs.TwoSpaces.TwoBlocks.{new_is_cell, old_is_cell}
use Rattle.collector.specs.References.{reference_in}
use Rattle.collector.specs.Phases.{is_live}
use Rattle.collector.specs.Soundness.{AreCopies, IsSoundHeap}
use Rattle.collector.specs.Conditions.{IsForwardable, IsReadable, found_at}
use Rattle.collector.specs.Attempts.{stage_number}
use Rattle.collector.specs.CopySteps.{before_word, next_copy_step, word_step, word_stored}
use Rattle.collector.specs.declared.progress.Progress.{Progress}
use Rattle.collector.specs.declared.progress.Stage.{Stage}
use Rattle.collector.specs.declared.progress.Stage.TheVariants.{Loaded, Stored}
use Rattle.collector.specs.declared.walks.FoundObject.{FoundObject}
use Rattle.collector.proofs.Addresses.ObjectsInHeaps.{cell_there, new_slots, readable, decoded}
use Rattle.collector.proofs.Copies.CopiesStepByStep.{at_offset_is, other_some, word_done, words_left}
use Rattle.collector.proofs.ThreadReferences.LiveValues.{live_is_there}

module _ (layout : Layout) (tree : Tree) (layout_is : IsLayout tree layout) (has_round : Bool) (words : ℕ) (p : Progress) (o : Objects) (sound : IsSoundHeap tree Copy has_round words p o.spaces) (f : FoundObject)
    (found : ◌≡◌ {A = Option FoundObject} (Some f) (option_map (found_at o.spaces.old) (found_in has_other o.spaces.old (o.spaces.old.start + p.cursor)))) (there : IsSome (cell_in o.spaces.old f.object))
    (b : Addr) (other : ◌≡◌ {A = Option (Option Addr)} (option_map (λ (x : Cell). x.other) (cell_at o.spaces f.object)) (Some (Some b))) where
  abbrev k : ℕ
  k = p.copied_words

  from : (c : Cell) × (cell_in o.spaces.old f.object ≡ Some c)
  from = cell_there o.spaces.old f.object there

  refers : from.0.other ≡ Some b
  refers = sym (decoded (λ (x : Cell). x.other) (cell_at o.spaces f.object) from.0 (Some b) (old_is_cell o.spaces f.object from.0 from.1) other)

  to : (d : Cell) × (cell_in o.spaces.new b ≡ Some d) × AreCopies tree Copy p o.spaces f.object from.0 d
  to = sound.copies.out f.object b from.0 from.1 refers

  -- both copies are there
  pub both_there : IsSome (cell_in o.spaces.old f.object) × IsSome (cell_at o.spaces b)
  both_there = (there, ap is_some (new_is_cell o.spaces sound.blocks.spaces b to.0 to.1))

  few_here : k ≤ length from.0.slots
  few_here = words_left p o.spaces f from.0 found from.1 (sound.cursor.words refl)

  -- a word is to come
  pub few_words : (c : Cell) → cell_in o.spaces.old f.object ≡ Some c → k ≤ length c.slots
  few_words c lies = words_left p o.spaces f c found lies (sound.cursor.words refl)

  in_copy : k ≤ length (slots_at o.spaces b)
  in_copy = (let few = few_here in let slots = ap length (new_slots o.spaces sound.blocks.spaces b to.0 to.1) in let count = to.2.count in omega (arith, few, slots, count))

  -- its slot can be read
  pub next_readable : 0 < k → IsReadable layout o f.object (k - 1) × (k ≤ length (slots_at o.spaces b))
  next_readable some = (
    readable layout tree o (is_live Copy o.spaces) layout_is f.object from.0 (k - 1) from.1 (let few = few_here in omega (arith, some, few)) (live_is_there Copy o)
        (sound.copies.old_references f.object from.0 from.1 (sound.copies.marked_only f.object from.0 from.1 (other_some from.0 b refers))),
    in_copy,
  )

  -- the forward of what was loaded can be asked for
  pub loaded_forwardable : p.attempt.stage ≡ Loaded → 0 < k → IsForwardable layout o f.object (k - 1) p.attempt.word × (k ≤ length (slots_at o.spaces b))
  loaded_forwardable loaded some =
      let stage = ap stage_number loaded in
      let within = sound.cursor.words refl (λ none. absurd (omega (arith, none, stage))) in
      let lies = (at_offset_is p o.spaces f from.0 found from.1 within).0 in
      let next : k ≡ suc (k - 1) = omega (arith, some) in (
        record {
          tree = tree;
          layout_is = layout_is;
          cell = from.0;
          at = from.1;
          reference = λ holds. live_is_there Copy o (reference_in p.attempt.word) (sound.loaded refl loaded from.0 lies (k - 1) next holds);
        },
        in_copy,
      )

  offset_is : f.offset ≡ f.object.number - o.spaces.old.start
  offset_is = by_found (found_in has_other o.spaces.old (o.spaces.old.start + p.cursor)) found
    where
      by_found : (x : Option ℕ) → ◌≡◌ {A = Option FoundObject} (Some f) (option_map (found_at o.spaces.old) x) → f.offset ≡ f.object.number - o.spaces.old.start
      by_found None e = absurd cc
      by_found (Some n) e =
          let same : f ≡ found_at o.spaces.old n = cc in
          ap (λ (x : FoundObject). x.offset) same ∙ ap (λ (x : FoundObject). x.object.number - o.spaces.old.start) (sym same)

  abbrev Outcome : Type 0
  Outcome = Progress × Objects × Bool

  abbrev by_stage : Tree → Stage → Outcome
  by_stage any s = ((word_step s any p o f.object from.0 b).0, (word_step s any p o f.object from.0 b).1, true)

  -- what was loaded is stored, whichever program's layout it is
  pub loaded_done : p.attempt.stage ≡ Loaded → (any : Tree) (heap : Objects) → ((c : Cell) → cell_in o.spaces.old f.object ≡ Some c → heap ≡ word_stored any o p.attempt c b k) →
      ◌≡◌ {A = Outcome} (record p { cursor = f.offset; attempt = record p.attempt { stage = Stored } }, heap, true) (next_copy_step any p o)
  loaded_done loaded any heap stored =
      ap (λ n. (record p { cursor = n; attempt = record p.attempt { stage = Stored } }, heap, true)) offset_is
      ∙ ap (λ (x : Objects). (before_word p o.spaces.old f.object (record p.attempt { stage = Stored }), x, true)) (stored from.0 from.1)
      ∙ ap (by_stage any) (sym loaded)
      ∙ word_done any p o f from.0 b found from.1 refers
