-- An object changes in a heap with a collector: each copy that the store reaches represents the object with the same change.
use Rattle.std.proofs.Common.{◌≡◌, ◌≢◌, ◌⊎◌, inl, inr, ℕ, ◌==◌, Bool, true, false, if◌then◌else◌, List, Some, slice_get, refl, sym, ap, subst, ◌∙◌}
use Rattle.std.proofs.lemmas.Bool.{eqb-true, eq-eqb}
use Rattle.std.proofs.lemmas.Option.{same_Some}
use Rattle.interpreter.specs.cil_model.declared.trees.Tree.{Tree}
use Rattle.interpreter.proofs.cil_model.Lists.{set_is_there}
use Rattle.interpreter.proofs.cil_model.SameLaws.{never}
use Rattle.interpreter.specs.reference_machine.Values.{Born, ObjectName}
use Rattle.interpreter.specs.reference_machine.States.{HeapObject, State, with_object}
use Rattle.interpreter.specs.object_memory.declared.addresses.Addr.{Addr}
use Rattle.interpreter.specs.object_memory.declared.values.Value.{Value}
use Rattle.interpreter.specs.object_memory.Cells.{Cell, cell_in}
use Rattle.interpreter.specs.object_memory.Objects.{Objects, object_cell}
use Rattle.interpreter.specs.object_memory.Spaces.{Spaces, is_old, other_of}
use Rattle.interpreter.proofs.object_memory.TwoSpaces.TwoBlocks.{new_is_cell, old_is_cell}
use Rattle.collector.specs.phase_handshake.Handshakes.{Handshakes}
use Rattle.collector.specs.phase_handshake.declared.posts.Seat.{Seat}
use Rattle.collector.specs.Phases.{is_live}
use Rattle.collector.specs.Soundness.{IsSoundHeap}
use Rattle.collector.specs.declared.progress.Progress.{Progress}
use Rattle.collector.proofs.ThreadReferences.AfterStores.{changed_alike}
use Rattle.collector.proofs.Copies.VisibleCopies.{has_words}
use Rattle.collector.proofs.HeapStores.StoredCells.{IsReached, change_for, reached_changes, unreached_stays}
use Rattle.collector.proofs.HeapStores.ReachedCopies.{changed_by}
use Rattle.collector.proofs.Addresses.TagChanges.{AreAlike, KeepsTags}
use Rattle.collector.proofs.Addresses.Tests.{old_is}
use Rattle.simulation.specs.Refines.{AreTwins, IsBornAt, IsCell, Names}
use Rattle.simulation.proofs.ListLaws.ChangedItems.{set_or_stays}
use Rattle.simulation.proofs.Memory.ReferenceSlots.{IsLinked}
use Rattle.simulation.proofs.CollectedHeap.TwoCopies.{AreOldAndNew, HasNamedWords, copies_apart, copies_show, new_copy_refines, noted_twin, old_copy_refines, twin_noted, twins_either, twins_late}
use Rattle.simulation.proofs.CollectedHeap.VisibleNames.{FitsCollected, first_hold}
use Rattle.simulation.proofs.CollectedHeap.HeapChanges.{IsChange, alike_change, change_fits, heap_then, literals_stay, statics_still, copy_before, twins_then}

-- objects of one name have one number
pub born_number : (k n : ℕ) → Born k ≡ Born n → k ≡ n
born_number k n e = cc

module _ (tree : Tree) (words : ℕ) (h : Handshakes) (p : Progress) (seat : Seat) (first : Objects) (all : Names) (name : Names) (o : Objects) (ss : List Value) (s : State) (fits : FitsCollected tree words h p seat first all name o ss s)
    (both : Bool) (a : Addr) (n : ℕ) (named : fits.whole a.number ≡ Some (Born n)) (c : Cell) (lies : object_cell o a ≡ Some c) (f g : Cell → Cell) (keeps : KeepsTags f) (keeps' : KeepsTags g)
    (sound : IsSoundHeap tree h.posted_phase h.has_round words p (changed_by both f g o a).spaces)
    (object : HeapObject) (linked : IsLinked tree c.kind object.contents) (refines : IsCell tree fits.whole (change_for both f g o a c) object)
    (named_before : (x : Addr) (d : Cell) → fits.whole x.number ≡ Some (Born n) → object_cell o x ≡ Some d → HasNamedWords tree fits.whole d)
    (keeps_named : (d : Cell) → d.kind ≡ c.kind → HasNamedWords tree fits.whole d → HasNamedWords tree fits.whole (f d)) where
  abbrev m : Spaces
  m = o.spaces

  abbrev o' : Objects
  o' = changed_by both f g o a

  abbrev m' : Spaces
  m' = (changed_by both f g o a).spaces

  abbrev s' : State
  s' = with_object s (Born n) object

  alike : AreAlike m m'
  alike = changed_alike both f g keeps keeps' o a

  change : IsChange tree words h p seat (first_hold h seat first) o o'
  change = alike_change tree words h p seat (first_hold h seat first) o o' alike sound

  -- an address is twice named only where both copies are
  filled : (x y : ℕ) (k : ObjectName) → fits.whole x ≡ Some k → other_of (cell_in m'.old (record { number = x })) ≡ Some (record { number = y }) → is_live h.posted_phase m' (record { number = y }) ≡ true → fits.whole y ≡ Some k
  filled x y k is other live = fits.filled x y k is (copy_before tree words h p seat first all name o ss s fits o' change x y other) (change.live_back (record { number = y }) live)

  -- the cell at the address
  own_lies : object_cell o' a ≡ Some (change_for both f g o a c)
  own_lies = reached_changes tree h.posted_phase h.has_round words p o fits.sound a c lies f g keeps keeps' both a c (inl refl) lies

  own_kind : (change_for both f g o a c).kind ≡ c.kind
  own_kind = by_tests both (is_old m a)
    where
      by_tests : (t u : Bool) → (if t then (if u then f c else g c) else f c).kind ≡ c.kind
      by_tests true false = keeps'.kind c
      by_tests _ _ = keeps.kind c

  -- the object changes at its addresses alone
  abbrev BornThen : ℕ → ℕ → Type 0
  BornThen x k = IsBornAt tree fits.whole o' s' x k

  object_then : slice_get s'.objects n ≡ Some object
  object_then = let was = fits.heap.born a.number n named in set_is_there s.objects n object was.object was.is

  own_then : BornThen a.number n
  own_then = record { no_literal = (fits.heap.born a.number n named).no_literal; cell = change_for both f g o a c; lies = own_lies; object = object; is = object_then; refines = refines }

  -- ---- the other copy

  module _ (x : ℕ) (is : fits.whole x ≡ Some (Born n)) (twins : AreTwins m a.number x) where
    abbrev b : Addr
    b = record { number = x }

    late : has_words h.posted_phase ≡ true
    late = twins_late tree h.posted_phase h.has_round words p m fits.sound a.number x twins (fits.live a.number (Born n) named) (fits.live x (Born n) is)

    was : IsBornAt tree fits.whole o s x n
    was = fits.heap.born x n is

    -- where it is the new one
    new_then : AreOldAndNew m' a b → BornThen x n
    new_then copies =
        let same : copies.from ≡ change_for both f g o a c = same_Some copies.from (change_for both f g o a c) (sym (old_is_cell m' a copies.from copies.old) ∙ own_lies) in
        record {
          no_literal = was.no_literal;
          cell = copies.to;
          lies = new_is_cell m' sound.blocks.spaces b copies.to copies.new;
          object = object;
          is = object_then;
          refines =
              new_copy_refines tree h.posted_phase h.has_round words p m' sound late fits.whole fits.heap.small filled a b copies object
              (subst (λ k. IsLinked tree k object.contents) (sym (ap (λ (d : Cell). d.kind) same ∙ own_kind)) linked)
              (subst (λ (d : Cell). IsCell tree fits.whole d object) (sym same) refines);
        }

    -- where it is the old one
    module _ (copies : AreOldAndNew m' b a) where
      same_new : copies.to ≡ change_for both f g o a c
      same_new = same_Some copies.to (change_for both f g o a c) (sym (new_is_cell m' sound.blocks.spaces a copies.to copies.new) ∙ own_lies)

      kind_is : copies.from.kind ≡ c.kind
      kind_is = sym (copies_show tree h.posted_phase h.has_round words p m' sound b a copies late).kind ∙ ap (λ (d : Cell). d.kind) same_new ∙ own_kind

      old_lies : object_cell o' b ≡ Some copies.from
      old_lies = old_is_cell m' b copies.from copies.old

      was_old : is_old m b ≡ true
      was_old = sym (alike.old b) ∙ old_is m' b copies.from copies.old

      -- it is as it was, or changed as an old copy is
      from_is : (copies.from ≡ was.cell) ⊎ (copies.from ≡ f was.cell)
      from_is = by_both both refl
        where
          by_both : (t : Bool) → both ≡ t → (copies.from ≡ was.cell) ⊎ (copies.from ≡ f was.cell)
          by_both true two =
              let reached : IsReached both o a b = inr (two, twin_noted tree h.posted_phase h.has_round words p m fits.sound a b late twins) in
              let changed = reached_changes tree h.posted_phase h.has_round words p o fits.sound a c lies f g keeps keeps' both b was.cell reached was.lies in
              inr (same_Some copies.from (f was.cell) (sym old_lies ∙ changed ∙ ap (λ t. Some (if t then (if is_old m b then f was.cell else g was.cell) else f was.cell)) two ∙ ap (λ t. Some (if t then f was.cell else g was.cell)) was_old))
          by_both false one =
              let apart : a ≡ b → ⊥ = λ e. copies_apart tree h.posted_phase h.has_round words p m' sound b a copies (sym e) in
              let unreached : IsReached both o a b → ⊥ = λ r. elim r [ inl e ↦ apart e | inr e ↦ never (sym one ∙ e.0) ] in
              inl (same_Some copies.from was.cell (sym old_lies ∙ unreached_stays tree h.posted_phase h.has_round words p o fits.sound a c lies f g keeps keeps' both b unreached ∙ was.lies))

      named_then : HasNamedWords tree fits.whole copies.from
      named_then = elim from_is [
        | inl e ↦ subst (HasNamedWords tree fits.whole) (sym e) (named_before b was.cell is was.lies)
        | inr e ↦
            subst (HasNamedWords tree fits.whole) (sym e)
            (keeps_named was.cell (sym (keeps.kind was.cell) ∙ ap (λ (d : Cell). d.kind) (sym e) ∙ kind_is) (named_before b was.cell is was.lies))
      ]

      old_then : BornThen x n
      old_then = record {
        no_literal = was.no_literal;
        cell = copies.from;
        lies = old_lies;
        object = object;
        is = object_then;
        refines =
            old_copy_refines tree h.posted_phase h.has_round words p m' sound late fits.whole fits.heap.small filled b a copies object
            (subst (λ k. IsLinked tree k object.contents) (sym kind_is) linked) named_then
            (subst (λ (d : Cell). IsCell tree fits.whole d object) (sym same_new) refines);
      }

    twin_then : BornThen x n
    twin_then = elim (twins_either tree h.posted_phase h.has_round words p m' sound a.number x (twins_then tree words h p seat first all name o ss s fits o' change a.number x twins)) [
      | inl copies ↦ new_then copies
      | inr copies ↦ old_then copies
    ]

  -- ---- other objects

  module _ (x k : ℕ) (is : fits.whole x ≡ Some (Born k)) (apart : k ≢ n) where
    unreached : IsReached both o a (record { number = x }) → ⊥
    unreached (inl same) = apart (born_number k n (same_Some (Born k) (Born n) (sym is ∙ ap (λ (y : Addr). fits.whole y.number) (sym same) ∙ named)))
    unreached (inr other) =
        let twins = noted_twin tree h.posted_phase h.has_round words p m fits.sound a (record { number = x }) c lies (sym (ap other_of lies) ∙ other.1) in
        apart (born_number k n (sym (fits.heap.names.twins a.number x (Born n) (Born k) named is twins)))

    else_then : BornThen x k
    else_then =
        let was = fits.heap.born x k is in
        record {
          no_literal = was.no_literal;
          cell = was.cell;
          lies = unreached_stays tree h.posted_phase h.has_round words p o fits.sound a c lies f g keeps keeps' both (record { number = x }) unreached ∙ was.lies;
          object = was.object;
          is = elim (set_or_stays s.objects n k object was.object was.is) [ inl same ↦ absurd (apart same) | inr stays ↦ stays ];
          refines = was.refines;
        }

  -- ---- all

  born_then : (x k : ℕ) → fits.whole x ≡ Some (Born k) → BornThen x k
  born_then x k is = by_name (k == n) refl
    where
      own_name : k ≡ n → BornThen x n
      own_name same =
          let is' : fits.whole x ≡ Some (Born n) = is ∙ ap (λ y. Some (Born y)) same in
          elim (fits.heap.names.one a.number x (Born n) named is') [
            | inl index ↦ subst (λ y. BornThen y n) index own_then
            | inr twins ↦ twin_then x is' twins
          ]

      by_name : (t : Bool) → (k == n) ≡ t → BornThen x k
      by_name true test = let same = eqb-true k n test in subst (λ y. BornThen x y) (sym same) (own_name same)
      by_name false test = else_then x k is (λ same. never (sym test ∙ eq-eqb k n same))

  literals_are : o'.literals ≡ o.literals
  literals_are = by_both both
    where
      by_both : (t : Bool) → (changed_by t f g o a).literals ≡ o.literals
      by_both true = refl
      by_both false = refl

  -- all fits with the object
  pub object_changes : FitsCollected tree words h p seat first all name (changed_by both f g o a) ss (with_object s (Born n) object)
  object_changes =
      change_fits tree words h p seat first all name o ss s fits o' change ss s'
      (heap_then tree words h p seat first all name o ss s fits o' change s' born_then (literals_stay tree words h p seat first all name o ss s fits o' change s' literals_are refl))
      fits.refines
      (statics_still tree words h p seat first all name o ss s fits o' change)
