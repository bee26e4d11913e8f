-- A list has one list of longest runs, and so one text.
use Rattle.std.proofs.Common.{◌≡◌, ◌≢◌, ◌<◌, ℕ, List, ◌∷◌, [], ◌++◌, map, replicate, refl, sym, ◌∙◌, ap, ap₂, subst, zero, suc}
use Rattle.std.specs.Prelude.{⊤}
use Rattle.std.specs.List.{join_with_byte}
use Rattle.std.proofs.lemmas.List.Elements.{All-tail}
use Rattle.cil_model.specs.declared.events.Event.{Event}
use Rattle.schedule_text.specs.Items.{events_of, item_text}
use Rattle.schedule_text.specs.Writings.{AreRuns, IsWritten}
use Rattle.schedule_text.specs.declared.items.Item.{Item}
use Rattle.schedule_text.proofs.ItemLemmas.{same_item}
use Rattle.schedule_text.proofs.WritingLemmas.{first_of_runs, heads, tails}

-- the events after a longest run of an event don't begin with it
abbrev BeginsOtherwise : Event → List Event → Type 0
BeginsOtherwise event [] = ⊤
BeginsOtherwise event (next ∷ more) = event ≢ next

tail_of_runs : (events : List Event) (item : Item) (items : List Item) → AreRuns events (item ∷ items) → AreRuns (events_of items) items
tail_of_runs events item items runs = record {
  together = refl;
  filled = All-tail (λ i. 0 < i.count) item items runs.filled;
  apart = λ before after first second e. runs.apart (item ∷ before) after first second (ap (λ is. item ∷ is) e);
}

after_run : (events : List Event) (item : Item) (items : List Item) → AreRuns events (item ∷ items) → BeginsOtherwise item.event (events_of items)
after_run events item [] runs = tt
after_run events item (next ∷ items) runs =
    let first = first_of_runs (events_of (next ∷ items)) next items (tail_of_runs events item (next ∷ items) runs) in
    subst (BeginsOtherwise item.event) (sym first.1) (runs.apart [] items item next refl)

same_counts : (m n : ℕ) (event : Event) (xs ys : List Event) → BeginsOtherwise event xs → BeginsOtherwise event ys → replicate m event ++ xs ≡ replicate n event ++ ys → (m ≡ n) × (xs ≡ ys)
same_counts zero zero event xs ys differs differs' e = (refl, e)
same_counts zero (suc n) event (x ∷ xs) ys differs differs' e = absurd (differs (sym (heads e)))
same_counts (suc m) zero event xs (y ∷ ys) differs differs' e = absurd (differs' (heads e))
same_counts (suc m) (suc n) event xs ys differs differs' e =
    let rest = same_counts m n event xs ys differs differs' (tails e) in
    (ap suc rest.0, rest.1)
same_counts _ _ event _ _ differs differs' e = cc

no_events : (event : Event) (more : List Event) → [] ≡ event ∷ more → ⊥
no_events event more e = cc

same_runs : (events : List Event) (items others : List Item) → AreRuns events items → AreRuns events others → items ≡ others
same_runs events [] [] runs runs' = refl
same_runs events [] (other ∷ others) runs runs' =
    let first = first_of_runs events other others runs' in
    absurd (no_events other.event first.0 (sym runs.together ∙ first.1))
same_runs events (item ∷ items) [] runs runs' =
    let first = first_of_runs events item items runs in
    absurd (no_events item.event first.0 (sym runs'.together ∙ first.1))
same_runs events (item ∷ items) (other ∷ others) runs runs' =
    let first = first_of_runs events item items runs in
    let first' = first_of_runs events other others runs' in
    let event : item.event ≡ other.event = heads (sym first.1 ∙ first'.1) in
    let following : BeginsOtherwise item.event (events_of others) = subst (λ e. BeginsOtherwise e (events_of others)) (sym event) (after_run events other others runs') in
    let counted = same_counts item.count other.count item.event (events_of items) (events_of others) (after_run events item items runs) following
    (sym runs.together ∙ runs'.together ∙ ap (λ e. replicate other.count e ++ events_of others) (sym event)) in
    let rest = same_runs (events_of items) items others (tail_of_runs events item items runs)
    (subst (λ es. AreRuns es others) (sym counted.1) (tail_of_runs events other others runs')) in
    ap₂ (λ i is. i ∷ is) (same_item item other event counted.0) rest

pub same_text : (events : List Event) (text other : List ℕ) → IsWritten events text → IsWritten events other → text ≡ other
same_text events text other (_, (items, runs, is)) (_, (items', runs', is')) =
    is ∙ ap (λ is. join_with_byte 32 (map item_text is)) (same_runs events items items' runs runs') ∙ sym is'
