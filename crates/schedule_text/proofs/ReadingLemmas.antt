-- Words that are read one after another.
use Rattle.std.proofs.Common.{◌≡◌, ◌+◌, ◌-◌, ◌<◌, ◌≤◌, ◌^◌, ℕ, Bool, true, false, nat_lt, List, ◌∷◌, [], ◌++◌, length, take, drop, get_or, min, replicate, arith, refl, sym, ◌∙◌, ap, ap₂, subst, suc, le-ltb, map, Option, Some, None, Result, Ok, Err, OnOk, IfErr, IsErrAnd, MatchResult, length-append}
use Rattle.std.specs.List.{list_all}
use Rattle.std.proofs.Math.Seq.{drop-cons}
use Rattle.std.specs.Iterator.{Yields}
use Rattle.std.proofs.lemmas.Bool.{ltb-true}
use Rattle.std.proofs.lemmas.Iterator.{YieldsList}
use Rattle.std.proofs.lemmas.Iterator.Consumers.{YieldsList-end, YieldsList-so_far, YieldsList-turn}
use Rattle.std.proofs.lemmas.Grind.{flat_map-append}
use Rattle.std.proofs.lemmas.List.{take-append-drop, append-nil, length-replicate}
use Rattle.std.proofs.lemmas.List.Folds.{list_all-append}
use Rattle.std.proofs.lemmas.List.Elements.{All-replicate}
use Rattle.std.proofs.lemmas.List.Sums.{list_all-from_AllPass}
use borrow.Author.Tests.{ltb-false}
use Rattle.cil_model.specs.declared.events.Event.{Event}
use Rattle.cil_model.specs.declared.events.Event.TheVariants.{Step, Ack, Gc}
use Rattle.cil_model.specs.declared.limits.TheConstants.{MOST_THREADS}
use Rattle.schedule_text.specs.Items.{AreItems, IsItem, capped_event, capped_item, events_of, has_thread_number}
use Rattle.schedule_text.specs.Readings.{AreRead, IsAdded, IsFaultOf, IsFaulty, IsFirstFault}
use Rattle.schedule_text.specs.declared.errors.ScheduleError.{ScheduleError}
use Rattle.schedule_text.specs.declared.errors.ScheduleError.TheVariants.{NoItem, NoThread, TooLong, OutOfMemory}
use Rattle.schedule_text.specs.declared.errors.TheConstants.{MOST_EVENTS}
use Rattle.schedule_text.specs.declared.items.Item.{Item}
use Rattle.schedule_text.proofs.ItemLemmas.{same_item}

-- ---- greatest numbers represent no good ones

thread_with_number : (thread : ℕ) → has_thread_number (Step (min thread 255)) ≡ true → min thread 255 ≡ thread
thread_with_number thread e = let h : min thread 255 < MOST_THREADS = ltb-true _ _ e in omega arith

uncapped_event : (event : Event) → has_thread_number (capped_event event) ≡ true → capped_event event ≡ event
uncapped_event (Step thread) e = ap Step (thread_with_number thread e)
uncapped_event (Ack thread) e = ap Ack (thread_with_number thread e)
uncapped_event Gc e = refl

without_number : (thread : ℕ) → nat_lt (min thread 255) MOST_THREADS ≡ false → nat_lt thread MOST_THREADS ≡ false
without_number thread e = let h : MOST_THREADS ≤ min thread 255 = ltb-false _ _ e in le-ltb thread MOST_THREADS (omega arith)

uncapped_fault : (event : Event) → has_thread_number (capped_event event) ≡ false → has_thread_number event ≡ false
uncapped_fault (Step thread) e = without_number thread e
uncapped_fault (Ack thread) e = without_number thread e
uncapped_fault Gc e = e

-- an item that is good as the program holds it is the item that is written
pub uncapped : (item written : Item) → item ≡ capped_item written → has_thread_number item.event ≡ true → item.count ≤ MOST_EVENTS → item ≡ written
uncapped item written e has_number few =
    let event : has_thread_number (capped_event written.event) ≡ true = ap (λ i. has_thread_number i.event) (sym e) ∙ has_number in
    let count : min written.count (2 ^ 32 - 1) ≤ MOST_EVENTS = subst (λ i. i.count ≤ MOST_EVENTS) e few in
    e ∙ same_item (capped_item written) written (uncapped_event written.event event) (omega arith)

pub uncapped_added : (item written : Item) (before after : List Event) → item ≡ capped_item written → IsAdded before item after → IsAdded before written after
uncapped_added item written before after e added =
    let few : item.count ≤ MOST_EVENTS = omega (arith, added.1) in
    subst (λ i. IsAdded before i after) (uncapped item written e added.0 few) added

-- so is a fault
pub fault_of : (before : ℕ) (word : List ℕ) (item written : Item) (error : ScheduleError) → IsItem word written → item ≡ capped_item written → IsFaultOf before item error → IsFaulty before word error
fault_of before word item written NoItem is e fault = absurd fault
fault_of before word item written NoThread is e fault =
    (written, is, uncapped_fault written.event (ap (λ i. has_thread_number i.event) (sym e) ∙ fault))
fault_of before word item written TooLong is e fault =
    let event : has_thread_number (capped_event written.event) ≡ true = ap (λ i. has_thread_number i.event) (sym e) ∙ fault.0 in
    let many : MOST_EVENTS < before + min written.count (2 ^ 32 - 1) = subst (λ i. MOST_EVENTS < before + i.count) e fault.1 in
    (written, is, (ap has_thread_number (sym (uncapped_event written.event event)) ∙ event, omega arith))
fault_of before word item written OutOfMemory is e fault =
    let same = uncapped item written e fault.0 (omega (arith, fault.1)) in
    (written, is, subst (λ i. IsFaultOf before i OutOfMemory) same fault)

-- ---- what a result says

pub on_ok : {T E P Q : Type 0} (r : Result T E) → (P → Q) → OnOk r P → OnOk r Q
on_ok (Ok x) f h = f h
on_ok (Err e) f h = tt

pub if_err : {T E : Type 0} {P Q : E → Type 0} (r : Result T E) → ((e : E) → P e → Q e) → IfErr r P → IfErr r Q
if_err (Ok x) f h = tt
if_err (Err e) f h = f e h

pub refused : {T E : Type 0} {Q gives : E → Type 0} (P : T → Type 0) (r : Result T E) → IsErrAnd r gives → ((e : E) → gives e → Q e) → MatchResult r P Q
refused P (Ok x) h f = absurd h
refused P (Err e) h f = f e h

-- ---- one word more

AreItems-push : (words : List (List ℕ)) (items : List Item) (word : List ℕ) (item : Item) → AreItems words items → IsItem word item → AreItems (words ++ word ∷ []) (items ++ item ∷ [])
AreItems-push [] [] word item h is = (is, tt)
AreItems-push (w ∷ words) (i ∷ items) word item (first, others) is = (first, AreItems-push words items word item others is)
AreItems-push _ _ _ _ h _ = absurd h

pub events_of-push : (items : List Item) (item : Item) → events_of (items ++ item ∷ []) ≡ events_of items ++ replicate item.count item.event
events_of-push items item =
    flat_map-append (λ i. replicate i.count i.event) items (item ∷ []) ∙ ap (λ es. events_of items ++ es) (append-nil (replicate item.count item.event))

list_all-replicate : {X : Type 0} (test : X → Bool) (n : ℕ) (x : X) → test x ≡ true → list_all test (replicate n x) ≡ true
list_all-replicate test n x e = list_all-from_AllPass test (replicate n x) (All-replicate (λ y. test y ≡ true) n x e)

pub read_more : (words : List (List ℕ)) (events after : List Event) (word : List ℕ) (item : Item) → AreRead words events → IsItem word item → IsAdded events item after → AreRead (words ++ word ∷ []) after
read_more words events after word item (items, are, is, all, few) here (has_number, room, added) = (
  items ++ item ∷ [],
  AreItems-push words items word item are here,
  added ∙ ap (λ es. es ++ replicate item.count item.event) is ∙ sym (events_of-push items item),
  rw added (rw (list_all-append has_thread_number events (replicate item.count item.event)) (rw all (list_all-replicate has_thread_number item.count item.event has_number))),
  rw added (omega (arith, length-append events (replicate item.count item.event), length-replicate item.count item.event)),
)

-- ---- the words of a text, up to one of them

parts_at : {A : Type 0} (all front : List A) (n : ℕ) (x : A) → front ≡ take n all → n < length all → x ≡ get_or all n x → all ≡ front ++ x ∷ drop (suc n) all
parts_at all front n x e below here =
    sym (take-append-drop n all) ∙ ap₂ (λ xs ys. xs ++ ys) (sym e) (drop-cons all n x below ∙ ap (λ y. y ∷ drop (suc n) all) (sym here))

pub stops_at : (words front : List (List ℕ)) (n : ℕ) (word : List ℕ) (events : List Event) (error : ScheduleError) →
    front ≡ take n words → n < length words → word ≡ get_or words n word → AreRead front events → IsFaulty (length events) word error → IsFirstFault words error
stops_at words front n word events error e below here are fault =
    (front, word, drop (suc n) words, events, parts_at words front n word e below here, are, fault)

-- ---- what a loop over a chain of iterators has taken

pub taken_at : {S A B : Type 0} {steps : S → Option A → S → Type 0} {s : S} {r : Option A} {all : List B} (v : A → B) (xs : List A) (x : A) (t u : S) →
    Yields steps s xs t → steps t r u → r ≡ Some x → YieldsList steps v s all → (map v xs ≡ take (length xs) all) × (length xs < length all) × (v x ≡ get_or all (length xs) (v x))
taken_at v xs x t u y next some road =
    let transition = YieldsList-turn road xs _ y _ _ x some next in
    (YieldsList-so_far road xs _ y, transition.0, transition.1)

pub all_taken : {S A B : Type 0} {steps : S → Option A → S → Type 0} {s : S} {r : Option A} {all : List B} (v : A → B) (xs : List A) (t u : S) →
    Yields steps s xs t → steps t r u → r ≡ None → YieldsList steps v s all → map v xs ≡ all
all_taken v xs t u y next none road = (YieldsList-end road xs _ y _ _ none next).0
