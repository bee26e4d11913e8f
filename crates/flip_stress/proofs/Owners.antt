-- Each slot is one seat's own.
use Rattle.std.proofs.Common.{◌≡◌, ℕ, zero, suc, ◌+◌, ◌*◌, ◌%◌, ◌^◌, ◌<◌, ◌≤◌, All, cond, nat_eq, List, [], ◌∷◌, ◌++◌, length, slice_index, count_by, map, sum_by, refl, sym, ap, ◌∙◌, eq-eqb, ne_eqb, arith}
use Rattle.std.proofs.lemmas.List.Elements.{All-map}
use Rattle.std.proofs.lemmas.List.Sums.{sum_by_push, sum_by-cons}
use Rattle.std.proofs.lemmas.List.{get_or_default}
use Rattle.std.proofs.Math.Nat.{mod-lt, mul-add, mul-le-mul}
use mathlib.Core.Logic.{dite}
use native.Mathlib.Decide.{ℕ_discrete}
use Rattle.std.specs.List.{range_with_len}
use Rattle.std.specs.declared.thread.PromisedHandle.{PromisedHandle}
use Rattle.word_flip.specs.Tokens.{FlipValue, WriterValue, initial_writer, initial_writers, IsWriterOf}
use Rattle.flip_stress.specs.Promises.{promised_by}
use Rattle.flip_stress.specs.Stress.{own_count, slot_count, IsFlipOf}
use Rattle.flip_stress.specs.declared.seat.SeatReport.{SeatReport}
use Rattle.flip_stress.specs.declared.sizes.Sizes.{Sizes}
use Rattle.flip_stress.specs.declared.stress.KeepsAll.{KeepsAll}

-- one thread more promises what one writer more owns
pub promised_more : (rounds : ℕ) (threads : List (PromisedHandle SeatReport KeepsAll)) (thread : PromisedHandle SeatReport KeepsAll) (writers : List WriterValue) (writer : WriterValue)
    → sum_by promised_by threads ≡ rounds * sum_by own_count writers → promised_by thread ≡ rounds * own_count writer
    → sum_by promised_by (threads ++ thread ∷ []) ≡ rounds * sum_by own_count (writers ++ writer ∷ [])
promised_more rounds threads thread writers writer before more = sum_by_push promised_by threads thread
    ∙ ((λ k. before k + more k) ∙ (sym (mul-add rounds (sum_by own_count writers) (own_count writer)) ∙ ap (λ (owned : ℕ). rounds * owned) (sym (sum_by_push own_count writers writer))))

-- a number below a range is not in it, and one of its own is there once
never : (x from count : ℕ) → x < from → count_by (λ (s : ℕ). nat_eq s x) (range_with_len from count) ≡ 0
never x from zero below = refl
never x from (suc count) below = sum_by-cons (λ (s : ℕ). cond (nat_eq s x) 1 0) from (range_with_len (from + 1) count)
    ∙ (λ k. cond (ne_eqb from x (λ e. omega arith) k) 1 0 + never x (from + 1) count (omega arith) k)

once : (x from count : ℕ) → from ≤ x → x < from + count → count_by (λ (s : ℕ). nat_eq s x) (range_with_len from count) ≡ 1
once x from zero above within = absurd (omega arith)
once x from (suc count) above within = sum_by-cons (λ (s : ℕ). cond (nat_eq s x) 1 0) from (range_with_len (from + 1) count) ∙ dite (ℕ_discrete from x)
    (λ e. λ k. cond (eq-eqb from x e k) 1 0 + never x (from + 1) count (omega arith) k)
    (λ ne. λ k. cond (ne_eqb from x ne k) 1 0 + once x (from + 1) count (omega arith) (omega arith) k)

sum_by_both : (f g : ℕ → ℕ) (xs : List ℕ) → sum_by (λ x. f x + g x) xs ≡ sum_by f xs + sum_by g xs
sum_by_both f g [] = refl
sum_by_both f g (x ∷ xs) = let both = sum_by-cons (λ (y : ℕ). f y + g y) x xs in let left = sum_by-cons f x xs in let right = sum_by-cons g x xs in let rest = sum_by_both f g xs in omega arith

-- the numbers of own slots of all seats add up to the number of slots
pub each_owned : (seats : ℕ) (owners : List ℕ) → All (λ seat. seat < seats) owners → sum_by (λ seat. count_by (nat_eq seat) owners) (range_with_len 0 seats) ≡ length owners
each_owned seats [] within = none (range_with_len 0 seats)
  where
    none : (xs : List ℕ) → sum_by (λ _. 0) xs ≡ 0
    none [] = refl
    none (x ∷ xs) = let step = sum_by-cons (λ (_ : ℕ). 0) x xs in let rest = none xs in omega arith
each_owned seats (x ∷ xs) within = let inside : x < seats = within 0 0 (omega arith) in
    let one_more : sum_by (λ seat. count_by (nat_eq seat) (x ∷ xs)) (range_with_len 0 seats) ≡ 1 + length xs = ap (λ (f : ℕ → ℕ). sum_by f (range_with_len 0 seats)) (λ k seat. sum_by-cons (λ (owner : ℕ). cond (nat_eq seat owner) 1 0) x xs k)
    ∙ (sum_by_both (λ (seat : ℕ). cond (nat_eq seat x) 1 0) (λ (seat : ℕ). count_by (nat_eq seat) xs) (range_with_len 0 seats)
    ∙ (λ k. once x 0 seats (omega arith) (omega arith) k + each_owned seats xs (λ i d l. within (suc i) d (omega arith)) k)) in omega arith

sum_by_mapped : {X Y : Type 0} (f : X → Y) (g : Y → ℕ) (xs : List X) → sum_by g (map f xs) ≡ sum_by (λ x. g (f x)) xs
sum_by_mapped f g [] = refl
sum_by_mapped f g (x ∷ xs) = let here = sum_by-cons g (f x) (map f xs) in let there = sum_by-cons (λ y. g (f y)) x xs in let rest = sum_by_mapped f g xs in omega arith

-- the writers of a new flip are its own
pub initial_all : (flip : FlipValue) → All (IsWriterOf flip) (initial_writers flip.table flip.plan)
initial_all flip = All-map (IsWriterOf flip) (initial_writer flip.table flip.plan) (range_with_len 0 flip.plan.seats) (λ k d l. (refl, refl))

-- each index belongs to a seat
owners_within : (sizes : Sizes) (owners : List ℕ) → length owners ≡ slot_count sizes → ((index : ℕ) → index < slot_count sizes → slice_index owners index ≡ index % sizes.seats) → All (λ seat. seat < sizes.seats) owners
owners_within sizes owners are dealt k d l =
    let some = sizes.some_seats in
    let is = dealt k (omega (arith, are)) in
    let below : k % sizes.seats < sizes.seats = mod-lt k (omega arith) in
    let same = get_or_default owners k d 0 l in
    omega arith

pub initial_owners : (sizes : Sizes) (owners : List ℕ) → length owners ≡ slot_count sizes → ((index : ℕ) → index < slot_count sizes → slice_index owners index ≡ index % sizes.seats) → (length owners ≡ slot_count sizes) × All (λ seat. seat < sizes.seats) owners
initial_owners sizes owners are dealt = (are, owners_within sizes owners are dealt)

-- a flip with these owners is of these sizes
pub flip_of : (sizes : Sizes) (owners : List ℕ) (limit : ℕ) → length owners ≡ slot_count sizes → ((index : ℕ) → index < slot_count sizes → slice_index owners index ≡ index % sizes.seats) →
    (flip : FlipValue) → flip ≡ record { table = flip.table; plan = record { owners = owners; seats = sizes.seats; limit = limit }; objects = sizes.objects; slots = sizes.slots } → IsFlipOf sizes flip
flip_of sizes owners limit are dealt flip is = record {
  objects_are = ap (λ (f : FlipValue). f.objects) is;
  slots_are = ap (λ (f : FlipValue). f.slots) is;
  seats_are = ap (λ (f : FlipValue). f.plan.seats) is;
  positions_are = ap (λ (f : FlipValue). length f.plan.owners) is ∙ are;
  dealt = λ index l. ap (λ (f : FlipValue). slice_index f.plan.owners index) is ∙ dealt index l;
}

-- the loads that all seats together keep are the number of rounds times the number of slots
pub kept_by_all : (sizes : Sizes) (flip : FlipValue) (kept : ℕ) (writers : List WriterValue) → IsFlipOf sizes flip → writers ≡ initial_writers flip.table flip.plan → kept ≡ sizes.rounds * sum_by own_count writers
    → kept ≡ sizes.rounds * slot_count sizes
kept_by_all sizes flip kept writers of are e = e ∙ ap (λ (owned : ℕ). sizes.rounds * owned) (ap (λ (all : List WriterValue). sum_by own_count all) are
    ∙ (sum_by_mapped (initial_writer flip.table flip.plan) own_count (range_with_len 0 flip.plan.seats) ∙ (each_owned flip.plan.seats flip.plan.owners within ∙ of.positions_are)))
  where
    within : All (λ seat. seat < flip.plan.seats) flip.plan.owners
    within = rw of.seats_are (owners_within sizes flip.plan.owners of.positions_are of.dealt)

-- this number of loads can be counted
pub kept_fits : (sizes : Sizes) → sizes.rounds * slot_count sizes < 2 ^ 64
kept_fits sizes = let some_objects = sizes.some_objects in let some_slots = sizes.some_slots in
    let objects : sizes.objects ≤ 256 = omega arith in let slots : sizes.slots ≤ 16 = omega arith in let indices : slot_count sizes ≤ 256 * 16 = mul-le-mul objects slots in
    let kept : sizes.rounds * slot_count sizes ≤ 10000 * (256 * 16) = mul-le-mul sizes.few_rounds indices in omega arith
