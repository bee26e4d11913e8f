-- Marking what the frames of a thread hold, frame by frame, is marking all their references in their order.
use Rattle.std.proofs.Common.{◌≡◌, ◌+◌, ℕ, zero, suc, true, List, [], ◌∷◌, ◌++◌, drop, Option, Some, None, slice_get, refl, inl, inr, sym, ap, ◌∙◌, subst, arith}
use Rattle.std.specs.Prelude.{All, filter_map, flat_map, option_map, option_to_list}
use Rattle.std.proofs.lemmas.List.Elements.{All-cons, All-head, All-nil}
use Rattle.std.proofs.lemmas.Option.{same_Some}
use Rattle.cil_model.proofs.Lists.{none_is_some}
use Rattle.object_memory.specs.declared.addresses.Addr.{Addr}
use Rattle.object_memory.specs.declared.values.Value.{Value}
use Rattle.object_memory.specs.declared.values.Value.TheVariants.{Int32, Int64, Native, Ref}
use Rattle.object_memory.specs.Objects.{Objects}
use Rattle.object_memory.specs.Spaces.{is_there}
use Rattle.threads_monitors.specs.Frames.{Frame}
use Rattle.threads_monitors.specs.Roots.{frame_roots, reference_in, values_of}
use Rattle.simulation.specs.instructions.barriers.Barriers.{is_value_in_heap, with_marked}
use Rattle.simulation.specs.collector.Conditions.{AreValuesInHeap}
use Rattle.simulation.specs.collector.MarkSteps.{with_all_marked}
use Rattle.simulation.specs.collector.Soundness.{IsListed}
use Rattle.simulation.specs.CollectorSteps.{with_roots_marked}
use Rattle.simulation.proofs.collector.Marks.MarkSteps.{all_kept, open_kept}
use Rattle.interleaving_core.specs.Acknowledgements.{AreAllThere}

-- ---- lists

pub listed_first : (xs ys : List Addr) (a : Addr) → IsListed xs a → IsListed (xs ++ ys) a
listed_first [] ys a h = elim h [ ]
listed_first (x ∷ xs) ys a (inl e) = inl e
listed_first (x ∷ xs) ys a (inr h) = inr (listed_first xs ys a h)

pub listed_second : (xs ys : List Addr) (a : Addr) → IsListed ys a → IsListed (xs ++ ys) a
listed_second [] ys a h = h
listed_second (x ∷ xs) ys a h = inr (listed_second xs ys a h)

-- what a frame refers to is among what all do
pub listed_in_frame : (fs : List Frame) (n : ℕ) (f : Frame) → slice_get fs n ≡ Some f → (a : Addr) → IsListed (frame_roots f) a → IsListed (flat_map frame_roots fs) a
listed_in_frame [] n f is a h = none_is_some f is
listed_in_frame (g ∷ fs) zero f is a h =
    let same : g ≡ f = cc in
    listed_first (frame_roots g) (flat_map frame_roots fs) a (subst_roots same)
  where
    subst_roots : g ≡ f → IsListed (frame_roots g) a
    subst_roots e = rw e h
listed_in_frame (g ∷ fs) (suc n) f is a h = listed_second (frame_roots g) (flat_map frame_roots fs) a (listed_in_frame fs n f is a h)

-- what is read at an index of a list is on it
pub listed_at : (xs : List Addr) → All (IsListed xs) xs
listed_at [] = All-nil (IsListed [])
listed_at (x ∷ xs) = All-cons (IsListed (x ∷ xs)) x xs (inl refl) (λ k d inside. inr (listed_at xs k d inside))

-- ---- what is there

-- values whose references are
pub values_there : (o : Objects) (vs : List Value) → AreAllThere o (filter_map reference_in vs) → AreValuesInHeap o vs
values_there o [] h = All-nil (λ v. is_value_in_heap o v ≡ true)
values_there o (Int32 n ∷ vs) h = All-cons (λ v. is_value_in_heap o v ≡ true) (Int32 n) vs refl (values_there o vs h)
values_there o (Int64 n ∷ vs) h = All-cons (λ v. is_value_in_heap o v ≡ true) (Int64 n) vs refl (values_there o vs h)
values_there o (Native n ∷ vs) h = All-cons (λ v. is_value_in_heap o v ≡ true) (Native n) vs refl (values_there o vs h)
values_there o (Ref b ∷ vs) h = All-cons (λ v. is_value_in_heap o v ≡ true) (Ref b) vs (h b (inl refl)) (values_there o vs (λ a listed. h a (inr listed)))

-- it stays there while others are marked, and a cycle stays open
one_kept : (o : Objects) (b a : Addr) → is_there o.spaces a ≡ true → is_there (with_marked o (Ref b)).spaces a ≡ true
one_kept o b a there =
    All-head (λ v. is_value_in_heap (with_marked o (Ref b)) v ≡ true) (Ref a) []
    (all_kept o (Ref b) (Ref a ∷ []) (All-cons (λ v. is_value_in_heap o v ≡ true) (Ref a) [] there (All-nil (λ v. is_value_in_heap o v ≡ true))))

pub there_kept : (list : List Addr) (o : Objects) (a : Addr) → is_there o.spaces a ≡ true → is_there (with_roots_marked o list).spaces a ≡ true
there_kept [] o a there = there
there_kept (b ∷ list) o a there = there_kept list (with_marked o (Ref b)) a (one_kept o b a there)

pub cycle_kept : (list : List Addr) (o : Objects) → o.spaces.is_open ≡ true → (with_roots_marked o list).spaces.is_open ≡ true
cycle_kept [] o e = e
cycle_kept (b ∷ list) o e = cycle_kept list (with_marked o (Ref b)) (open_kept o (Ref b) e)

-- ---- marks

-- of values, by their references
pub values_marked : (vs : List Value) (o : Objects) → with_all_marked o vs ≡ with_roots_marked o (filter_map reference_in vs)
values_marked [] o = refl
values_marked (Ref a ∷ vs) o = values_marked vs (with_marked o (Ref a))
values_marked (_ ∷ vs) o = values_marked vs o

-- of one list after another
pub both_marked : (xs ys : List Addr) (o : Objects) → with_roots_marked o (xs ++ ys) ≡ with_roots_marked (with_roots_marked o xs) ys
both_marked [] ys o = refl
both_marked (x ∷ xs) ys o = both_marked xs ys (with_marked o (Ref x))

-- of a frame: its values, and then the object that it makes
pub frame_marked : (o : Objects) (f : Frame) → with_roots_marked (with_all_marked o (values_of f)) (option_to_list f.constructed) ≡ with_roots_marked o (frame_roots f)
frame_marked o f =
    ap (λ x. with_roots_marked x (option_to_list f.constructed)) (values_marked (values_of f) o)
    ∙ ap (λ x. x) (both_back (filter_map reference_in (values_of f)) (option_to_list f.constructed))
  where
    both_back : (xs ys : List Addr) → with_roots_marked (with_roots_marked o xs) ys ≡ with_roots_marked o (xs ++ ys)
    both_back xs ys = rw (both_marked xs ys o) refl

-- of the frames from one on
pub rest_marked : (fs : List Frame) (n : ℕ) (f : Frame) (o : Objects) → slice_get fs n ≡ Some f →
    with_roots_marked (with_roots_marked o (frame_roots f)) (flat_map frame_roots (drop (n + 1) fs)) ≡ with_roots_marked o (flat_map frame_roots (drop n fs))
rest_marked [] n f o is = none_is_some f is
rest_marked (g ∷ fs) zero f o is =
    let same : g ≡ f = cc in
    rw (both_marked (frame_roots g) (flat_map frame_roots fs) o) (rw same refl)
rest_marked (g ∷ fs) (suc n) f o is =
    let next : suc n + 1 ≡ suc (n + 1) = omega arith in
    subst (λ k. with_roots_marked (with_roots_marked o (frame_roots f)) (flat_map frame_roots (drop k (g ∷ fs))) ≡ with_roots_marked o (flat_map frame_roots (drop (suc n) (g ∷ fs)))) (sym next) (rest_marked fs n f o is)

-- ---- a frame by its number

pub frame_of : (o : Option Frame) (vs : List Value) → option_map values_of o ≡ Some vs → (f : Frame) × (o ≡ Some f) × (values_of f ≡ vs)
frame_of None vs e = none_is_some vs e
frame_of (Some f) vs e = (f, refl, same_Some (values_of f) vs e)

module _ (f : Frame) (o : Option Frame) (is : o ≡ Some f) where
  pub values_are : (vs : List Value) → option_map values_of o ≡ Some vs → values_of f ≡ vs
  values_are vs e = same_Some (values_of f) vs (sym (ap (option_map values_of) is) ∙ e)

  pub object_is : (made : Option Addr) → option_map (λ (x : Frame). x.constructed) o ≡ Some made → f.constructed ≡ made
  object_is made e = same_Some f.constructed made (sym (ap (option_map (λ (x : Frame). x.constructed)) is) ∙ e)
