-- A set that the roots and its own objects do not leave has each object that is reachable, and the reachable ones are such a set.
use Rattle.std.proofs.Common.{◌≡◌, ◌≤◌, ◌⊎◌, ℕ, zero, suc, cond, is_none, List, [], ◌∷◌, ◌++◌, length, Option, Some, None, slice_get, Contains, refl, inl, inr, sym, ap, ◌∙◌, subst}
use Rattle.std.specs.Prelude.{filter, flat_map}
use Rattle.std.proofs.lemmas.Option.{same_Some, slice_get_past}
use Rattle.std.proofs.lemmas.List.Elements.{recursion_from_All, All-weaker, All-contains_itself}
use Rattle.cil_model.specs.declared.reports.End.{End}
use Rattle.cil_model.proofs.Lists.{none_is_some}
use Rattle.reference_machine.specs.Values.{ObjectName, Born, Literal, Value, Reference}
use Rattle.reference_machine.specs.States.{HeapObject, Frame, Thread, State, is_live_thread, object_at}
use Rattle.reference_machine.specs.Reachable.{values_of_frame, constructed_value, roots, members_of, values_of_contents, IsReachable, from_root, from_member}
use Rattle.reference_machine.proofs.ReachableObjects.Values.{values_of, IsWithin, AreWithin, contained_within, append_within}
use Rattle.reference_machine.proofs.ReachableObjects.States.{IsFrameWithin, AreFramesWithin, HoldsWithin, IsClosed}

abbrev values_of_thread : Thread → List Value
values_of_thread t = flat_map values_of_frame t.frames

abbrev values_of_threads : List Thread → List Value
values_of_threads threads = flat_map values_of_thread (filter is_live_thread threads)

module _ (Inside : ℕ → Type 0) where
  -- ---- from what frames and threads hold to the roots

  frame_values_within : (f : Frame) → IsFrameWithin Inside f → AreWithin Inside (values_of_frame f)
  frame_values_within f h =
      append_within Inside (f.arguments ++ f.locals ++ f.stack) (constructed_value f.constructed) (
      append_within Inside (f.arguments ++ f.locals) f.stack (
      append_within Inside f.arguments f.locals h.arguments h.locals) h.stack) h.constructed

  frames_values_within : (fs : List Frame) → AreFramesWithin Inside fs → AreWithin Inside (flat_map values_of_frame fs)
  frames_values_within [] h = tt
  frames_values_within (f ∷ fs) h = append_within Inside (values_of_frame f) (flat_map values_of_frame fs) (frame_values_within f h.0) (frames_values_within fs h.1)

  threads_values_within : (threads : List Thread) → ((t : ℕ) (thread : Thread) → slice_get threads t ≡ Some thread → thread.ended ≡ None → AreFramesWithin Inside thread.frames) → AreWithin Inside (values_of_threads threads)
  threads_values_within [] each = tt
  threads_values_within (x ∷ xs) each = by_life x.ended refl (threads_values_within xs (λ t thread there live. each (suc t) thread there live))
    where
      by_life : (o : Option End) → x.ended ≡ o → AreWithin Inside (values_of_threads xs) → AreWithin Inside (flat_map values_of_thread (cond (is_none o) (x ∷ filter is_live_thread xs) (filter is_live_thread xs)))
      by_life None live later = append_within Inside (values_of_thread x) (values_of_threads xs) (frames_values_within x.frames (each 0 x refl live)) later
      by_life (Some e) over later = later

  module _ (s : State) (holds : HoldsWithin Inside s) where
    roots_within : AreWithin Inside (roots s)
    roots_within = append_within Inside (values_of_threads s.threads) (values_of s.statics) (threads_values_within s.threads holds.threads) holds.statics

    members_within : (m : ObjectName) → IsWithin Inside (Reference m) → AreWithin Inside (members_of (object_at s m))
    members_within (Literal characters) h = tt
    members_within (Born n) h = by_object (slice_get s.objects n) refl
      where
        by_object : (o : Option HeapObject) → slice_get s.objects n ≡ o → AreWithin Inside (members_of o)
        by_object None there = tt
        by_object (Some o) there = holds.objects n o there h

    -- all that is reachable is in the set
    pub reachable_within : (n : ObjectName) → IsReachable s n → IsWithin Inside (Reference n)
    reachable_within n (from_root _ is) = contained_within Inside (roots s) (Reference n) roots_within is
    reachable_within n (from_member m _ reached is) = contained_within Inside (members_of (object_at s m)) (Reference n) (members_within m (reachable_within m reached)) is

  -- ---- from the roots to what frames and threads hold

  split_within : (vs ws : List Value) → AreWithin Inside (vs ++ ws) → AreWithin Inside vs × AreWithin Inside ws
  split_within [] ws h = (tt, h)
  split_within (v ∷ vs) ws h = let later = split_within vs ws h.1 in ((h.0, later.0), later.1)

  frame_from_values : (f : Frame) → AreWithin Inside (values_of_frame f) → IsFrameWithin Inside f
  frame_from_values f h =
      let all = split_within (f.arguments ++ f.locals ++ f.stack) (constructed_value f.constructed) h in
      let most = split_within (f.arguments ++ f.locals) f.stack all.0 in
      let first = split_within f.arguments f.locals most.0 in
      record { arguments = first.0; locals = first.1; stack = most.1; constructed = all.1 }

  frames_from_values : (fs : List Frame) → AreWithin Inside (flat_map values_of_frame fs) → AreFramesWithin Inside fs
  frames_from_values [] h = tt
  frames_from_values (f ∷ fs) h = let both = split_within (values_of_frame f) (flat_map values_of_frame fs) h in (frame_from_values f both.0, frames_from_values fs both.1)

  threads_from_values : (threads : List Thread) → AreWithin Inside (values_of_threads threads) → (t : ℕ) (thread : Thread) → slice_get threads t ≡ Some thread → thread.ended ≡ None → AreFramesWithin Inside thread.frames
  threads_from_values [] h t thread there live = none_is_some thread there
  threads_from_values (x ∷ xs) h zero thread there live = let same : x ≡ thread = same_Some x thread there in subst (λ (y : Thread). AreFramesWithin Inside y.frames) same (by_life x.ended (ap (λ (y : Thread). y.ended) same ∙ live) h)
    where
      by_life : (o : Option End) → o ≡ None → AreWithin Inside (flat_map values_of_thread (cond (is_none o) (x ∷ filter is_live_thread xs) (filter is_live_thread xs))) → AreFramesWithin Inside x.frames
      by_life None e k = frames_from_values x.frames (split_within (values_of_thread x) (values_of_threads xs) k).0
      by_life (Some over) e k = none_is_some over (sym e)
  threads_from_values (x ∷ xs) h (suc t) thread there live = threads_from_values xs (by_life x.ended h) t thread there live
    where
      by_life : (o : Option End) → AreWithin Inside (flat_map values_of_thread (cond (is_none o) (x ∷ filter is_live_thread xs) (filter is_live_thread xs))) → AreWithin Inside (values_of_threads xs)
      by_life None k = (split_within (values_of_thread x) (values_of_threads xs) k).1
      by_life (Some over) k = k

  within_by_contained : (vs : List Value) → ((v : Value) → Contains vs v → IsWithin Inside v) → AreWithin Inside vs
  within_by_contained vs each = recursion_from_All (IsWithin Inside) vs (All-weaker (Contains vs) (IsWithin Inside) each vs (All-contains_itself vs))

-- the object is reachable, or is still to be born
abbrev pub IsReachedOrUnborn : State → ℕ → Type 0
IsReachedOrUnborn s n = IsReachable s (Born n) ⊎ (length s.objects ≤ n)

module _ (s : State) where
  -- a value is within them where each object that it refers to is reachable
  value_reached : (v : Value) → ((n : ℕ) → v ≡ Reference (Born n) → IsReachable s (Born n)) → IsWithin (IsReachedOrUnborn s) v
  value_reached (Reference (Born n)) each = inl (each n refl)
  value_reached _ each = tt

  roots_reached : AreWithin (IsReachedOrUnborn s) (roots s)
  roots_reached = within_by_contained (IsReachedOrUnborn s) (roots s) (λ v is. value_reached v (λ n e. from_root (Born n) (subst (Contains (roots s)) e is)))

  members_reached : (n : ℕ) (o : HeapObject) → slice_get s.objects n ≡ Some o → IsReachedOrUnborn s n → AreWithin (IsReachedOrUnborn s) (values_of_contents o.contents)
  members_reached n o there (inl reached) =
      within_by_contained (IsReachedOrUnborn s) (values_of_contents o.contents) (λ v is. value_reached v (λ m e.
      from_member (Born n) (Born m) reached (subst (λ (x : Option HeapObject). Contains (members_of x) (Reference (Born m))) (sym there) (subst (Contains (values_of_contents o.contents)) e is))))
  members_reached n o there (inr outside) = none_is_some o (sym (slice_get_past s.objects n outside) ∙ there)

  -- a state keeps within what is reachable in it or still to be born
  pub reached_is_closed : IsClosed (IsReachedOrUnborn s) s
  reached_is_closed =
      let both = split_within (IsReachedOrUnborn s) (values_of_threads s.threads) (values_of s.statics) roots_reached in
      record { unborn = λ n outside. inr outside; holds = record { objects = members_reached; statics = both.1; threads = threads_from_values (IsReachedOrUnborn s) s.threads both.0 } }
