-- What each call makes of a memory: what callers see after it, and that it is sound again.
use Rattle.std.proofs.Common.{◌≡◌, ℕ, zero, suc, ◌+◌, ◌-◌, ◌*◌, ◌<◌, ◌≤◌, List, [], ◌∷◌, ◌++◌, length, take, drop, set, get_or, refl, sym, ap, subst, ◌∙◌, arith, length-append, append-nil}
use Rattle.std.specs.Prelude.{reverse, map, Option, Some, None, option_map, slice_get, All, IfSome}
use Rattle.std.proofs.Math.ListN.{length-set}
use Rattle.std.proofs.lemmas.List.{reverse-append, reverse-reverse, length-reverse, length-take-le, length-map, same_from_push}
use Rattle.std.proofs.lemmas.List.Elements.{All-head, All-tail}
use Rattle.std.proofs.Math.Seq.{drop-append_seam, take-append_seam}
use Rattle.std.specs.List.{insert}
use Rattle.std.proofs.lemmas.Nat.{mul-le}
use Rattle.std.proofs.lemmas.Option.{slice_get_read}
use Rattle.cil_model.proofs.Lists.{get_before, last_is_there}
use Rattle.object_memory.specs.declared.addresses.Addr.{Addr}
use Rattle.object_memory.specs.declared.values.Value.{Value}
use Rattle.cil_model.specs.declared.values.ValueKind.{ValueKind}
use Rattle.threads_monitors.specs.declared.frames.Activation.{Activation}
use Rattle.threads_monitors.specs.Frames.{Frame, Frames, size, zero_value, new_frame, with_pc, with_stack, with_argument, with_local, with_call, with_running, return_frames}
use Rattle.threads_monitors.specs.Activations.{Lays, Fit, IsSoundStack, visible_frames, activation, activations, frame_of, value_stack, lowest, moved_to, with_constructed}
use Rattle.threads_monitors.specs.Roots.{values_of, reference_in, frames_upward, roots, with_reference, frame_with_references, with_references}
use Rattle.threads_monitors.proofs.ValueStacks as value_stacks
use Rattle.threads_monitors.proofs.ReplacedReferences as replacing
use Rattle.threads_monitors.proofs.Upward as upward

-- a memory that shows these frames, and is sound
pub record Holds (values : List Value) (running : Activation) (below : List Activation) (depth room capacity most_below : ℕ) (frames : Frames) : Type 0 where
  pub view : visible_frames values running below depth room ≡ frames
  pub sound : IsSoundStack values running below depth room capacity most_below

holds : (values : List Value) (running : Activation) (below : List Activation) (depth room capacity most_below : ℕ) (f : Frame) (fs : List Frame)
    → Lays values running (reverse below) f fs → Fit room (f ∷ fs) → length below + 1 ≤ depth → depth * room ≤ capacity → depth ≤ most_below + 1
    → Holds values running below depth room capacity most_below (record { running = f; below = fs; depth = depth; room = room })
holds values running below depth room capacity most_below f fs l fit few large deep =
    let top = value_stacks.running_shown values running (reverse below) f fs l in
    let rest = value_stacks.below_shown values running (reverse below) f fs l in
    record {
      view = rw (top, rest) refl;
      sound = record {
        lays = value_stacks.lays_shown values running (reverse below) f fs l;
        fit = value_stacks.fit_shown values running (reverse below) f fs l room fit;
        few = few;
        large = large;
        deep = deep;
      };
    }

-- the first memory: one frame on an empty value stack
abbrev pub Begun : (arguments : List Value) (kinds : List ValueKind) (method depth room : ℕ) (values : List Value) (below : List Activation) (stack capacity most_below : ℕ) → Type 0
Begun arguments kinds method depth room values below stack capacity most_below =
    Holds values (record { method = method; pc = 0; constructed = None; arguments = 0; locals = length arguments; stack = stack }) below depth room capacity most_below
    (record { running = new_frame method arguments kinds None; below = []; depth = depth; room = room })

pub begun : (arguments : List Value) (kinds : List ValueKind) (method depth room : ℕ) (values : List Value) (below : List Activation) (stack capacity most_below : ℕ) → 0 < depth → length arguments + length kinds ≤ room
    → values ≡ arguments ++ map zero_value kinds → below ≡ [] → stack ≡ length values → depth * room ≤ capacity → depth ≤ most_below + 1 → Begun arguments kinds method depth room values below stack capacity most_below
begun arguments kinds method depth room values below stack capacity most_below some fits values_are below_are stack_is large deep =
    let count : length (map zero_value kinds) ≡ length kinds = length-map kinds zero_value in
    let zero_first : length arguments ≡ 0 + length arguments = omega arith in
    let long = ap length values_are ∙ length-append arguments (map zero_value kinds) in
    let stack_first : stack ≡ 0 + (length arguments + length (map zero_value kinds)) = omega (arith, stack_is, long) in
    holds values (record { method = method; pc = 0; constructed = None; arguments = 0; locals = length arguments; stack = stack })
    below depth room capacity most_below (new_frame method arguments kinds None) []
    (record {
      values_are = values_are ∙ ap (λ xs. arguments ++ xs) (sym (append-nil (map zero_value kinds)));
      running_is =
          ap (λ (k : ℕ). record { method = method; pc = 0; constructed = None; arguments = 0; locals = k; stack = stack }) zero_first
          ∙ ap (λ (k : ℕ). record { method = method; pc = 0; constructed = None; arguments = 0; locals = 0 + length arguments; stack = k }) stack_first;
      below_are = ap reverse below_are;
    })
    (rw count (omega (arith, fits)), tt) (omega (arith, some, ap length below_are)) large deep

module _ {values : List Value} {running : Activation} {below : List Activation} {depth room capacity most_below : ℕ} (s : IsSoundStack values running below depth room capacity most_below) where
  abbrev m : Frames
  m = visible_frames values running below depth room

  abbrev f : Frame
  f = m.running

  abbrev fs : List Frame
  fs = m.below

  -- the number of frames is that of the activations
  pub count_below : length fs ≡ length below
  count_below = sym (upward.length-activations fs) ∙ ap length (sym s.lays.below_are) ∙ length-reverse below

  -- room for n values more in the running frame
  pub has_room : (n : ℕ) → size f + n ≤ room → length values + n ≤ capacity
  has_room n fits =
      value_stacks.room_above values running (reverse below) f fs s.lays room depth capacity s.fit
      (omega (arith, count_below, s.few)) s.large n fits

  pub after_push : (v : Value) → size f < room → Holds (values ++ v ∷ []) running below depth room capacity most_below (with_stack m (v ∷ f.stack))
  after_push v less =
      holds (values ++ v ∷ []) running below depth room capacity most_below (record f { stack = v ∷ f.stack }) fs
      (value_stacks.pushed values running (reverse below) f fs s.lays v) (omega (arith, less), s.fit.1) s.few s.large s.deep

  -- the topmost value is taken
  pub record Popped (new : List Value) (v : Value) : Type 0 where
    pub stack_is : f.stack ≡ v ∷ (visible_frames new running below depth room).running.stack
    pub others : visible_frames new running below depth room ≡ with_stack m (visible_frames new running below depth room).running.stack
    pub sound : IsSoundStack new running below depth room capacity most_below

  pub after_pop : (new : List Value) (v : Value) → 0 < length f.stack → values ≡ new ++ v ∷ [] → Popped new v
  after_pop new v some split = by f.stack refl
    where
      by : (stack : List Value) → f.stack ≡ stack → Popped new v
      by [] e = let none = rw e at some in absurd (omega (arith, none))
      by (x ∷ xs) e =
          let t = value_stacks.topped values running (reverse below) f fs s.lays x xs e in
          let same = same_from_push new t.rest v x (sym split ∙ t.split) in
          let long = ap length e in
          let first = s.fit.0 in
          let lays = subst (λ ys. Lays ys running (reverse below) (record f { stack = xs }) fs) (sym same.0) t.lays in
          let then = holds new running below depth room capacity most_below (record f { stack = xs }) fs lays (omega (arith, first, long), s.fit.1) s.few s.large s.deep in
          let left : (visible_frames new running below depth room).running.stack ≡ xs = ap (λ (k : Frames). k.running.stack) then.view in
          record {
            stack_is = e ∙ ap (λ y. y ∷ xs) (sym same.1) ∙ ap (λ ys. v ∷ ys) (sym left);
            others = then.view ∙ ap (with_stack m) (sym left);
            sound = then.sound;
          }

  -- where one of these values is in the value stack
  pub record IsAt (xs : List Value) (i pc : ℕ) : Type 0 where
    pub inside : pc < length values
    pub read : (v : Value) → v ≡ get_or values pc v → slice_get xs i ≡ Some v

  pub argument_at : (i : ℕ) → i < length f.arguments → IsAt f.arguments i (running.arguments + i)
  argument_at i less = record {
    inside = value_stacks.argument_inside values running (reverse below) f fs s.lays i less;
    read = λ v is. value_stacks.argument_read values running (reverse below) f fs s.lays i v less ∙ ap Some (sym is);
  }

  pub local_at : (i : ℕ) → i < length f.locals → IsAt f.locals i (running.locals + i)
  local_at i less = record {
    inside = value_stacks.local_inside values running (reverse below) f fs s.lays i less;
    read = λ v is. value_stacks.local_read values running (reverse below) f fs s.lays i v less ∙ ap Some (sym is);
  }

  pub operand_at : (i : ℕ) → i < length f.stack → IsAt f.stack i (length values - 1 - i)
  operand_at i less = record {
    inside = omega (arith, less, value_stacks.length_values values running (reverse below) f fs s.lays);
    read = λ v is. value_stacks.operand_read values running (reverse below) f fs s.lays i v less ∙ ap Some (sym is);
  }

  -- the index of a value below the topmost ones is in the value stack
  pub index_below : (n : ℕ) → n ≤ length f.stack → n ≤ length values
  index_below n less = omega (arith, less, value_stacks.length_values values running (reverse below) f fs s.lays)

  pub after_insert : (n : ℕ) (v : Value) → n ≤ length f.stack → size f < room → Holds (insert values (length values - n) v) running below depth room capacity most_below (with_stack m (take n f.stack ++ v ∷ drop n f.stack))
  after_insert n v there less =
      let long = length_inserted n f.stack v there in
      holds (insert values (length values - n) v) running below depth room capacity most_below (record f { stack = take n f.stack ++ v ∷ drop n f.stack }) fs
      (value_stacks.inserted values running (reverse below) f fs s.lays n v there) (omega (arith, less, long), s.fit.1) s.few s.large s.deep
    where
      length_inserted : (n : ℕ) (xs : List Value) (v : Value) → n ≤ length xs → length (take n xs ++ v ∷ drop n xs) ≡ length xs + 1
      length_inserted zero xs v h = omega arith
      length_inserted (suc n) [] v h = absurd (omega (arith, h))
      length_inserted (suc n) (x ∷ xs) v h = let ih = length_inserted n xs v (omega (arith, h)) in omega (arith, ih)

  pub after_pc : (pc : ℕ) → Holds values (record running { pc = pc }) below depth room capacity most_below (with_pc m pc)
  after_pc pc =
      holds values (record running { pc = pc }) below depth room capacity most_below (record f { pc = pc }) fs
      (record { values_are = s.lays.values_are; running_is = ap (λ (a : Activation). record a { pc = pc }) s.lays.running_is; below_are = s.lays.below_are })
      s.fit s.few s.large s.deep

  pub after_argument : (i : ℕ) (v : Value) → i < length f.arguments → Holds (set values (running.arguments + i) v) running below depth room capacity most_below (with_argument m i v)
  after_argument i v less =
      holds (set values (running.arguments + i) v) running below depth room capacity most_below (record f { arguments = set f.arguments i v }) fs
      (value_stacks.argument_stored values running (reverse below) f fs s.lays i v less) (rw length-set s.fit.0, s.fit.1) s.few s.large s.deep

  pub after_local : (i : ℕ) (v : Value) → i < length f.locals → Holds (set values (running.locals + i) v) running below depth room capacity most_below (with_local m i v)
  after_local i v less =
      holds (set values (running.locals + i) v) running below depth room capacity most_below (record f { locals = set f.locals i v }) fs
      (value_stacks.local_stored values running (reverse below) f fs s.lays i v less) (rw length-set s.fit.0, s.fit.1) s.few s.large s.deep

  -- room for the locals of a method that is called
  pub has_room_for_call : (n k : ℕ) → length fs + 1 < depth → n + k ≤ room → length values + k ≤ capacity
  has_room_for_call n k more fits =
      value_stacks.room_for_call values running (reverse below) f fs s.lays room depth capacity s.fit more s.large k (omega (arith, fits))

  -- room for a further frame
  pub has_depth : length fs + 1 < depth → length below < most_below
  has_depth more = omega (arith, more, count_below, s.deep)

  pub after_call : (method n : ℕ) (kinds : List ValueKind) (object : Option Addr) → length fs + 1 < depth → n ≤ length f.stack → n + length kinds ≤ room
      → Holds (values ++ map zero_value kinds)
      (record { method = method; pc = 0; constructed = object; arguments = length values - n; locals = length values; stack = length values + length kinds })
      (below ++ running ∷ []) depth room capacity most_below (with_call m method n kinds object)
  after_call method n kinds object more less fits =
      let order : reverse (below ++ running ∷ []) ≡ running ∷ reverse below = reverse-append below (running ∷ []) in
      let new : Activation = record { method = method; pc = 0; constructed = object; arguments = length values - n; locals = length values; stack = length values + length kinds } in
      let count = length-map kinds zero_value in
      let taken = length-reverse (take n f.stack) ∙ length-take-le n f.stack less in
      let long = length_append_one below running in
      let left = length_drop n f.stack in
      let first = s.fit.0 in
      holds (values ++ map zero_value kinds) new (below ++ running ∷ []) depth room capacity most_below
      (new_frame method (reverse (take n f.stack)) kinds object) (record f { stack = drop n f.stack } ∷ fs)
      (subst (λ b. Lays (values ++ map zero_value kinds) new b (new_frame method (reverse (take n f.stack)) kinds object) (record f { stack = drop n f.stack } ∷ fs)) (sym order)
      (value_stacks.called values running (reverse below) f fs s.lays method n kinds object less))
      (omega (arith, count, taken, fits), (omega (arith, first, left), s.fit.1))
      (omega (arith, long, count_below, more)) s.large s.deep
    where
      length_append_one : (xs : List Activation) (a : Activation) → length (xs ++ a ∷ []) ≡ length xs + 1
      length_append_one [] a = refl
      length_append_one (x ∷ xs) a = let ih = length_append_one xs a in omega (arith, ih)

      length_drop : (k : ℕ) (xs : List Value) → length (drop k xs) ≤ length xs
      length_drop zero xs = omega arith
      length_drop (suc k) [] = omega arith
      length_drop (suc k) (x ∷ xs) = let ih = length_drop k xs in omega (arith, ih)

  pub after_return : (next : Activation) (rest : List Activation) → 0 < length fs → below ≡ rest ++ next ∷ [] → Holds (take running.arguments values) next rest depth room capacity most_below (return_frames m)
  after_return next rest some e = by fs refl
    where
      order : reverse below ≡ next ∷ reverse rest
      order = ap reverse e ∙ reverse-append rest (next ∷ [])

      returned_is : (frames : List Frame) (g : Frame) (gs : List Frame) → fs ≡ frames → frames ≡ g ∷ gs → return_frames m ≡ record m { running = g; below = gs }
      returned_is frames g gs here is = rw (here ∙ is) refl

      by : (frames : List Frame) → fs ≡ frames → Holds (take running.arguments values) next rest depth room capacity most_below (return_frames m)
      by [] here = let none = rw here at some in absurd (omega (arith, none))
      by (g ∷ gs) here =
          let laid : Lays values running (next ∷ reverse rest) f (g ∷ gs) =
          subst (λ b. Lays values running b f (g ∷ gs)) order (subst (λ x. Lays values running (reverse below) f x) here s.lays) in
          let fit : Fit room (f ∷ g ∷ gs) = subst (λ x. Fit room (f ∷ x)) here s.fit in
          let long : length below ≡ length rest + 1 = ap length e ∙ length-append rest (next ∷ []) in
          subst (λ x. Holds (take running.arguments values) next rest depth room capacity most_below x) (sym (returned_is (g ∷ gs) g gs here refl))
          (holds (take running.arguments values) next rest depth room capacity most_below g gs
          (value_stacks.back values running next (reverse rest) f g gs laid) fit.1 (omega (arith, long, s.few)) s.large s.deep)

  -- ---- the references

  -- the activations from the first frame on
  upward_is : reverse (activations (f ∷ fs)) ≡ below ++ running ∷ []
  upward_is =
      ap reverse (ap (λ a. a ∷ activations fs) (sym s.lays.running_is) ∙ ap (λ xs. running ∷ xs) (sym s.lays.below_are))
      ∙ reverse-append (running ∷ []) (reverse below)
      ∙ ap (λ xs. xs ++ running ∷ []) (reverse-reverse below)

  -- an activation, and what callers see of its frame
  pub record IsActivationAt (n : ℕ) (a : Activation) : Type 0 where
    pub begins : a.arguments ≡ length (value_stack (lowest n (f ∷ fs)))
    pub constructed : option_map (λ (x : Frame). x.constructed) (slice_get (frames_upward m) n) ≡ Some a.constructed

  activation_at : (n : ℕ) (a : Activation) → slice_get (below ++ running ∷ []) n ≡ Some a → IsActivationAt n a
  activation_at n a e =
      let there = ap (λ xs. slice_get xs n) upward_is ∙ e in
      record { begins = upward.begins_there (f ∷ fs) n a there; constructed = upward.constructed_there (f ∷ fs) n a there }

  pub below_at : (n : ℕ) (a : Activation) → n < length below → a ≡ get_or below n a → IsActivationAt n a
  below_at n a less is = activation_at n a (get_before below (running ∷ []) n a (slice_get_read below (length below) n a refl less is))

  pub last_at : (n : ℕ) → n ≡ length below → IsActivationAt n running
  last_at n last = activation_at n running (ap (slice_get (below ++ running ∷ [])) last ∙ last_is_there below running)

  pub ends_at : (n : ℕ) → n ≡ length below + 1 → length values ≡ length (value_stack (lowest n (f ∷ fs)))
  ends_at n all =
      let every : n ≡ length (f ∷ fs) = omega (arith, all, count_below) in
      ap length s.lays.values_are
      ∙ ap (λ gs. length (value_stack gs)) (sym (upward.lowest_all (f ∷ fs)))
      ∙ ap (λ k. length (value_stack (lowest k (f ∷ fs)))) (sym every)

  pub part_at : (n : ℕ) → n ≤ length fs → option_map values_of (slice_get (frames_upward m) n) ≡ Some (take (length (value_stack (lowest (n + 1) (f ∷ fs))) - length (value_stack (lowest n (f ∷ fs)))) (drop (length (value_stack (lowest n (f ∷ fs)))) values))
  part_at n few =
      let part = upward.part_is (f ∷ fs) n (omega (arith, few)) in
      part ∙ ap (λ xs. Some (take (length (value_stack (lowest (n + 1) (f ∷ fs))) - length (value_stack (lowest n (f ∷ fs)))) (drop (length (value_stack (lowest n (f ∷ fs)))) xs))) (sym s.lays.values_are)

  pub part_within : (n : ℕ) → n ≤ length fs → (length (value_stack (lowest n (f ∷ fs))) ≤ length (value_stack (lowest (n + 1) (f ∷ fs)))) × (length (value_stack (lowest (n + 1) (f ∷ fs))) ≤ length values)
  part_within n few =
      let less : n < length (f ∷ fs) = omega (arith, few) in
      (upward.in_order (f ∷ fs) n less, subst (λ xs. length (value_stack (lowest (n + 1) (f ∷ fs))) ≤ length xs) (sym s.lays.values_are) (upward.within_row (f ∷ fs) n less))

  -- what holds of the roots holds of each reference in the memory
  pub record Reaches (P : Addr → Type 0) : Type 0 where
    pub in_values : All (λ v. IfSome (reference_in v) P) values
    pub in_running : IfSome running.constructed P
    pub in_below : All (λ (a : Activation). IfSome a.constructed P) below

  pub reaches : (P : Addr → Type 0) → All P (roots m) → Reaches P
  reaches P h =
      let apart = replacing.roots_apart P (f ∷ fs) h in
      let there = replacing.all_where_some P reference_in (value_stack (f ∷ fs)) apart.0 in
      let made = replacing.all_where_some P (λ (a : Activation). a.constructed) (activations (f ∷ fs)) apart.1 in
      let holds_of : Activation → Type 0 = λ a. IfSome a.constructed P in
      record {
        in_values = subst (All (λ v. IfSome (reference_in v) P)) (sym s.lays.values_are) there;
        in_running = subst holds_of (sym s.lays.running_is) (All-head holds_of (activation fs f) (activations fs) made);
        in_below = replacing.all_from_reverse holds_of below (subst (All holds_of) (sym s.lays.below_are) (All-tail holds_of (activation fs f) (activations fs) made));
      }

  pub after_replacing : (g : Addr → Addr) → Holds (map (with_reference g) values) (with_constructed g running) (map (with_constructed g) below) depth room capacity most_below (with_references g m)
  after_replacing g =
      let order = replacing.map-reverse (with_constructed g) below in
      let count = length-map below (with_constructed g) in
      holds (map (with_reference g) values) (with_constructed g running) (map (with_constructed g) below) depth room capacity most_below (frame_with_references g f) (map (frame_with_references g) fs)
      (subst (λ b. Lays (map (with_reference g) values) (with_constructed g running) b (frame_with_references g f) (map (frame_with_references g) fs)) order
      (replacing.lays_replaced g values running (reverse below) f fs s.lays))
      (replacing.fit_replaced g room (f ∷ fs) s.fit) (omega (arith, count, s.few)) s.large s.deep

  -- the same where these lists were written over the old ones, which are as long
  pub after_writing : (g : Addr → Addr) (values' : List Value) (running' : Activation) (below' : List Activation) (n k : ℕ)
      → values' ≡ map (with_reference g) values → running' ≡ with_constructed g running → below' ≡ map (with_constructed g) below → n ≡ length values → k ≡ length below
      → Holds (take n (values' ++ drop (length values') values)) running' (take k (below' ++ drop (length below') below)) depth room capacity most_below (with_references g m)
  after_writing g values' running' below' n k values_are running_is below_are long deep =
      rw (values_are, running_is, below_are, written values (with_reference g) n long, written below (with_constructed g) k deep) (after_replacing g)
    where
      written : {X : Type 0} (xs : List X) (h : X → X) (n : ℕ) → n ≡ length xs → take n (map h xs ++ drop (length (map h xs)) xs) ≡ map h xs
      written xs h n long =
          ap (λ k. take k (map h xs ++ drop (length (map h xs)) xs)) (long ∙ sym (length-map xs h)) ∙ take-append_seam (map h xs) (drop (length (map h xs)) xs)

-- ---- the running frame of another memory

module _ {values : List Value} {running : Activation} {below : List Activation} {depth room capacity most_below : ℕ} (s : IsSoundStack values running below depth room capacity most_below)
    {values' : List Value} {running' : Activation} {below' : List Activation} {depth' room' capacity' most_below' : ℕ} (s' : IsSoundStack values' running' below' depth' room' capacity' most_below') (fits : room' ≤ room) where
  abbrev old : Frames
  old = visible_frames values running below depth room

  abbrev other : Frames
  other = visible_frames values' running' below' depth' room'

  starts : running.arguments ≡ length (value_stack old.below)
  starts = ap (λ (a : Activation). a.arguments) s.lays.running_is

  starts' : running'.arguments ≡ length (value_stack other.below)
  starts' = ap (λ (a : Activation). a.arguments) s'.lays.running_is

  locals' : running'.locals ≡ length (value_stack other.below) + length other.running.arguments
  locals' = ap (λ (a : Activation). a.locals) s'.lays.running_is

  stack' : running'.stack ≡ length (value_stack other.below) + (length other.running.arguments + length other.running.locals)
  stack' = ap (λ (a : Activation). a.stack) s'.lays.running_is

  pub in_order : (running'.arguments ≤ running'.locals) × (running'.locals ≤ running'.stack)
  in_order = (omega (arith, starts', locals'), omega (arith, locals', stack'))

  kept : take running.arguments values ≡ value_stack old.below
  kept = ap (λ n. take n values) starts ∙ ap (take (length (value_stack old.below))) s.lays.values_are ∙ take-append_seam (value_stack old.below) (values_of old.running)

  taken : drop running'.arguments values' ≡ values_of other.running
  taken = ap (λ n. drop n values') starts' ∙ ap (drop (length (value_stack other.below))) s'.lays.values_are ∙ drop-append_seam (value_stack other.below) (values_of other.running)

  -- room for all of it
  pub room_for_other : length (take running.arguments values) + length (drop running'.arguments values') ≤ capacity
  room_for_other =
      let count = count_below s in
      let less = value_stacks.length-value_stack room old.below s.fit.1 in
      let long = ap length taken ∙ value_stacks.length-values_of other.running in
      let few = s.few in
      let own = s'.fit.0 in
      let all : (length old.below + 1) * room ≤ depth * room = mul-le (length old.below + 1) room depth room (omega (arith, count, few)) (omega arith) in
      let split : (length old.below + 1) * room ≡ length old.below * room + room = omega arith in
      let large = s.large in
      omega (arith, ap length kept, less, long, own, all, split, large, fits)

  moved_is : moved_to running.arguments running' ≡ activation old.below other.running
  moved_is =
      let first : running.arguments + (running'.locals - running'.arguments) ≡ length (value_stack old.below) + length other.running.arguments = omega (arith, starts, starts', locals') in
      let second : running.arguments + (running'.stack - running'.arguments) ≡ length (value_stack old.below) + (length other.running.arguments + length other.running.locals) = omega (arith, starts, starts', stack') in
      (λ i. record running' { arguments = starts i; locals = first i; stack = second i })
      ∙ ap (λ (a : Activation). record a { arguments = length (value_stack old.below); locals = length (value_stack old.below) + length other.running.arguments; stack = length (value_stack old.below) + (length other.running.arguments + length other.running.locals) }) s'.lays.running_is

  pub after_set : Holds (take running.arguments values ++ drop running'.arguments values') (moved_to running.arguments running') below depth room capacity most_below (with_running old other.running)
  after_set =
      let own = s'.fit.0 in
      holds (take running.arguments values ++ drop running'.arguments values') (moved_to running.arguments running') below depth room capacity most_below other.running old.below
      (record {
        values_are = ap (λ xs. xs ++ drop running'.arguments values') kept ∙ ap (λ xs. value_stack old.below ++ xs) taken;
        running_is = moved_is;
        below_are = s.lays.below_are;
      })
      (omega (arith, own, fits), s.fit.1) s.few s.large s.deep

  -- the same under equations
  pub is_set : (new : List Value) (now : Activation) (capacity_now : ℕ) → new ≡ take running.arguments values ++ drop running'.arguments values' → now ≡ moved_to running.arguments running' → capacity_now ≡ capacity
      → Holds new now below depth room capacity_now most_below (with_running old other.running)
  is_set new now capacity_now values_are running_is same = rw (values_are, running_is, same) after_set

-- ---- one frame in two memories

module _ {values : List Value} {running : Activation} {below : List Activation} {depth room capacity most_below : ℕ} (s : IsSoundStack values running below depth room capacity most_below) where
  -- the running frame lies in its own values
  pub own_values : drop running.arguments values ≡ values_of (visible_frames values running below depth room).running
  own_values =
      ap (λ n. drop n values) (ap (λ (a : Activation). a.arguments) s.lays.running_is)
      ∙ ap (drop (length (value_stack (visible_frames values running below depth room).below))) s.lays.values_are
      ∙ drop-append_seam (value_stack (visible_frames values running below depth room).below) (values_of (visible_frames values running below depth room).running)

  own_activation : moved_to 0 running ≡ activation [] (visible_frames values running below depth room).running
  own_activation =
      let g = (visible_frames values running below depth room).running in
      let gs = (visible_frames values running below depth room).below in
      let starts : running.arguments ≡ length (value_stack gs) = ap (λ (a : Activation). a.arguments) s.lays.running_is in
      let locals : running.locals ≡ length (value_stack gs) + length g.arguments = ap (λ (a : Activation). a.locals) s.lays.running_is in
      let stack : running.stack ≡ length (value_stack gs) + (length g.arguments + length g.locals) = ap (λ (a : Activation). a.stack) s.lays.running_is in
      let first : 0 + (running.locals - running.arguments) ≡ 0 + length g.arguments = omega (arith, starts, locals) in
      let second : 0 + (running.stack - running.arguments) ≡ 0 + (length g.arguments + length g.locals) = omega (arith, starts, stack) in
      (λ i. record running { arguments = 0; locals = first i; stack = second i })
      ∙ ap (λ (a : Activation). record a { arguments = 0; locals = 0 + length g.arguments; stack = 0 + (length g.arguments + length g.locals) }) s.lays.running_is

  pub own_frame : frame_of (drop running.arguments values) (moved_to 0 running) ≡ (visible_frames values running below depth room).running
  own_frame = ap (λ xs. frame_of xs (moved_to 0 running)) own_values ∙ ap (frame_of (values_of (visible_frames values running below depth room).running)) own_activation ∙ value_stacks.frame_there [] (visible_frames values running below depth room).running
