-- The value stack: the frames in it are those that were laid there, and what each call of the memory makes of it.
use Rattle.std.proofs.Common.{◌≡◌, ℕ, ◌+◌, ◌-◌, ◌*◌, ◌<◌, ◌≤◌, List, [], ◌∷◌, ◌++◌, length, take, drop, set, get_or, refl, sym, ap, subst, ◌∙◌, arith, length-append, append_assoc, append-nil}
use Rattle.std.specs.Prelude.{reverse, map, slice_get, Option, Some}
use Rattle.std.proofs.Math.ListN.{length-set, get_or-append}
use Rattle.std.proofs.Math.Seq.{take-append_seam, drop-append_seam, drop-append-add}
use Rattle.std.proofs.lemmas.List.{reverse-append, reverse-reverse, length-reverse, set-append_left, set-append_right, get_or-append-add, take-append-drop, length-take-le, length-map, get_or-reverse, take_more, map_more}
use Rattle.std.proofs.lemmas.List.Edits.{insert-append_right}
use Rattle.std.specs.List.{insert}
use Rattle.std.proofs.lemmas.Nat.{mul-le}
use Rattle.std.proofs.lemmas.Option.{slice_get-get_or}
use Rattle.object_memory.specs.declared.addresses.Addr.{Addr}
use Rattle.object_memory.specs.declared.values.Value.{Value}
use Rattle.cil_model.specs.declared.values.ValueKind.{ValueKind}
use Rattle.threads_monitors.specs.declared.frames.Activation.{Activation}
use Rattle.threads_monitors.specs.Frames.{Frame, size, zero_value, new_frame}
use Rattle.threads_monitors.specs.Roots.{values_of}
use Rattle.threads_monitors.specs.Activations.{value_stack, activation, activations, frame_of, frames_of, Lays, Fit}

-- ---- what is appended one by one

pub one_more : {X : Type 0} (old before after more : List X) (n : ℕ) (d : X) → n < length more → before ≡ old ++ take n more → after ≡ before ++ get_or more n d ∷ [] → after ≡ old ++ take (n + 1) more
one_more old before after more n d less had now =
    now ∙ ap (λ xs. xs ++ get_or more n d ∷ []) had ∙ append_assoc old (take n more) (get_or more n d ∷ []) ∙ ap (λ xs. old ++ xs) (sym (take_more more n d less))

pub one_made_more : {X Y : Type 0} (h : X → Y) (old before after : List Y) (more : List X) (n : ℕ) (d : X) (y : Y) → n < length more → before ≡ old ++ map h (take n more) → y ≡ h (get_or more n d) → after ≡ before ++ y ∷ [] → after ≡ old ++ map h (take (n + 1) more)
one_made_more h old before after more n d y less had made now =
    now ∙ ap (λ x. before ++ x ∷ []) made ∙ ap (λ xs. xs ++ h (get_or more n d) ∷ []) had ∙ append_assoc old (map h (take n more)) (h (get_or more n d) ∷ []) ∙ ap (λ xs. old ++ xs) (sym (map_more h more n d less))

-- ---- what a value stack holds

module _ (fs : List Frame) (f : Frame) where
  base : ℕ
  base = length (value_stack fs)

  there : (n : ℕ) → drop (length (value_stack fs) + n) (value_stack fs ++ values_of f) ≡ drop n (values_of f)
  there n = drop-append-add (value_stack fs) (values_of f) n

  arguments_there : take (length (value_stack fs) + length f.arguments - length (value_stack fs)) (drop (length (value_stack fs)) (value_stack fs ++ values_of f)) ≡ f.arguments
  arguments_there =
      let many : length (value_stack fs) + length f.arguments - length (value_stack fs) ≡ length f.arguments = omega arith in
      rw (drop-append_seam (value_stack fs) (values_of f), many) (take-append_seam f.arguments (f.locals ++ reverse f.stack))

  locals_there : take (length (value_stack fs) + (length f.arguments + length f.locals) - (length (value_stack fs) + length f.arguments)) (drop (length (value_stack fs) + length f.arguments) (value_stack fs ++ values_of f)) ≡ f.locals
  locals_there =
      let many : length (value_stack fs) + (length f.arguments + length f.locals) - (length (value_stack fs) + length f.arguments) ≡ length f.locals = omega arith in
      rw (there (length f.arguments), many, drop-append_seam f.arguments (f.locals ++ reverse f.stack)) (take-append_seam f.locals (reverse f.stack))

  stack_there : reverse (drop (length (value_stack fs) + (length f.arguments + length f.locals)) (value_stack fs ++ values_of f)) ≡ f.stack
  stack_there =
      rw (there (length f.arguments + length f.locals), drop-append-add f.arguments (f.locals ++ reverse f.stack) (length f.locals), drop-append_seam f.locals (reverse f.stack))
      (reverse-reverse f.stack)

  pub frame_there : frame_of (value_stack fs ++ values_of f) (activation fs f) ≡ f
  frame_there = rw (arguments_there, locals_there, stack_there) refl

frames_there : (fs : List Frame) → frames_of (value_stack fs) (activations fs) ≡ fs
frames_there [] = refl
frames_there (f ∷ fs) = rw (frame_there fs f, take-append_seam (value_stack fs) (values_of f), frames_there fs) refl

pub length-values_of : (f : Frame) → length (values_of f) ≡ size f
length-values_of f =
    let outer = length-append f.arguments (f.locals ++ reverse f.stack) in
    let inner = length-append f.locals (reverse f.stack) in
    let stack = length-reverse f.stack in
    omega (arith, outer, inner, stack)

pub length-value_stack : (room : ℕ) (fs : List Frame) → Fit room fs → length (value_stack fs) ≤ length fs * room
length-value_stack room [] fit = omega arith
length-value_stack room (f ∷ fs) fit =
    let both = length-append (value_stack fs) (values_of f) in
    let own_length = length-values_of f in
    let rest = length-value_stack room fs fit.1 in
    let first = fit.0 in
    let more : length (f ∷ fs) * room ≡ room + length fs * room = omega arith in
    omega (arith, both, own_length, rest, first, more)

-- ---- the frames that a memory shows

module _ (values : List Value) (running : Activation) (below : List Activation) (f : Frame) (fs : List Frame) (l : Lays values running below f fs) where
  pub running_shown : frame_of values running ≡ f
  running_shown = rw (l.values_are, l.running_is) (frame_there fs f)

  pub below_shown : frames_of (take running.arguments values) below ≡ fs
  below_shown = rw (l.values_are, l.running_is, l.below_are, take-append_seam (value_stack fs) (values_of f)) (frames_there fs)

  pub lays_shown : Lays values running below (frame_of values running) (frames_of (take running.arguments values) below)
  lays_shown = rw (running_shown, below_shown) l

  pub fit_shown : (room : ℕ) → Fit room (f ∷ fs) → Fit room (frame_of values running ∷ frames_of (take running.arguments values) below)
  fit_shown room fit =
      let both : frame_of values running ∷ frames_of (take running.arguments values) below ≡ f ∷ fs =
      ap (λ x. x ∷ frames_of (take running.arguments values) below) running_shown ∙ ap (λ xs. f ∷ xs) below_shown in
      subst (λ gs. Fit room gs) (sym both) fit

  pub length_values : length values ≡ length (value_stack fs) + size f
  length_values = ap length l.values_are ∙ length-append (value_stack fs) (values_of f) ∙ ap (λ n. length (value_stack fs) + n) (length-values_of f)

  -- ---- the running frame

  pub pushed : (v : Value) → Lays (values ++ v ∷ []) running below (record f { stack = v ∷ f.stack }) fs
  pushed v =
      let stack : reverse (v ∷ f.stack) ≡ reverse f.stack ++ v ∷ [] = reverse-append (v ∷ []) f.stack in
      let grown : values_of f ++ v ∷ [] ≡ values_of (record f { stack = v ∷ f.stack }) =
      append_assoc f.arguments (f.locals ++ reverse f.stack) (v ∷ [])
      ∙ ap (λ xs. f.arguments ++ xs) (append_assoc f.locals (reverse f.stack) (v ∷ []) ∙ ap (λ xs. f.locals ++ xs) (sym stack)) in
      record {
        values_are = ap (λ xs. xs ++ v ∷ []) l.values_are ∙ append_assoc (value_stack fs) (values_of f) (v ∷ []) ∙ ap (λ xs. value_stack fs ++ xs) grown;
        running_is = l.running_is;
        below_are = l.below_are;
      }

  -- a value below the topmost ones
  module _ (n : ℕ) (v : Value) (fits : n ≤ length f.stack) where
    abbrev above : List Value
    above = reverse (take n f.stack)

    abbrev beneath : List Value
    beneath = reverse (drop n f.stack)

    abbrev head : List Value
    head = value_stack fs ++ (f.arguments ++ (f.locals ++ beneath))

    nested : (t : List Value) → head ++ t ≡ value_stack fs ++ (f.arguments ++ (f.locals ++ (beneath ++ t)))
    nested t =
        append_assoc (value_stack fs) (f.arguments ++ (f.locals ++ beneath)) t
        ∙ ap (λ xs. value_stack fs ++ xs) (append_assoc f.arguments (f.locals ++ beneath) t ∙ ap (λ xs. f.arguments ++ xs) (append_assoc f.locals beneath t))

    split_there : values ≡ head ++ above
    split_there =
        l.values_are
        ∙ ap (λ xs. value_stack fs ++ (f.arguments ++ (f.locals ++ xs))) (ap reverse (sym (take-append-drop n f.stack)) ∙ reverse-append (take n f.stack) (drop n f.stack))
        ∙ sym (nested above)

    pc_there : length values - n ≡ length head
    pc_there =
        let count : length above ≡ n = length-reverse (take n f.stack) ∙ length-take-le n f.stack fits in
        let long : length values ≡ length head + length above = ap length split_there ∙ length-append head above in
        omega (arith, count, long)

    stack_there_then : reverse (take n f.stack ++ v ∷ drop n f.stack) ≡ beneath ++ v ∷ above
    stack_there_then =
        reverse-append (take n f.stack) (v ∷ drop n f.stack)
        ∙ ap (λ xs. xs ++ above) (reverse-append (v ∷ []) (drop n f.stack))
        ∙ append_assoc beneath (v ∷ []) above

    none_left : length head - length head ≡ 0
    none_left = omega arith

    value_stack_then : insert values (length values - n) v ≡ value_stack fs ++ values_of (record f { stack = take n f.stack ++ v ∷ drop n f.stack })
    value_stack_then =
        ap (λ xs. insert xs (length values - n) v) split_there
        ∙ ap (λ k. insert (head ++ above) k v) pc_there
        ∙ insert-append_right head above (length head) (length head) v refl (omega arith)
        ∙ ap (λ k. head ++ insert above k v) none_left
        ∙ nested (v ∷ above)
        ∙ sym (ap (λ xs. value_stack fs ++ (f.arguments ++ (f.locals ++ xs))) stack_there_then)

    pub inserted : Lays (insert values (length values - n) v) running below (record f { stack = take n f.stack ++ v ∷ drop n f.stack }) fs
    inserted = record { values_are = value_stack_then; running_is = l.running_is; below_are = l.below_are }

  -- what lies before the topmost value
  pub record Topped (x : Value) (s : List Value) : Type 0 where
    pub rest : List Value
    pub split : values ≡ rest ++ x ∷ []
    pub lays : Lays rest running below (record f { stack = s }) fs

  pub topped : (x : Value) (s : List Value) → f.stack ≡ x ∷ s → Topped x s
  topped x s e =
      let stack : reverse f.stack ≡ reverse s ++ x ∷ [] = ap reverse e ∙ reverse-append (x ∷ []) s in
      let without : List Value = f.arguments ++ (f.locals ++ reverse s) in
      let grown : values_of f ≡ without ++ x ∷ [] =
      ap (λ xs. f.arguments ++ (f.locals ++ xs)) stack
      ∙ ap (λ xs. f.arguments ++ xs) (sym (append_assoc f.locals (reverse s) (x ∷ [])))
      ∙ sym (append_assoc f.arguments (f.locals ++ reverse s) (x ∷ [])) in
      record {
        rest = value_stack fs ++ without;
        split = l.values_are ∙ ap (λ xs. value_stack fs ++ xs) grown ∙ sym (append_assoc (value_stack fs) without (x ∷ []));
        lays = record { values_are = refl; running_is = l.running_is; below_are = l.below_are };
      }

  -- ---- what lies there

  pub operand_read : (i : ℕ) (d : Value) → i < length f.stack → slice_get f.stack i ≡ Some (get_or values (length values - 1 - i) d)
  operand_read i d less =
      let left = length f.stack - 1 - i in
      let pc : length values - 1 - i ≡ length (value_stack fs) + (length f.arguments + (length f.locals + left)) = omega (arith, length_values, less) in
      let mirrored : i ≡ length f.stack - 1 - left = omega (arith, less) in
      slice_get-get_or f.stack i d less
      ∙ ap Some (ap (λ n. get_or f.stack n d) mirrored ∙ sym (get_or-reverse f.stack left d (omega (arith, less))) ∙ sym (topmost_read left d pc))
    where
      topmost_read : (n : ℕ) (d : Value) → length values - 1 - i ≡ length (value_stack fs) + (length f.arguments + (length f.locals + n)) → get_or values (length values - 1 - i) d ≡ get_or (reverse f.stack) n d
      topmost_read n d pc =
          ap (λ k. get_or values k d) pc
          ∙ ap (λ xs. get_or xs (length (value_stack fs) + (length f.arguments + (length f.locals + n))) d) l.values_are
          ∙ get_or-append-add (value_stack fs) (values_of f) (length f.arguments + (length f.locals + n)) d
          ∙ get_or-append-add f.arguments (f.locals ++ reverse f.stack) (length f.locals + n) d
          ∙ get_or-append-add f.locals (reverse f.stack) n d

  -- ---- arguments and locals

  argument_index : (i : ℕ) → i < length f.arguments → running.arguments + i ≡ length (value_stack fs) + i
  argument_index i less = ap (λ (a : Activation). a.arguments + i) l.running_is

  pub argument_read : (i : ℕ) (d : Value) → i < length f.arguments → slice_get f.arguments i ≡ Some (get_or values (running.arguments + i) d)
  argument_read i d less =
      slice_get-get_or f.arguments i d less
      ∙ ap Some (sym (get_or-append f.arguments (f.locals ++ reverse f.stack) d i less)
      ∙ sym (get_or-append-add (value_stack fs) (values_of f) i d)
      ∙ ap (λ xs. get_or xs (length (value_stack fs) + i) d) (sym l.values_are)
      ∙ ap (λ n. get_or values n d) (sym (argument_index i less)))

  pub argument_inside : (i : ℕ) → i < length f.arguments → running.arguments + i < length values
  argument_inside i less = omega (arith, argument_index i less, length_values)

  pub argument_stored : (i : ℕ) (v : Value) → i < length f.arguments → Lays (set values (running.arguments + i) v) running below (record f { arguments = set f.arguments i v }) fs
  argument_stored i v less =
      let near : length (value_stack fs) + i - length (value_stack fs) ≡ i = omega arith in
      record {
        values_are =
            ap (λ n. set values n v) (argument_index i less)
            ∙ ap (λ xs. set xs (length (value_stack fs) + i) v) l.values_are
            ∙ set-append_right (value_stack fs) (values_of f) (length (value_stack fs)) (length (value_stack fs) + i) v refl (omega arith)
            ∙ ap (λ n. value_stack fs ++ set (values_of f) n v) near
            ∙ ap (λ xs. value_stack fs ++ xs) (set-append_left f.arguments (f.locals ++ reverse f.stack) i v less);
        running_is = l.running_is ∙ ap (λ n. record (activation fs f) { locals = length (value_stack fs) + n; stack = length (value_stack fs) + (n + length f.locals) }) (sym (length-set f.arguments i v));
        below_are = l.below_are;
      }

  local_index : (i : ℕ) → running.locals + i ≡ length (value_stack fs) + (length f.arguments + i)
  local_index i = let locals = ap (λ (a : Activation). a.locals) l.running_is in omega (arith, locals)

  pub local_read : (i : ℕ) (d : Value) → i < length f.locals → slice_get f.locals i ≡ Some (get_or values (running.locals + i) d)
  local_read i d less =
      slice_get-get_or f.locals i d less
      ∙ ap Some (sym (get_or-append f.locals (reverse f.stack) d i less)
      ∙ sym (get_or-append-add f.arguments (f.locals ++ reverse f.stack) i d)
      ∙ sym (get_or-append-add (value_stack fs) (values_of f) (length f.arguments + i) d)
      ∙ ap (λ xs. get_or xs (length (value_stack fs) + (length f.arguments + i)) d) (sym l.values_are)
      ∙ ap (λ n. get_or values n d) (sym (local_index i)))

  pub local_inside : (i : ℕ) → i < length f.locals → running.locals + i < length values
  local_inside i less = omega (arith, local_index i, length_values)

  pub local_stored : (i : ℕ) (v : Value) → i < length f.locals → Lays (set values (running.locals + i) v) running below (record f { locals = set f.locals i v }) fs
  local_stored i v less =
      let arguments = length f.arguments in
      let near : length (value_stack fs) + (arguments + i) - length (value_stack fs) ≡ arguments + i = omega arith in
      let nearer : arguments + i - arguments ≡ i = omega arith in
      record {
        values_are =
            ap (λ n. set values n v) (local_index i)
            ∙ ap (λ xs. set xs (length (value_stack fs) + (arguments + i)) v) l.values_are
            ∙ set-append_right (value_stack fs) (values_of f) (length (value_stack fs)) (length (value_stack fs) + (arguments + i)) v refl (omega arith)
            ∙ ap (λ n. value_stack fs ++ set (values_of f) n v) near
            ∙ ap (λ xs. value_stack fs ++ xs) (set-append_right f.arguments (f.locals ++ reverse f.stack) arguments (arguments + i) v refl (omega arith)
            ∙ ap (λ n. f.arguments ++ set (f.locals ++ reverse f.stack) n v) nearer
            ∙ ap (λ xs. f.arguments ++ xs) (set-append_left f.locals (reverse f.stack) i v less));
        running_is = l.running_is ∙ ap (λ n. record (activation fs f) { stack = length (value_stack fs) + (arguments + n) }) (sym (length-set f.locals i v));
        below_are = l.below_are;
      }

  -- ---- the room

  pub room_above : (room depth capacity : ℕ) → Fit room (f ∷ fs) → length fs + 1 ≤ depth → depth * room ≤ capacity → (n : ℕ) → size f + n ≤ room → length values + n ≤ capacity
  room_above room depth capacity fit few large n fits =
      let value_stacks = length-value_stack room fs fit.1 in
      let own_room : (length fs + 1) * room ≡ length fs * room + room = omega arith in
      let all : (length fs + 1) * room ≤ depth * room = mul-le (length fs + 1) room depth room few (omega arith) in
      omega (arith, length_values, value_stacks, own_room, all, large, fits)

  -- room for a further frame's locals, whatever its arguments
  pub room_for_call : (room depth capacity : ℕ) → Fit room (f ∷ fs) → length fs + 1 < depth → depth * room ≤ capacity → (n : ℕ) → n ≤ room → length values + n ≤ capacity
  room_for_call room depth capacity fit few large n fits =
      let value_stacks = length-value_stack room (f ∷ fs) fit in
      let same = ap length l.values_are in
      let one : length (f ∷ fs) * room + room ≡ (length fs + 2) * room = omega arith in
      let all : (length fs + 2) * room ≤ depth * room = mul-le (length fs + 2) room depth room (omega (arith, few)) (omega arith) in
      omega (arith, value_stacks, same, one, all, large, fits)

  -- ---- calls

  -- the new frame lies above what is left of the running one
  pub called : (method n : ℕ) (kinds : List ValueKind) (object : Option Addr) → n ≤ length f.stack
      → Lays (values ++ map zero_value kinds)
      (record { method = method; pc = 0; constructed = object; arguments = length values - n; locals = length values; stack = length values + length kinds })
      (running ∷ below)
      (new_frame method (reverse (take n f.stack)) kinds object)
      (record f { stack = drop n f.stack } ∷ fs)
  called method n kinds object less =
      let caller : Frame = record f { stack = drop n f.stack } in
      let arguments : List Value = reverse (take n f.stack) in
      let zeros : List Value = map zero_value kinds in
      let stack : reverse f.stack ≡ reverse (drop n f.stack) ++ arguments =
      ap reverse (sym (take-append-drop n f.stack)) ∙ reverse-append (take n f.stack) (drop n f.stack) in
      let own_split : values_of f ≡ values_of caller ++ arguments =
      ap (λ xs. f.arguments ++ (f.locals ++ xs)) stack
      ∙ ap (λ xs. f.arguments ++ xs) (sym (append_assoc f.locals (reverse (drop n f.stack)) arguments))
      ∙ sym (append_assoc f.arguments (f.locals ++ reverse (drop n f.stack)) arguments) in
      let split : values ≡ value_stack (caller ∷ fs) ++ arguments =
      l.values_are ∙ ap (λ xs. value_stack fs ++ xs) own_split ∙ sym (append_assoc (value_stack fs) (values_of caller) arguments) in
      let many : length arguments ≡ n = length-reverse (take n f.stack) ∙ length-take-le n f.stack less in
      let long : length values ≡ length (value_stack (caller ∷ fs)) + length arguments = ap length split ∙ length-append (value_stack (caller ∷ fs)) arguments in
      let from : length values - n ≡ length (value_stack (caller ∷ fs)) = omega (arith, long, many) in
      let count : length (map zero_value kinds) ≡ length kinds = length-map kinds zero_value in
      let top : length values + length kinds ≡ length (value_stack (caller ∷ fs)) + (length arguments + length zeros) = omega (arith, long, count) in
      record {
        values_are =
            ap (λ xs. xs ++ zeros) split
            ∙ append_assoc (value_stack (caller ∷ fs)) arguments zeros
            ∙ ap (λ xs. value_stack (caller ∷ fs) ++ (arguments ++ xs)) (sym (append-nil zeros));
        running_is =
            ap (λ (k : ℕ). record { method = method; pc = 0; constructed = object; arguments = k; locals = length values; stack = length values + length kinds }) from
            ∙ ap (λ (k : ℕ). record { method = method; pc = 0; constructed = object; arguments = length (value_stack (caller ∷ fs)); locals = k; stack = length values + length kinds }) long
            ∙ ap (λ (k : ℕ). record { method = method; pc = 0; constructed = object; arguments = length (value_stack (caller ∷ fs)); locals = length (value_stack (caller ∷ fs)) + length arguments; stack = k }) top;
        below_are = rw (l.running_is, l.below_are) refl;
      }

-- the frame below runs again
pub back : (values : List Value) (running next : Activation) (below : List Activation) (f g : Frame) (fs : List Frame)
    → Lays values running (next ∷ below) f (g ∷ fs) → Lays (take running.arguments values) next below g fs
back values running next below f g fs l =
    let values_are : take running.arguments values ≡ value_stack (g ∷ fs) =
    ap (λ (a : Activation). take a.arguments values) l.running_is
    ∙ ap (take (length (value_stack (g ∷ fs)))) l.values_are
    ∙ take-append_seam (value_stack (g ∷ fs)) (values_of f) in
    record { values_are = values_are; running_is = cc; below_are = cc }
