-- The references of all frames replaced: what the value stack holds then, and that each of them is asked for.
use Rattle.std.proofs.Common.{◌≡◌, ℕ, ◌+◌, ◌-◌, ◌<◌, ◌≤◌, List, [], ◌∷◌, ◌++◌, length, take, drop, set, get_or, refl, sym, ap, subst, ◌∙◌, arith, length-append, append-nil}
use Rattle.std.specs.Prelude.{option_map, pos, reverse, map, Option, Some, None, option_to_list, filter_map, flat_map, All, IfSome}
use Rattle.std.specs.List.{cons_option, AllByRecursion}
use Rattle.std.proofs.Math.Seq.{take-append_seam, drop-append_seam}
use Rattle.std.proofs.lemmas.List.{map-append, reverse-append, reverse-reverse, length-reverse, length-map, length-take-le, length-drop, get_or-reverse, get_or-append-add, get_or_default, take_all, drop_all, drop_more}
use Rattle.std.proofs.lemmas.List.Edits.{map_over_more}
use Rattle.std.proofs.lemmas.List.Concat.{flat_map-append}
use Rattle.std.proofs.lemmas.List.Elements.{All-from_recursion, recursion_from_All, All-cons, All-head, All-append, All-take, All-drop, filter_map-append}
use Rattle.object_memory.specs.declared.addresses.Addr.{Addr}
use Rattle.object_memory.specs.declared.values.Value.{Value}
use Rattle.object_memory.specs.declared.values.Value.TheVariants.{Int32, Int64, Native, Ref}
use Rattle.threads_monitors.specs.declared.frames.Activation.{Activation}
use Rattle.threads_monitors.specs.Frames.{Frame, Frames}
use Rattle.threads_monitors.specs.Roots.{IsAnswer, frames_upward, values_of, reference_in, frame_roots, roots, with_reference, frame_with_references, with_references}
use Rattle.threads_monitors.specs.Activations.{value_stack, activation, activations, with_constructed, Lays, Fit}

pub map-reverse : {A B : Type 0} (f : A → B) (xs : List A) → map f (reverse xs) ≡ reverse (map f xs)
map-reverse f [] = refl
map-reverse f (x ∷ xs) =
    ap (map f) (reverse-append (x ∷ []) xs)
    ∙ map-append f (reverse xs) (x ∷ [])
    ∙ ap (λ ys. ys ++ f x ∷ []) (map-reverse f xs)
    ∙ sym (reverse-append (f x ∷ []) (map f xs))

-- ---- what the value stack holds

module _ (g : Addr → Addr) where
  abbrev value : Value → Value
  value = with_reference g

  abbrev frame : Frame → Frame
  frame = frame_with_references g

  values_replaced : (f : Frame) → map value (values_of f) ≡ values_of (frame f)
  values_replaced f =
      map-append value f.arguments (f.locals ++ reverse f.stack)
      ∙ ap (λ xs. map value f.arguments ++ xs) (map-append value f.locals (reverse f.stack)
      ∙ ap (λ xs. map value f.locals ++ xs) (map-reverse value f.stack))

  value_stack_replaced : (fs : List Frame) → map value (value_stack fs) ≡ value_stack (map frame fs)
  value_stack_replaced [] = refl
  value_stack_replaced (f ∷ fs) =
      map-append value (value_stack fs) (values_of f)
      ∙ ap (λ xs. xs ++ map value (values_of f)) (value_stack_replaced fs)
      ∙ ap (λ xs. value_stack (map frame fs) ++ xs) (values_replaced f)

  length_value_stack : (fs : List Frame) → length (value_stack fs) ≡ length (value_stack (map frame fs))
  length_value_stack fs = sym (length-map (value_stack fs) value) ∙ ap length (value_stack_replaced fs)

  activation_replaced : (fs : List Frame) (f : Frame) → with_constructed g (activation fs f) ≡ activation (map frame fs) (frame f)
  activation_replaced fs f =
      let arguments : length f.arguments ≡ length (map value f.arguments) = sym (length-map f.arguments value) in
      let locals : length f.locals ≡ length (map value f.locals) = sym (length-map f.locals value) in
      rw (← length_value_stack fs, ← arguments, ← locals) refl

  activations_replaced : (fs : List Frame) → map (with_constructed g) (activations fs) ≡ activations (map frame fs)
  activations_replaced [] = refl
  activations_replaced (f ∷ fs) =
      ap (λ a. a ∷ map (with_constructed g) (activations fs)) (activation_replaced fs f)
      ∙ ap (λ xs. activation (map frame fs) (frame f) ∷ xs) (activations_replaced fs)

  pub lays_replaced : (values : List Value) (running : Activation) (below : List Activation) (f : Frame) (fs : List Frame)
      → Lays values running below f fs
      → Lays (map value values) (with_constructed g running) (map (with_constructed g) below) (frame f) (map frame fs)
  lays_replaced values running below f fs l =
      record {
        values_are = ap (map value) l.values_are ∙ value_stack_replaced (f ∷ fs);
        running_is = ap (with_constructed g) l.running_is ∙ activation_replaced fs f;
        below_are = ap (map (with_constructed g)) l.below_are ∙ activations_replaced fs;
      }

  pub fit_replaced : (room : ℕ) (fs : List Frame) → Fit room fs → Fit room (map frame fs)
  fit_replaced room [] fit = tt
  fit_replaced room (f ∷ fs) fit =
      let arguments = length-map f.arguments value in
      let locals = length-map f.locals value in
      let stack = length-map f.stack value in
      let first = fit.0 in
      (omega (arith, arguments, locals, stack, first), fit_replaced room fs fit.1)

-- ---- the roots afterwards

module _ (g : Addr → Addr) where
  reference_replaced : (v : Value) → reference_in (with_reference g v) ≡ option_map g (reference_in v)
  reference_replaced (Int32 n) = refl
  reference_replaced (Int64 n) = refl
  reference_replaced (Native n) = refl
  reference_replaced (Ref a) = refl

  map-cons_option : (o : Option Addr) (xs : List Addr) → map g (cons_option o xs) ≡ cons_option (option_map g o) (map g xs)
  map-cons_option None xs = refl
  map-cons_option (Some a) xs = refl

  references_replaced : (vs : List Value) → filter_map reference_in (map (with_reference g) vs) ≡ map g (filter_map reference_in vs)
  references_replaced [] = refl
  references_replaced (v ∷ vs) =
      ap (λ o. cons_option o (filter_map reference_in (map (with_reference g) vs))) (reference_replaced v)
      ∙ ap (cons_option (option_map g (reference_in v))) (references_replaced vs)
      ∙ sym (map-cons_option (reference_in v) (filter_map reference_in vs))

  map-option_to_list : (o : Option Addr) → option_to_list (option_map g o) ≡ map g (option_to_list o)
  map-option_to_list None = refl
  map-option_to_list (Some a) = refl

  frame_roots_replaced : (f : Frame) → frame_roots (frame_with_references g f) ≡ map g (frame_roots f)
  frame_roots_replaced f =
      ap (λ vs. filter_map reference_in vs ++ option_to_list (option_map g f.constructed)) (sym (values_replaced g f))
      ∙ ap (λ xs. xs ++ option_to_list (option_map g f.constructed)) (references_replaced (values_of f))
      ∙ ap (λ xs. map g (filter_map reference_in (values_of f)) ++ xs) (map-option_to_list f.constructed)
      ∙ sym (map-append g (filter_map reference_in (values_of f)) (option_to_list f.constructed))

  all_roots_replaced : (fs : List Frame) → flat_map frame_roots (map (frame_with_references g) fs) ≡ map g (flat_map frame_roots fs)
  all_roots_replaced [] = refl
  all_roots_replaced (f ∷ fs) =
      ap (λ xs. xs ++ flat_map frame_roots (map (frame_with_references g) fs)) (frame_roots_replaced f)
      ∙ ap (λ xs. map g (frame_roots f) ++ xs) (all_roots_replaced fs)
      ∙ sym (map-append g (frame_roots f) (flat_map frame_roots fs))

  pub roots_replaced : (m : Frames) → roots (with_references g m) ≡ map g (roots m)
  roots_replaced m =
      ap (flat_map frame_roots) (sym (map-reverse (frame_with_references g) (m.running ∷ m.below)))
      ∙ all_roots_replaced (frames_upward m)

-- ---- each reference of a frame is among the roots

module _ (P : Addr → Type 0) where
  all_of_first : (xs ys : List Addr) → All P (xs ++ ys) → All P xs
  all_of_first xs ys h = subst (All P) (take-append_seam xs ys) (All-take P (length xs) (xs ++ ys) h)

  all_of_second : (xs ys : List Addr) → All P (xs ++ ys) → All P ys
  all_of_second xs ys h = subst (All P) (drop-append_seam xs ys) (All-drop P (length xs) (xs ++ ys) h)

  all_with_option : (o : Option Addr) (xs : List Addr) → All P (option_to_list o) → All P xs → All P (cons_option o xs)
  all_with_option None xs h k = k
  all_with_option (Some a) xs h k = All-cons P a xs (All-head P a [] h) k

  pub all_where_some : {X : Type 0} (h : X → Option Addr) (xs : List X) → All P (filter_map h xs) → All (λ x. IfSome (h x) P) xs
  all_where_some h xs all = All-from_recursion (λ x. IfSome (h x) P) xs (each xs (recursion_from_All P (filter_map h xs) all))
    where
      one : (o : Option Addr) (rest : List Addr) → AllByRecursion P (cons_option o rest) → IfSome o P × AllByRecursion P rest
      one None rest k = (tt, k)
      one (Some a) rest k = k

      each : (xs : _) → AllByRecursion P (filter_map h xs) → AllByRecursion (λ x. IfSome (h x) P) xs
      each [] k = tt
      each (x ∷ xs) k = let both = one (h x) (filter_map h xs) k in (both.0, each xs both.1)

  abbrev AreBoth : List Frame → Type 0
  AreBoth fs = All P (filter_map reference_in (value_stack fs)) × All P (filter_map (λ (a : Activation). a.constructed) (activations fs))

  pub roots_apart : (fs : List Frame) → All P (flat_map frame_roots (reverse fs)) → AreBoth fs
  roots_apart [] h = (h, h)
  roots_apart (f ∷ fs) h =
      let order : flat_map frame_roots (reverse (f ∷ fs)) ≡ flat_map frame_roots (reverse fs) ++ frame_roots f =
      ap (flat_map frame_roots) (reverse-append (f ∷ []) fs)
      ∙ flat_map-append frame_roots (reverse fs) (f ∷ [])
      ∙ ap (λ xs. flat_map frame_roots (reverse fs) ++ xs) (append-nil (frame_roots f)) in
      let split = subst (All P) order h in
      let lower = roots_apart fs (all_of_first (flat_map frame_roots (reverse fs)) (frame_roots f) split) in
      let own = all_of_second (flat_map frame_roots (reverse fs)) (frame_roots f) split in
      let values = filter_map reference_in (values_of f) in (
        subst (All P) (sym (filter_map-append reference_in (value_stack fs) (values_of f)))
            (All-append P (filter_map reference_in (value_stack fs)) values lower.0 (all_of_first values (option_to_list f.constructed) own)),
        all_with_option f.constructed (filter_map (λ (a : Activation). a.constructed) (activations fs)) (all_of_second values (option_to_list f.constructed) own) lower.1,
      )

all_reversed : {X : Type 0} (P : X → Type 0) (xs : List X) → All P xs → All P (reverse xs)
all_reversed P xs h k d less =
    let long = length-reverse xs in
    let within : k < length xs = omega (arith, less, long) in
    subst P (sym (get_or-reverse xs k d within)) (h (length xs - 1 - k) d (omega (arith, within)))

pub all_from_reverse : {X : Type 0} (P : X → Type 0) (xs : List X) → All P (reverse xs) → All P xs
all_from_reverse P xs h = subst (All P) (reverse-reverse xs) (all_reversed P (reverse xs) h)

-- ---- a loop that replaces one after another

pub asked : (pre : Addr → Type 0) (post : Addr → Addr → Type 0) (g : Addr → Addr) (o : Option Addr) → IfSome o (IsAnswer pre post g) → IfSome o pre
asked pre post g None h = tt
asked pre post g (Some a) h = h.0

-- what a value stack has at an index that it does not have
abbrev pub no_value : Value
no_value = Int32 (pos 0)

abbrev pub no_activation : Activation
no_activation = record { method = 0; pc = 0; constructed = None; arguments = 0; locals = 0; stack = 0 }

module _ {X : Type 0} (h : X → X) (xs ys : List X) (i : ℕ) (d : X) (within : i < length xs) (so_far : ys ≡ map h (take i xs) ++ drop i xs) where
  not_yet : get_or ys i d ≡ get_or xs i d
  not_yet =
      let first : length (map h (take i xs)) ≡ i = length-map (take i xs) h ∙ length-take-le i xs (omega (arith, within)) in
      let there : i ≡ length (map h (take i xs)) + 0 = omega (arith, first) in
      ap (λ zs. get_or zs i d) so_far
      ∙ ap (λ n. get_or (map h (take i xs) ++ drop i xs) n d) there
      ∙ get_or-append-add (map h (take i xs)) (drop i xs) 0 d
      ∙ ap (λ zs. get_or zs 0 d) (drop_more xs i d within)

  -- the next one may be asked for, and its result is what the function returns
  module _ (part : X → Option Addr) (pre : Addr → Type 0) (post : Addr → Addr → Type 0) (g : Addr → Addr) (all : All (λ x. IfSome (part x) (IsAnswer pre post g)) xs) where
    pub is_answered : IfSome (part (get_or ys i d)) (IsAnswer pre post g)
    is_answered = subst (λ x. IfSome (part x) (IsAnswer pre post g)) (sym not_yet) (all i d within)

    pub may_be_asked : IfSome (part (get_or ys i d)) pre
    may_be_asked = asked pre post g (part (get_or ys i d)) is_answered

  pub one_more : (new : X) → new ≡ h (get_or ys i d) → set ys i new ≡ map h (take (i + 1) xs) ++ drop (i + 1) xs
  one_more new is =
      let long : length ys ≡ length xs = ap length so_far ∙ length-append (map h (take i xs)) (drop i xs) ∙ both in
      ap (set ys i) is ∙ map_over_more h xs ys i (get_or ys i d) within so_far (get_or_default ys i d (get_or ys i d) (omega (arith, long, within)))
    where
      both : length (map h (take i xs)) + length (drop i xs) ≡ length xs
      both =
          let first = length-map (take i xs) h ∙ length-take-le i xs (omega (arith, within)) in
          let rest = length-drop i xs in
          omega (arith, first, rest, within)

pub all_replaced : {X : Type 0} (h : X → X) (xs ys : List X) (i : ℕ) → length xs ≤ i → ys ≡ map h (take i xs) ++ drop i xs → ys ≡ map h xs
all_replaced h xs ys i past so_far =
    so_far
    ∙ ap (λ zs. map h zs ++ drop i xs) (take_all i xs past)
    ∙ ap (λ zs. map h xs ++ zs) (drop_all i xs past)
    ∙ append-nil (map h xs)
