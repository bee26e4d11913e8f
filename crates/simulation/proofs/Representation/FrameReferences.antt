-- The references in the frames of a thread pass a test exactly where each of its roots does.
use Rattle.std.proofs.Common.{◌≡◌, true, List, [], ◌∷◌, ◌++◌, map, reverse, Option, Some, None, refl, inl, inr, sym, subst}
use Rattle.std.specs.Prelude.{filter_map, flat_map, option_map, option_to_list}
use Rattle.std.proofs.lemmas.List.{reverse-append}
use Rattle.interpreter.specs.object_memory.declared.addresses.Addr.{Addr}
use Rattle.interpreter.specs.object_memory.declared.values.Value.{Value}
use Rattle.interpreter.specs.object_memory.declared.values.Value.TheVariants.{Int32, Int64, Native, Ref}
use Rattle.collector.specs.References.{Test, ValuePasses}
use Rattle.collector.specs.Soundness.{IsListed}
use Rattle.interpreter.specs.threads_monitors.Frames.{Frame, Frames}
use Rattle.interpreter.specs.threads_monitors.Roots.{frame_roots, frame_with_references, frames_upward, reference_in, roots, values_of, with_reference}
use Rattle.std.specs.List.{AllByRecursion}

-- ---- lists

module _ {A : Type 0} (P : A → Type 0) where
  -- what is true of each item of two lists, and of both parts of one
  pub each_join : (xs ys : List A) → AllByRecursion P xs → AllByRecursion P ys → AllByRecursion P (xs ++ ys)
  each_join [] ys h k = k
  each_join (x ∷ xs) ys h k = (h.0, each_join xs ys h.1 k)

  pub each_split : (xs ys : List A) → AllByRecursion P (xs ++ ys) → AllByRecursion P xs × AllByRecursion P ys
  each_split [] ys h = (tt, h)
  each_split (x ∷ xs) ys h = let parts = each_split xs ys h.1 in ((h.0, parts.0), parts.1)

  -- of a list turned round, and back
  pub each_reversed : (xs : List A) → AllByRecursion P xs → AllByRecursion P (reverse xs)
  each_reversed [] h = h
  each_reversed (x ∷ xs) h = subst (AllByRecursion P) (sym (reverse-append (x ∷ []) xs)) (each_join (reverse xs) (x ∷ []) (each_reversed xs h.1) (h.0, tt))

  pub each_upward : (xs : List A) → AllByRecursion P (reverse xs) → AllByRecursion P xs
  each_upward [] h = h
  each_upward (x ∷ xs) h = let parts = each_split (reverse xs) (x ∷ []) (subst (AllByRecursion P) (reverse-append (x ∷ []) xs) h) in (parts.1.0, each_upward xs parts.0)

-- of images
pub each_map : {A B : Type 0} (P : A → Type 0) (Q : B → Type 0) (f : A → B) → ((x : A) → P x → Q (f x)) → (xs : List A) → AllByRecursion P xs → AllByRecursion Q (map f xs)
each_map P Q f k [] h = h
each_map P Q f k (x ∷ xs) h = (k x h.0, each_map P Q f k xs h.1)

module _ (P : Addr → Type 0) where
  -- of all that is listed
  pub each_listed : (list : List Addr) → AllByRecursion P list → (a : Addr) → IsListed list a → P a
  each_listed [] h a listed = elim listed [ ]
  each_listed (b ∷ bs) h a (inl same) = subst P same h.0
  each_listed (b ∷ bs) h a (inr listed) = each_listed bs h.1 a listed

  pub listed_each : (list : List Addr) → ((a : Addr) → IsListed list a → P a) → AllByRecursion P list
  listed_each [] h = tt
  listed_each (b ∷ bs) h = (h b (inl refl), listed_each bs (λ a listed. h a (inr listed)))

-- ---- frames

-- an address passes a test
abbrev pub Passes : Test → Addr → Type 0
Passes test a = test a ≡ true

-- each reference of a frame passes
pub record FramePasses (test : Test) (f : Frame) : Type 0 where
  pub arguments : AllByRecursion (ValuePasses test) f.arguments
  pub locals : AllByRecursion (ValuePasses test) f.locals
  pub stack : AllByRecursion (ValuePasses test) f.stack
  pub constructed : AllByRecursion (Passes test) (option_to_list f.constructed)

module _ (test : Test) where
  values_pass : (vs : List Value) → AllByRecursion (ValuePasses test) vs → AllByRecursion (Passes test) (filter_map reference_in vs)
  values_pass [] h = h
  values_pass (Int32 n ∷ vs) h = values_pass vs h.1
  values_pass (Int64 n ∷ vs) h = values_pass vs h.1
  values_pass (Native n ∷ vs) h = values_pass vs h.1
  values_pass (Ref a ∷ vs) h = (h.0, values_pass vs h.1)

  values_passed : (vs : List Value) → AllByRecursion (Passes test) (filter_map reference_in vs) → AllByRecursion (ValuePasses test) vs
  values_passed [] h = h
  values_passed (Int32 n ∷ vs) h = (tt, values_passed vs h)
  values_passed (Int64 n ∷ vs) h = (tt, values_passed vs h)
  values_passed (Native n ∷ vs) h = (tt, values_passed vs h)
  values_passed (Ref a ∷ vs) h = (h.0, values_passed vs h.1)

  frame_passes : (f : Frame) → FramePasses test f → AllByRecursion (Passes test) (frame_roots f)
  frame_passes f h =
      each_join (Passes test) (filter_map reference_in (values_of f)) (option_to_list f.constructed)
      (values_pass (values_of f)
      (each_join (ValuePasses test) f.arguments (f.locals ++ reverse f.stack) h.arguments
      (each_join (ValuePasses test) f.locals (reverse f.stack) h.locals (each_reversed (ValuePasses test) f.stack h.stack))))
      h.constructed

  frame_passed : (f : Frame) → AllByRecursion (Passes test) (frame_roots f) → FramePasses test f
  frame_passed f h =
      let parts = each_split (Passes test) (filter_map reference_in (values_of f)) (option_to_list f.constructed) h in
      let values = each_split (ValuePasses test) f.arguments (f.locals ++ reverse f.stack) (values_passed (values_of f) parts.0) in
      let inner = each_split (ValuePasses test) f.locals (reverse f.stack) values.1 in
      record { arguments = values.0; locals = inner.0; stack = each_upward (ValuePasses test) f.stack inner.1; constructed = parts.1 }

  frames_pass : (fs : List Frame) → AllByRecursion (FramePasses test) fs → AllByRecursion (Passes test) (flat_map frame_roots fs)
  frames_pass [] h = h
  frames_pass (f ∷ fs) h = each_join (Passes test) (frame_roots f) (flat_map frame_roots fs) (frame_passes f h.0) (frames_pass fs h.1)

  frames_passed : (fs : List Frame) → AllByRecursion (Passes test) (flat_map frame_roots fs) → AllByRecursion (FramePasses test) fs
  frames_passed [] h = h
  frames_passed (f ∷ fs) h = let parts = each_split (Passes test) (frame_roots f) (flat_map frame_roots fs) h in (frame_passed f parts.0, frames_passed fs parts.1)

  -- where all frames pass, each root does,
  pub roots_pass : (m : Frames) → AllByRecursion (FramePasses test) (m.running ∷ m.below) → (a : Addr) → IsListed (roots m) a → test a ≡ true
  roots_pass m h = each_listed (Passes test) (roots m) (frames_pass (frames_upward m) (each_reversed (FramePasses test) (m.running ∷ m.below) h))

  -- and where each root passes, all frames do
  pub roots_passed : (m : Frames) → ((a : Addr) → IsListed (roots m) a → test a ≡ true) → AllByRecursion (FramePasses test) (m.running ∷ m.below)
  roots_passed m h = each_upward (FramePasses test) (m.running ∷ m.below) (frames_passed (frames_upward m) (listed_each (Passes test) (roots m) h))

-- so do references to all that is listed
pub all_referenced : (test : Test) (list : List Addr) → ((a : Addr) → IsListed list a → test a ≡ true) → AllByRecursion (ValuePasses test) (map Ref list)
all_referenced test list each = each_map (Passes test) (ValuePasses test) Ref (λ a h. h) list (listed_each (Passes test) list each)

-- ---- other references

module _ (test after : Test) (g : Addr → Addr) (pass : (a : Addr) → test a ≡ true → after (g a) ≡ true) where
  value_replaced : (v : Value) → ValuePasses test v → ValuePasses after (with_reference g v)
  value_replaced (Ref a) h = pass a h
  value_replaced _ h = tt

  values_replaced : (vs : List Value) → AllByRecursion (ValuePasses test) vs → AllByRecursion (ValuePasses after) (map (with_reference g) vs)
  values_replaced = each_map (ValuePasses test) (ValuePasses after) (with_reference g) value_replaced

  object_replaced : (o : Option Addr) → AllByRecursion (Passes test) (option_to_list o) → AllByRecursion (Passes after) (option_to_list (option_map g o))
  object_replaced None h = h
  object_replaced (Some a) h = (pass a h.0, h.1)

  frame_replaced : (f : Frame) → FramePasses test f → FramePasses after (frame_with_references g f)
  frame_replaced f h = record {
    arguments = values_replaced f.arguments h.arguments;
    locals = values_replaced f.locals h.locals;
    stack = values_replaced f.stack h.stack;
    constructed = object_replaced f.constructed h.constructed;
  }

  -- frames pass another test once their references are replaced
  pub frames_replaced : (fs : List Frame) → AllByRecursion (FramePasses test) fs → AllByRecursion (FramePasses after) (map (frame_with_references g) fs)
  frames_replaced = each_map (FramePasses test) (FramePasses after) (frame_with_references g) frame_replaced
