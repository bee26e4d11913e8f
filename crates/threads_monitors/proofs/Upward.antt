-- The frames from the first one on, and where the values of each are in the value stack.
use Rattle.std.proofs.Common.{◌≡◌, ◌⊎◌, inl, inr, ℕ, zero, suc, ◌+◌, ◌-◌, ◌<◌, ◌≤◌, List, [], ◌∷◌, ◌++◌, length, take, drop, refl, sym, ap, ◌∙◌, arith, length-append, append_assoc, append-nil}
use Rattle.std.specs.Prelude.{reverse, map, Some, option_map, slice_get}
use Rattle.std.proofs.Math.Seq.{take-append_seam, drop-append_seam}
use Rattle.std.proofs.lemmas.List.{reverse-append, length-reverse}
use Rattle.std.proofs.lemmas.Bool.{cases_lt}
use Rattle.std.proofs.lemmas.Option.{same_Some, slice_get-map, slice_get_within}
use Rattle.cil_model.proofs.Lists.{none_is_some, last_is_there}
use Rattle.object_memory.specs.declared.values.Value.{Value}
use Rattle.threads_monitors.specs.declared.frames.Activation.{Activation}
use Rattle.threads_monitors.specs.Frames.{Frame}
use Rattle.threads_monitors.specs.Roots.{values_of}
use Rattle.threads_monitors.specs.Activations.{value_stack, activation, activations, lowest}
use Rattle.threads_monitors.proofs.ReplacedReferences.{map-reverse}

-- ---- lists that are read from their end

-- before the last one
get_front : {X : Type 0} (xs : List X) (y : X) (n : ℕ) → n < length xs → slice_get (xs ++ y ∷ []) n ≡ slice_get xs n
get_front [] y n less = absurd (omega (arith, less))
get_front (x ∷ xs) y zero less = refl
get_front (x ∷ xs) y (suc n) less = get_front xs y n (omega (arith, less))

reverse_more : {X : Type 0} (x : X) (xs : List X) → reverse (x ∷ xs) ≡ reverse xs ++ x ∷ []
reverse_more x xs = reverse-append (x ∷ []) xs

upward_front : {X : Type 0} (x : X) (xs : List X) (n : ℕ) → n < length xs → slice_get (reverse (x ∷ xs)) n ≡ slice_get (reverse xs) n
upward_front x xs n less =
    ap (λ ys. slice_get ys n) (reverse_more x xs) ∙ get_front (reverse xs) x n (omega (arith, less, length-reverse xs))

upward_last : {X : Type 0} (x : X) (xs : List X) → slice_get (reverse (x ∷ xs)) (length xs) ≡ Some x
upward_last x xs =
    ap (λ ys. slice_get ys (length xs)) (reverse_more x xs)
    ∙ ap (λ n. slice_get (reverse xs ++ x ∷ []) n) (sym (length-reverse xs))
    ∙ last_is_there (reverse xs) x

-- ---- the lowest frames

-- one frame more
pub record IsNext (gs : List Frame) (n : ℕ) : Type 0 where
  pub frame : Frame
  pub upward : slice_get (reverse gs) n ≡ Some frame
  pub more : lowest (n + 1) gs ≡ frame ∷ lowest n gs

lowest_below : (g : Frame) (gs : List Frame) (n : ℕ) → n ≤ length gs → lowest n (g ∷ gs) ≡ lowest n gs
lowest_below g gs n less = let more : length (g ∷ gs) - n ≡ suc (length gs - n) = omega (arith, less) in ap (λ k. drop k (g ∷ gs)) more

pub next_frame : (gs : List Frame) (n : ℕ) → n < length gs → IsNext gs n
next_frame [] n less = absurd (omega (arith, less))
next_frame (g ∷ gs) n less = by (λ within. next_frame gs n within) (cases_lt n (length gs))
  where
    by : (n < length gs → IsNext gs n) → (n < length gs) ⊎ (length gs ≤ n) → IsNext (g ∷ gs) n
    by lower (inl within) =
        let rest = lower within in
        record {
          frame = rest.frame;
          upward = upward_front g gs n within ∙ rest.upward;
          more = lowest_below g gs (n + 1) (omega (arith, within)) ∙ rest.more ∙ ap (λ xs. rest.frame ∷ xs) (sym (lowest_below g gs n (omega (arith, within))));
        }
    by lower (inr last) =
        let same : n ≡ length gs = omega (arith, less, last) in
        let all : length (g ∷ gs) - (n + 1) ≡ 0 = omega (arith, same) in
        let one : length (g ∷ gs) - n ≡ 1 = omega (arith, same) in
        record {
          frame = g;
          upward = ap (λ k. slice_get (reverse (g ∷ gs)) k) same ∙ upward_last g gs;
          more = ap (λ k. drop k (g ∷ gs)) all ∙ sym (ap (λ k. g ∷ drop k (g ∷ gs)) one);
        }

pub lowest_all : (gs : List Frame) → lowest (length gs) gs ≡ gs
lowest_all gs = let none : length gs - length gs ≡ 0 = omega arith in ap (λ k. drop k gs) none

-- ---- the activations from the first one on

pub length-activations : (fs : List Frame) → length (activations fs) ≡ length fs
length-activations [] = refl
length-activations (f ∷ fs) = ap suc (length-activations fs)

pub begins_there : (gs : List Frame) (n : ℕ) (a : Activation) → slice_get (reverse (activations gs)) n ≡ Some a → a.arguments ≡ length (value_stack (lowest n gs))
begins_there [] n a e = none_is_some a e
begins_there (g ∷ gs) n a e = by (λ h. begins_there gs n a h) (cases_lt n (length gs))
  where
    long : length (activations gs) ≡ length gs
    long = length-activations gs

    within : n < length (activations (g ∷ gs))
    within =
        let less = slice_get_within (reverse (activations (g ∷ gs))) n a e in
        omega (arith, less, length-reverse (activations (g ∷ gs)))

    by : (slice_get (reverse (activations gs)) n ≡ Some a → a.arguments ≡ length (value_stack (lowest n gs))) → (n < length gs) ⊎ (length gs ≤ n) → a.arguments ≡ length (value_stack (lowest n (g ∷ gs)))
    by lower (inl front) =
        lower (sym (upward_front (activation gs g) (activations gs) n (omega (arith, front, long))) ∙ e)
        ∙ ap (λ xs. length (value_stack xs)) (sym (lowest_below g gs n (omega (arith, front))))
    by lower (inr last) =
        let same : n ≡ length (activations gs) = omega (arith, within, last, long) in
        let own = same_Some a (activation gs g) (sym e ∙ ap (λ k. slice_get (reverse (activations (g ∷ gs))) k) same ∙ upward_last (activation gs g) (activations gs)) in
        let one : length (g ∷ gs) - n ≡ 1 = omega (arith, same, long) in
        ap (λ (x : Activation). x.arguments) own ∙ sym (ap (λ k. length (value_stack (drop k (g ∷ gs)))) one)

pub constructed_there : (gs : List Frame) (n : ℕ) (a : Activation) → slice_get (reverse (activations gs)) n ≡ Some a → option_map (λ (f : Frame). f.constructed) (slice_get (reverse gs) n) ≡ Some a.constructed
constructed_there gs n a e =
    sym (slice_get-map (λ (f : Frame). f.constructed) (reverse gs) n)
    ∙ ap (λ xs. slice_get xs n) (map-reverse (λ (f : Frame). f.constructed) gs ∙ ap reverse (sym (same gs)) ∙ sym (map-reverse (λ (x : Activation). x.constructed) (activations gs)))
    ∙ slice_get-map (λ (x : Activation). x.constructed) (reverse (activations gs)) n
    ∙ ap (option_map (λ (x : Activation). x.constructed)) e
  where
    same : (fs : List Frame) → map (λ (x : Activation). x.constructed) (activations fs) ≡ map (λ (f : Frame). f.constructed) fs
    same [] = refl
    same (f ∷ fs) = ap (λ xs. f.constructed ∷ xs) (same fs)

-- ---- the part of the value stack

record Above (gs : List Frame) (k : ℕ) : Type 0 where
  pub rest : List Value
  pub row_is : value_stack gs ≡ value_stack (drop k gs) ++ rest

above : (gs : List Frame) (k : ℕ) → Above gs k
above gs zero = record { rest = []; row_is = sym (append-nil (value_stack gs)) }
above [] (suc k) = record { rest = []; row_is = refl }
above (g ∷ gs) (suc k) =
    let lower = above gs k in
    record { rest = lower.rest ++ values_of g; row_is = ap (λ xs. xs ++ values_of g) lower.row_is ∙ append_assoc (value_stack (drop k gs)) lower.rest (values_of g) }

module _ (gs : List Frame) (n : ℕ) (less : n < length gs) where
  abbrev begin : ℕ
  begin = length (value_stack (lowest n gs))

  abbrev end : ℕ
  end = length (value_stack (lowest (n + 1) gs))

  pub in_order : begin ≤ end
  in_order =
      let next = next_frame gs n less in
      let both = ap (λ xs. length (value_stack xs)) next.more ∙ length-append (value_stack (lowest n gs)) (values_of next.frame) in
      omega (arith, both)

  pub within_row : end ≤ length (value_stack gs)
  within_row =
      let rest = above gs (length gs - (n + 1)) in
      let both = ap length rest.row_is ∙ length-append (value_stack (lowest (n + 1) gs)) rest.rest in
      omega (arith, both)

  pub part_is : option_map values_of (slice_get (reverse gs) n) ≡ Some (take (end - begin) (drop begin (value_stack gs)))
  part_is =
      let next = next_frame gs n less in
      let rest = above gs (length gs - (n + 1)) in
      let low = value_stack (lowest n gs) in
      let own = values_of next.frame in
      let split : value_stack gs ≡ low ++ (own ++ rest.rest) = rest.row_is ∙ ap (λ xs. value_stack xs ++ rest.rest) next.more ∙ append_assoc low own rest.rest in
      let both = ap (λ xs. length (value_stack xs)) next.more ∙ length-append low own in
      let many : end - begin ≡ length own = omega (arith, both) in
      ap (option_map values_of) next.upward
      ∙ ap Some (sym (ap (λ k. take k (drop begin (value_stack gs))) many
      ∙ ap (λ xs. take (length own) (drop (length low) xs)) split
      ∙ ap (take (length own)) (drop-append_seam low (own ++ rest.rest))
      ∙ take-append_seam own rest.rest))
