-- The static fields at first, as far as the loop over them has come.
use Rattle.std.proofs.Common.{◌≡◌, ◌+◌, ◌<◌, ◌++◌, ◌∷◌, [], ◌∙◌, ℕ, Bool, true, false, List, map, take, length, get_or, cond, append_assoc, ap, sym}
use Rattle.std.specs.Prelude.{filter}
use Rattle.std.proofs.lemmas.List.{append-nil, map-append}
use Rattle.std.proofs.lemmas.List.Elements.{filter-append}
use Rattle.cil_model.specs.declared.trees.Field.{Field}
use Rattle.object_memory.specs.declared.values.Value.{Value}
use Rattle.cil_model.specs.ValueKinds.{kind_of_type}
use Rattle.simulation.proofs.name_tables.Lists.{map-take_more}
use Rattle.threads_monitors.specs.Frames.{zero_value}
use Rattle.interleaving_core.specs.Statics.{zeros_of}

abbrev zero_of : Field → Value
zero_of field = zero_value (kind_of_type field.field_type)

zeros_append : (first more : List Field) → zeros_of (first ++ more) ≡ zeros_of first ++ zeros_of more
zeros_append first more =
    ap (map zero_of) (filter-append (λ (f : Field). f.is_static) first more) ∙ map-append zero_of (filter (λ (f : Field). f.is_static) first) (filter (λ (f : Field). f.is_static) more)

module _ {X : Type 0} (field : X → Field) (xs : List X) (i : ℕ) (x : X) (within : i < length xs) (is : x ≡ get_or xs i x) (old before : List Value)
    (so_far : before ≡ old ++ zeros_of (map field (take i xs))) where
  zeros_next : old ++ zeros_of (map field (take (i + 1) xs)) ≡ before ++ zeros_of (field x ∷ [])
  zeros_next =
      ap (λ fields. old ++ zeros_of fields) (map-take_more field xs i x within is) ∙ ap (λ zeros. old ++ zeros) (zeros_append (map field (take i xs)) (field x ∷ []))
      ∙ sym (append_assoc old (zeros_of (map field (take i xs))) (zeros_of (field x ∷ []))) ∙ ap (λ zeros. zeros ++ zeros_of (field x ∷ [])) (sym so_far)

  -- a static field more
  pub static_more : (after : List Value) → (field x).is_static ≡ true → after ≡ before ++ zero_of (field x) ∷ [] → after ≡ old ++ zeros_of (map field (take (i + 1) xs))
  static_more after static pushed =
      pushed ∙ sym (zeros_next ∙ ap (λ (b : Bool). before ++ map zero_of (cond b (field x ∷ []) [])) static)

  -- a field more that is not static
  pub static_no_more : (field x).is_static ≡ false → before ≡ old ++ zeros_of (map field (take (i + 1) xs))
  static_no_more other = sym (zeros_next ∙ ap (λ (b : Bool). before ++ map zero_of (cond b (field x ∷ []) [])) other ∙ append-nil before)
