-- Where each abstract method of a chain is overridden by the next nearer one, none fills a slot.
use Rattle.std.proofs.Common.{◌≡◌, ◌==◌, ℕ, Bool, true, false, cond, not, ◌&&◌, ◌||◌, List, [], ◌∷◌, Option, Some, None, slice_get, refl, sym, ap, ◌∙◌}
use Rattle.std.specs.Prelude.{unwrap_or}
use Rattle.std.specs.List.{list_any}
use Rattle.std.specs.Option.{option_map_or}
use Rattle.std.proofs.lemmas.Bool.{or_parts, or_from, eqb-true, eq-eqb}
use Rattle.cil_model.specs.declared.types.ClassName.{ClassName}
use Rattle.cil_model.specs.declared.trees.Tree.{Tree}
use Rattle.cil_model.specs.declared.trees.Method.{Method}
use Rattle.cil_model.specs.Declarations.{Declaration}
use Rattle.cil_model.specs.Chains.{is_virtual, is_new_slot_method, is_abstract_method}
use Rattle.name_tables.specs.Sameness.{MethodIdentity, identity_of}
use Rattle.name_tables.specs.Numbers.{declarations, chain_numbers, method_found}
use Rattle.resolved_code.specs.VirtualSlots.{slot_filled_at, slot_by_id, abstract_by_id, is_slot_abstract, class_has_abstract_slot, is_override, is_nearest_abstract, hides_abstract, stays_abstract, IsDecided}
use Rattle.resolved_code.proofs.ListLaws.Tests.{and_false}

abbrev is_abstract : Method → Bool
is_abstract m = is_abstract_method m.kind

not_both : true ≡ false → ⊥
not_both e = cc

same_arms : (b o : Bool) → cond b o o ≡ true → o ≡ true
same_arms true o h = h
same_arms false o h = h

-- an abstract method after one that is no override is hidden, so this one is an override
overrides_it : (v w : Bool) → not (v && not w) && true ≡ false → (v ≡ true) × (w ≡ false)
overrides_it true false h = (refl, refl)
overrides_it true true h = absurd (not_both h)
overrides_it false w h = absurd (not_both h)

is_that : (slot : ℕ) (o : Option ℕ) → option_map_or (λ x. x == slot) o false ≡ true → o ≡ Some slot
is_that slot None h = absurd (not_both (sym h))
is_that slot (Some x) h = ap Some (eqb-true x slot h)

none_passes : {X : Type 0} (p : X → Bool) → ((x : X) → p x ≡ false) → (xs : List X) → list_any p xs ≡ false
none_passes p none [] = refl
none_passes p none (x ∷ xs) = or_from _ _ (none x) (none_passes p none xs)

module _ (tree : Tree) where
  -- ---- an open slot shows an abstract method that is not overridden

  module _ (k : MethodIdentity) (slot : ℕ) where
    -- one more class of a chain, whose method is m
    over_method : (n : ℕ) (m : Method) (s : Option ℕ) (o hidden top : Bool) → (o ≡ true → hidden ≡ false → (top ≡ true) × (s ≡ Some slot)) →
        hidden || (not (is_override m) && top) ≡ false → (fills : Bool) → option_map_or (λ x. x == slot) (slot_filled_at n s m) false ≡ fills → cond fills (is_abstract m) o ≡ true →
        (is_abstract m ≡ true) × (slot_filled_at n s m ≡ Some slot)
    over_method n m s o hidden top rest q true e p = (p, is_that slot (slot_filled_at n s m) e)
    over_method n m s o hidden top rest q false e p =
        let parts : (hidden ≡ false) × (not (is_override m) && top ≡ false) = or_parts hidden (not (is_override m) && top) q in
        let seen : (top ≡ true) × (s ≡ Some slot) = rest p parts.0 in
        let kind : (is_virtual m.kind ≡ true) × (is_new_slot_method m.kind ≡ false) =
        overrides_it (is_virtual m.kind) (is_new_slot_method m.kind) (sym (ap (λ b. not (is_override m) && b) seen.0) ∙ parts.1) in
        let inherits : slot_filled_at n s m ≡ Some slot =
        ap (λ b. cond b (Some (cond (is_new_slot_method m.kind) n (unwrap_or s n))) None) kind.0 ∙ ap (λ b. Some (cond b n (unwrap_or s n))) kind.1 ∙ ap (λ z. Some (unwrap_or z n)) seen.1 in
        let fills : option_map_or (λ x. x == slot) (slot_filled_at n s m) false ≡ true = ap (λ z. option_map_or (λ x. x == slot) z false) inherits ∙ eq-eqb slot slot refl in
        absurd (not_both (sym fills ∙ e))

    over_found : (n : ℕ) (f : Option Method) (s : Option ℕ) (o hidden top : Bool) → (o ≡ true → hidden ≡ false → (top ≡ true) × (s ≡ Some slot)) →
        cond (option_map_or (λ x. x == slot) (option_map_or (slot_filled_at n s) f s) false) (option_map_or is_abstract f o) o ≡ true →
        option_map_or (λ (m : Method). hidden || (not (is_override m) && top)) f hidden ≡ false →
        (option_map_or is_abstract f top ≡ true) × (option_map_or (slot_filled_at n s) f s ≡ Some slot)
    over_found n None s o hidden top rest p q = rest (same_arms _ o p) q
    over_found n (Some m) s o hidden top rest p q = over_method n m s o hidden top rest q (option_map_or (λ x. x == slot) (slot_filled_at n s m) false) refl p

    -- where none is hidden, the nearest is abstract, and fills the slot
    shown : (ns : List ℕ) → abstract_by_id tree k slot ns ≡ true → hides_abstract tree k ns ≡ false → (is_nearest_abstract tree k ns ≡ true) × (slot_by_id tree k ns ≡ Some slot)
    shown [] p q = absurd (not_both (sym p))
    shown (n ∷ ns) p q = over_found n (method_found tree k n) (slot_by_id tree k ns) (abstract_by_id tree k slot ns) (hides_abstract tree k ns) (is_nearest_abstract tree k ns) (shown ns) p q

    open_stays : (ns : List ℕ) → abstract_by_id tree k slot ns ≡ true → stays_abstract tree k ns ≡ true
    open_stays ns p = by_hidden (hides_abstract tree k ns) refl
      where
        by_hidden : (b : Bool) → hides_abstract tree k ns ≡ b → b || is_nearest_abstract tree k ns ≡ true
        by_hidden true e = refl
        by_hidden false e = (shown ns p e).0

  -- ---- whole chains

  never_left : (k : MethodIdentity) (chain ms : List ℕ) → IsDecided tree chain → is_slot_abstract tree k chain ms ≡ false
  never_left k chain ms h = by_slot (slot_by_id tree k ms)
    where
      by_open : (slot : ℕ) (b : Bool) → abstract_by_id tree k slot chain ≡ b → abstract_by_id tree k slot chain ≡ false
      by_open slot false e = e
      by_open slot true e = absurd (not_both (sym (open_stays k slot chain e) ∙ h k))

      by_slot : (o : Option ℕ) → option_map_or (λ slot. abstract_by_id tree k slot chain) o false ≡ false
      by_slot None = refl
      by_slot (Some slot) = by_open slot (abstract_by_id tree k slot chain) refl

  class_leaves_none : (chain : List ℕ) → IsDecided tree chain → (n : ℕ) → class_has_abstract_slot tree chain n ≡ false
  class_leaves_none chain h n = by_entry (slice_get (declarations tree) n)
    where
      by_entry : (o : Option (ClassName × Declaration)) → option_map_or (λ (e : ClassName × Declaration). list_any (λ (m : Method). is_virtual m.kind && is_slot_abstract tree (identity_of m) chain (chain_numbers tree e.0)) e.1.methods) o false ≡ false
      by_entry None = refl
      by_entry (Some e) =
          none_passes (λ (m : Method). is_virtual m.kind && is_slot_abstract tree (identity_of m) chain (chain_numbers tree e.0)) (λ m. ap (λ b. is_virtual m.kind && b) (never_left (identity_of m) chain (chain_numbers tree e.0) h) ∙ and_false (is_virtual m.kind)) e.1.methods

  pub none_left_open : (chain ms : List ℕ) → IsDecided tree chain → list_any (class_has_abstract_slot tree chain) ms ≡ false
  none_left_open chain ms h = none_passes (class_has_abstract_slot tree chain) (class_leaves_none chain h) ms
