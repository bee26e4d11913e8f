use Rattle.std.proofs.Common.{◌≡◌, ◌<◌, ◌≤◌, ◌⊎◌, inl, inr, ℕ, Bool, true, false, List, length, map, get_or, Bor, Option, Some, None, is_some, slice_get, option_map, unwrap_or, refl, sym, ap, ◌∙◌, arith}
use Rattle.std.specs.Prelude.{find}
use Rattle.std.specs.List.{position_from}
use Rattle.std.specs.Option.{option_map_or}
use Rattle.std.proofs.lemmas.Bool.{true≢false}
use Rattle.std.proofs.lemmas.List.Folds.{list_any_at}
use Rattle.std.proofs.lemmas.Option.{none-some, same_Some, slice_get-map, slice_get_cases, get_or_from_slice_get}
use Rattle.cil_model.specs.declared.trees.Method.{Method}
use Rattle.cil_model.specs.Chains.{is_virtual}
use Rattle.name_tables.specs.Entries.{declaration_in}
use Rattle.name_tables.specs.KeyIds.{number_in}
use Rattle.name_tables.specs.Keys.{method_of_key}
use Rattle.name_tables.specs.Methods.{has_virtual}
use Rattle.name_tables.specs.Sameness.{same_identity, identity_of}
use Rattle.name_tables.specs.SamenessLaws.{same_identity_reflexive}
use Rattle.name_tables.proofs.FirstIndices.{is_some-position_from}
use Rattle.name_tables.proofs.Lists.{option_map_of_map}
use Rattle.name_tables.proofs.NumberLaws.{position_from-map, found_some}
use Rattle.name_tables.proofs.class_tables.ClassTable.is_virtual_at.Goals.{After-method_at}
use Rattle.name_tables.proofs.class_tables.ClassTable.is_virtual_at.Goals as goal

-- where keys represent items, the number of the key at an index is the first index of an item that is the same as the one there
first_same : {K X Y : Type 0} (view : K → Y) (part : X → Y) (same : Y → Y → Bool) → ((y : Y) → same y y ≡ true) → (keys : List K) (xs : List X) → map view keys ≡ map part xs → (i : ℕ) → i < length xs →
    option_map (λ x. find (λ z. same (part x) (part z)) xs) (slice_get xs i) ≡ Some (slice_get xs (get_or (map (number_in (λ a b. same (view a) (view b)) keys) keys) i 0))
first_same {K} {X} view part same itself keys xs e i l = by_item (slice_get_cases xs i).1
  where
    number : K → ℕ
    number = number_in (λ a b. same (view a) (view b)) keys

    index : X → Option ℕ
    index x = position_from (λ z. same (part x) (part z)) 0 xs

    by_key : (x : X) → is_some (index x) ≡ true → (k : Option K) → slice_get keys i ≡ k → option_map view k ≡ Some (part x) → (p : Option ℕ) → index x ≡ p → find (λ z. same (part x) (part z)) xs ≡ slice_get xs (get_or (map number keys) i 0)
    by_key x some None key h p found = absurd (none-some (part x) h)
    by_key x some (Some k) key h None found = absurd (true≢false (sym some ∙ ap is_some found))
    by_key x some (Some k) key h (Some p) found =
        let at_key : position_from (λ z. same (view k) (view z)) 0 keys ≡ Some p =
        sym (position_from-map view (same (view k)) 0 keys) ∙ ap (position_from (same (view k)) 0) e ∙ position_from-map part (same (view k)) 0 xs ∙ ap (λ y. position_from (λ z. same y (part z)) 0 xs) (same_Some (view k) (part x) h) ∙ found in
        let has_id : get_or (map number keys) i 0 ≡ p = get_or_from_slice_get (map number keys) i (number k) 0 (slice_get-map number keys i ∙ ap (option_map number) key) ∙ ap (λ o. unwrap_or o (length keys)) at_key in
        sym (found_some (λ z. same (part x) (part z)) xs p found) ∙ ap (slice_get xs) (sym has_id)

    by_item : ((x : X) × (i < length xs) × (slice_get xs i ≡ Some x) × (get_or xs i x ≡ x)) ⊎ ((length xs ≤ i) × (slice_get xs i ≡ None)) →
        option_map (λ x. find (λ z. same (part x) (part z)) xs) (slice_get xs i) ≡ Some (slice_get xs (get_or (map number keys) i 0))
    by_item (inr past) = absurd (omega (arith, past.0))
    by_item (inl (x, _, at, item)) =
        let some : is_some (index x) ≡ true = is_some-position_from (λ z. same (part x) (part z)) 0 xs ∙ list_any_at (λ z. same (part x) (part z)) xs i x l (ap (λ z. same (part x) (part z)) item ∙ itself (part x)) in
        let key : option_map view (slice_get keys i) ≡ Some (part x) = sym (slice_get-map view keys i) ∙ ap (λ ys. slice_get ys i) e ∙ slice_get-map part xs i ∙ ap (option_map part) at in
        ap (option_map (λ x. find (λ z. same (part x) (part z)) xs)) at ∙ ap Some (by_key x some (slice_get keys i) refl key (index x) refl)

abbrev virtual_of : Option Method → Bool
virtual_of o = option_map_or (λ (m : Method). is_virtual m.kind) o false

-- what is said of the method that is found
reported : (c : After-method_at) → option_map (λ m. has_virtual (declaration_in c.args.self.now.class) (identity_of m)) (slice_get (declaration_in c.args.self.now.class).methods c.args.index) ≡ Some (virtual_of (option_map (λ m. m.now) c.method_at.result))
reported c =
    let ms = (declaration_in c.args.self.now.class).methods in
    let n = get_or c.numbers.result.now c.args.index 0 in
    let found : option_map (λ (m : Bor Method). m.now) c.method_at.result ≡ slice_get ms n =
    ap (option_map (λ m. m.now)) (c.method_at.ensures ∙ ap (λ xs. slice_get xs n) c.as_slice.ensures.value) ∙ sym (slice_get-map (λ m. m.now) c.args.self.now.class.methods.items n) in
    sym (option_map_of_map (λ m. find (λ z. same_identity (identity_of m) (identity_of z)) ms) virtual_of (slice_get ms c.args.index)) ∙
    ap (option_map virtual_of) (first_same method_of_key identity_of same_identity same_identity_reflexive c.args.self.now.methods ms c.args.self.now.methods_are c.args.index c.requires) ∙
    ap (λ ns. Some (virtual_of (slice_get ms (get_or ns c.args.index 0)))) (sym c.numbers.ensures) ∙ ap (λ o. Some (virtual_of o)) (sym found)

pub returns-in-None : goal.returns-in-None
returns-in-None c = reported (goal.at.returns-in-None c).After-method_at ∙ ap (λ o. Some (virtual_of (option_map (λ m. m.now) o))) c.in-None.is

pub returns-in-Some : goal.returns-in-Some
returns-in-Some c = reported (goal.at.returns-in-Some c).After-method_at ∙ ap (λ o. Some (virtual_of (option_map (λ m. m.now) o))) c.in-Some.is ∙ ap Some (sym c.is_virtual.ensures)
