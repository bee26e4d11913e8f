-- Lists of methods, class by class.
use Rattle.std.proofs.Common.{◌≡◌, ◌<◌, ◌≤◌, ◌+◌, ◌-◌, ℕ, if◌then◌else◌, zero, suc, List, [], ◌∷◌, ◌++◌, length, take, slice_get, Option, Some, None, option_map, option_and_then, refl, sym, ap, subst, ◌∙◌, arith}
use Rattle.std.specs.List.{flat_map}
use Rattle.std.proofs.lemmas.List.{take_more, length-map, length-append, append-nil}
use Rattle.std.proofs.lemmas.Bool.{lt-ltb, le-ltb}
use Rattle.std.proofs.lemmas.Grind.{flat_map-append}
use Rattle.std.proofs.lemmas.Option.{slice_get-map, slice_get_within, get_or_from_slice_get}
use Rattle.cil_model.specs.declared.types.ClassName.{ClassName}
use Rattle.cil_model.specs.declared.trees.Tree.{Tree}
use Rattle.cil_model.specs.declared.trees.Method.{Method}
use Rattle.cil_model.specs.Declarations.{Declaration}
use Rattle.name_tables.specs.Numbers.{declarations, method_at}
use Rattle.name_tables.proofs.NumberLaws.{none_is_some}
use Rattle.resolved_code.specs.ResolvedPrograms.{AllAlike}
use Rattle.loaded_program.specs.AllMethods.{owned_methods, all_methods, flat_number, first_numbers, id_among, method_id}
use Rattle.cil_model.proofs.Lists.{get_after, get_before}

-- ---- lists whose items stand in a relation

pub alike_after : {X Y : Type 0} (R : X → Y → Type 0) (xs : List X) (ys : List Y) (more : List X) (others : List Y) → AllAlike R xs ys → AllAlike R more others → AllAlike R (xs ++ more) (ys ++ others)
alike_after R [] [] more others h k = k
alike_after R (x ∷ xs) (y ∷ ys) more others h k = (h.0, alike_after R xs ys more others h.1 k)
alike_after R [] (y ∷ ys) more others h k = absurd h
alike_after R (x ∷ xs) [] more others h k = absurd h

-- the first items of a list, with one more
pub one_more : {X : Type 0} (xs : List X) (i : ℕ) (x : X) → slice_get xs i ≡ Some x → take (i + 1) xs ≡ take i xs ++ x ∷ []
one_more xs i x at = take_more xs i x (slice_get_within xs i x at) ∙ ap (λ z. take i xs ++ z ∷ []) (get_or_from_slice_get xs i x x at)

pub alike_more : {X Y : Type 0} (R : X → Y → Type 0) (xs : List X) (ys : List Y) (i : ℕ) (x : X) (y : Y) → AllAlike R (take i xs) ys → slice_get xs i ≡ Some x → R x y → AllAlike R (take (i + 1) xs) (ys ++ y ∷ [])
alike_more {X} {Y} R xs ys i x y before at r =
    let P : List X → Type 0 = λ zs. AllAlike R zs (ys ++ y ∷ []) in
    subst P (sym (one_more xs i x at)) (alike_after R (take i xs) ys (x ∷ []) (y ∷ []) before (r, tt))

-- ---- methods of one class

pub owned_count : (e : ClassName × Declaration) → length (owned_methods e) ≡ length e.1.methods
owned_count e = length-map e.1.methods (λ m. (e.0, m))

pub owned_at : (e : ClassName × Declaration) (p : ℕ) (m : Method) → slice_get e.1.methods p ≡ Some m → slice_get (owned_methods e) p ≡ Some (e.0, m)
owned_at e p m at = slice_get-map (λ m. (e.0, m)) e.1.methods p ∙ ap (option_map (λ (x : Method). (e.0, x))) at

abbrev of_class : ℕ → ClassName × Declaration → Option (ClassName × Method)
of_class p e = option_map (λ x. (e.0, x)) (slice_get e.1.methods p)

pub id_at : (tree : Tree) (n p : ℕ) (e : ClassName × Declaration) (m : Method) → slice_get (declarations tree) n ≡ Some e → slice_get e.1.methods p ≡ Some m → method_at tree (n, p) ≡ Some (e.0, m)
id_at tree n p e m at found = ap (option_and_then (of_class p)) at ∙ ap (option_map (λ (x : Method). (e.0, x))) found

-- ---- methods of all classes

-- the methods of the first classes, with those of one more
pub classes_more : (es : List (ClassName × Declaration)) (i : ℕ) (e : ClassName × Declaration) → slice_get es i ≡ Some e → flat_map owned_methods (take (i + 1) es) ≡ flat_map owned_methods (take i es) ++ owned_methods e
classes_more es i e at = ap (flat_map owned_methods) (one_more es i e at) ∙ flat_map-append owned_methods (take i es) (e ∷ []) ∙ ap (λ z. flat_map owned_methods (take i es) ++ z) (append-nil (owned_methods e))

-- a class's first number is known, and the method is as far after it as after the first of its class
abbrev FoundFlat : ℕ → List (ClassName × Declaration) → ℕ → ℕ → ClassName × Method → Type 0
FoundFlat next es n p found = (k : ℕ) × (k ≡ length (flat_map owned_methods (take n es))) × (slice_get (first_numbers next es) n ≡ Some (next + k)) × (slice_get (flat_map owned_methods es) (k + p) ≡ Some found)

flat_found : (next : ℕ) (es : List (ClassName × Declaration)) (n p : ℕ) (found : ClassName × Method) → option_and_then (of_class p) (slice_get es n) ≡ Some found → FoundFlat next es n p found
flat_found next [] n p found h = absurd (none_is_some found h)
flat_found next (e ∷ es) zero p found h =
    let first : next ≡ next + 0 = omega arith in
    let index : 0 + p ≡ p = omega arith in
    (0, refl, ap Some first, ap (slice_get (owned_methods e ++ flat_map owned_methods es)) index ∙ get_before (owned_methods e) (flat_map owned_methods es) p found (slice_get-map (λ m. (e.0, m)) e.1.methods p ∙ h))
flat_found next (e ∷ es) (suc n) p found h =
    let further : FoundFlat (next + length e.1.methods) es n p found = flat_found (next + length e.1.methods) es n p found h in
    let own : length (owned_methods e) ≡ length e.1.methods = owned_count e in
    let both : length (owned_methods e ++ flat_map owned_methods (take n es)) ≡ length (owned_methods e) + length (flat_map owned_methods (take n es)) = length-append (owned_methods e) (flat_map owned_methods (take n es)) in
    let before : further.0 ≡ length (flat_map owned_methods (take n es)) = further.1 in
    let counted : length e.1.methods + further.0 ≡ length (owned_methods e ++ flat_map owned_methods (take n es)) = omega arith in
    let first : (next + length e.1.methods) + further.0 ≡ next + (length e.1.methods + further.0) = omega arith in
    let index : (length e.1.methods + further.0) + p ≡ length (owned_methods e) + (further.0 + p) = omega arith in
    (length e.1.methods + further.0, counted, further.2 ∙ ap Some first, get_after (owned_methods e) (flat_map owned_methods es) ((length e.1.methods + further.0) + p) (further.0 + p) index ∙ further.3)

-- an index among the methods of the first of some classes, and one after them
id_in_first : (class : ℕ) (e : ClassName × Declaration) (es : List (ClassName × Declaration)) (index : ℕ) → index < length e.1.methods → id_among class (e ∷ es) index ≡ record { class = class; index = index }
id_in_first class e es index below =
    ap (λ b. if b then record { class = class; index = index } else id_among (class + 1) es (index - length e.1.methods)) (lt-ltb index (length e.1.methods) below)

id_in_others : (class : ℕ) (e : ClassName × Declaration) (es : List (ClassName × Declaration)) (index : ℕ) → length e.1.methods ≤ index → id_among class (e ∷ es) index ≡ id_among (class + 1) es (index - length e.1.methods)
id_in_others class e es index above =
    ap (λ b. if b then record { class = class; index = index } else id_among (class + 1) es (index - length e.1.methods)) (le-ltb index (length e.1.methods) above)

-- the id of a method of a class that follows some others
id_found : (class : ℕ) (es : List (ClassName × Declaration)) (n p : ℕ) (found : ClassName × Method) → option_and_then (of_class p) (slice_get es n) ≡ Some found →
    id_among class es (length (flat_map owned_methods (take n es)) + p) ≡ record { class = class + n; index = p }
id_found class [] n p found h = absurd (none_is_some found h)
id_found class (e ∷ es) zero p found h =
    let within : p < length (owned_methods e) = slice_get_within (owned_methods e) p found (slice_get-map (λ m. (e.0, m)) e.1.methods p ∙ h) in
    let own : length (owned_methods e) ≡ length e.1.methods = owned_count e in
    let below : p < length e.1.methods = omega (arith, within, own) in
    let index : 0 + p ≡ p = omega arith in
    let itself : class ≡ class + 0 = omega arith in
    ap (id_among class (e ∷ es)) index ∙ id_in_first class e es p below ∙ ap (λ k. record { class = k; index = p }) itself
id_found class (e ∷ es) (suc n) p found h =
    let later = length (flat_map owned_methods (take n es)) in
    let own : length (owned_methods e) ≡ length e.1.methods = owned_count e in
    let both : length (owned_methods e ++ flat_map owned_methods (take n es)) ≡ length (owned_methods e) + later = length-append (owned_methods e) (flat_map owned_methods (take n es)) in
    let index = length (owned_methods e ++ flat_map owned_methods (take n es)) + p in
    let above : length e.1.methods ≤ index = omega (arith, own, both) in
    let rest : index - length e.1.methods ≡ later + p = omega (arith, own, both) in
    let further : (class + 1) + n ≡ class + suc n = omega arith in
    id_in_others class e es index above ∙ ap (id_among (class + 1) es) rest ∙ id_found (class + 1) es n p found h ∙ ap (λ k. record { class = k; index = p }) further

module _ (tree : Tree) (n p : ℕ) (found : ClassName × Method) (h : method_at tree (n, p) ≡ Some found) where
  abbrev flat : FoundFlat 0 (declarations tree) n p found
  flat = flat_found 0 (declarations tree) n p found h

  -- a method's class has a first number
  pub first_is_there : (numbers : List ℕ) → numbers ≡ first_numbers 0 (declarations tree) → slice_get numbers n ≡ None → ⊥
  first_is_there numbers same e = none_is_some (0 + flat.0) (sym e ∙ ap (λ ns. slice_get ns n) same ∙ flat.2)

  -- the method is as far after it as it is after the first of its class
  pub number_after : (numbers : List ℕ) (first : ℕ) → numbers ≡ first_numbers 0 (declarations tree) → slice_get numbers n ≡ Some first →
      (first + p ≡ flat_number tree n p) × (slice_get (all_methods tree) (first + p) ≡ Some found) × (first + p < length (all_methods tree))
  number_after numbers first same e =
      let both : Some first ≡ Some (0 + flat.0) = sym e ∙ ap (λ ns. slice_get ns n) same ∙ flat.2 in
      let known : first ≡ 0 + flat.0 = cc in
      let before : flat.0 ≡ length (flat_map owned_methods (take n (declarations tree))) = flat.1 in
      let counted : first + p ≡ flat_number tree n p = omega arith in
      let index : first + p ≡ flat.0 + p = omega arith in
      let there : slice_get (all_methods tree) (first + p) ≡ Some found = ap (slice_get (all_methods tree)) index ∙ flat.3 in
      (counted, there, slice_get_within (all_methods tree) (first + p) found there)

  -- so it stands there among all methods
  pub method_of_number : slice_get (all_methods tree) (flat_number tree n p) ≡ Some found
  method_of_number =
      let index : flat_number tree n p ≡ flat.0 + p = omega (arith, flat.1) in
      ap (slice_get (all_methods tree)) index ∙ flat.3

  -- and that number is the one of its id
  pub id_of_flat_number : method_id tree (flat_number tree n p) ≡ record { class = n; index = p }
  id_of_flat_number =
      let itself : 0 + n ≡ n = omega arith in
      id_found 0 (declarations tree) n p found h ∙ ap (λ k. record { class = k; index = p }) itself
