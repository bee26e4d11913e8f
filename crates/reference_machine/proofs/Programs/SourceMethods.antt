-- Each method of a legal source is declared by its class, under the class's name.
use Rattle.std.proofs.Common.{◌≡◌, ℕ, zero, suc, Bool, true, false, IsTrue, cond, if◌then◌else◌, List, [], ◌∷◌, ◌++◌, map, filter, flat_map, find, Option, Some, None, option_map, slice_get, refl, sym, ap, ◌∙◌, subst}
use Rattle.std.specs.List.{list_any}
use Rattle.std.proofs.lemmas.Bool.{or_parts}
use Rattle.std.proofs.lemmas.Option.{same_Some}
use Rattle.cil_model.specs.declared.types.ClassName.{ClassName}
use Rattle.cil_model.specs.declared.trees.Tree.{Tree}
use Rattle.cil_model.specs.declared.trees.Class.{Class}
use Rattle.cil_model.specs.declared.trees.Method.{Method}
use Rattle.cil_model.specs.Same.{same_text}
use Rattle.cil_model.specs.Declarations.{Declaration, source_name, declared_as, field_members, method_members}
use Rattle.cil_model.specs.Bodies.{source_methods}
use Rattle.cil_model.specs.Chains.{methods_declared, listed_by}
use Rattle.cil_model.specs.Legality.{IsLegal, has_repeat, class_doubles, doubles_name}
use Rattle.cil_model.proofs.Lists.{none_is_some}
use Rattle.cil_model.proofs.SameLaws.{never, same_text_itself}
use Rattle.reference_machine.proofs.Programs.Literals.{any_at}

-- ---- lists

-- an item of two lists, one after the other, is of one of them
split : {X A : Type 0} (xs ys : List X) (n : ℕ) (x : X) → slice_get (xs ++ ys) n ≡ Some x → ((k : ℕ) → slice_get xs k ≡ Some x → A) → ((k : ℕ) → slice_get ys k ≡ Some x → A) → A
split [] ys n x e first second = second n e
split (y ∷ ys) zs zero x e first second = first 0 e
split (y ∷ ys) zs (suc n) x e first second = split ys zs n x e (λ k h. first (suc k) h) second

-- an item of what a function gives of a list comes from one of the list's items
came_from : {X Y A : Type 0} (f : X → List Y) (xs : List X) (n : ℕ) (y : Y) → slice_get (flat_map f xs) n ≡ Some y → ((k : ℕ) (x : X) (j : ℕ) → slice_get xs k ≡ Some x → slice_get (f x) j ≡ Some y → A) → A
came_from f [] n y e go = none_is_some y e
came_from f (x ∷ xs) n y e go = split (f x) (flat_map f xs) n y e (λ k h. go 0 x k refl h) (λ k h. came_from f xs k y h (λ i z j at own. go (suc i) z j at own))

mapped_from : {X Y A : Type 0} (f : X → Y) (xs : List X) (n : ℕ) (y : Y) → slice_get (map f xs) n ≡ Some y → ((x : X) → slice_get xs n ≡ Some x → f x ≡ y → A) → A
mapped_from f [] n y e go = none_is_some y e
mapped_from f (x ∷ xs) zero y e go = go x refl (same_Some (f x) y e)
mapped_from f (x ∷ xs) (suc n) y e go = mapped_from f xs n y e go

-- an item that passes is in the whole list
pub kept_from : {X : Type 0} (test : X → Bool) (xs : List X) (n : ℕ) (x : X) → slice_get (filter test xs) n ≡ Some x → (k : ℕ) × (slice_get xs k ≡ Some x) × IsTrue (test x)
kept_from test [] n x e = none_is_some x e
kept_from {X} test (y ∷ ys) n x e = by_test (test y) refl n e (kept_from test ys)
  where
    Occurs : List X → X → Type 0
    Occurs zs z = (k : ℕ) × (slice_get zs k ≡ Some z) × IsTrue (test z)

    following : (z : X) → Occurs ys z → Occurs (y ∷ ys) z
    following z h = (suc h.0, h.1, h.2)

    by_test : (b : Bool) → test y ≡ b → (n : ℕ) → slice_get (cond b (y ∷ filter test ys) (filter test ys)) n ≡ Some x → ((k : ℕ) (z : X) → slice_get (filter test ys) k ≡ Some z → Occurs ys z) → Occurs (y ∷ ys) x
    by_test true is zero h later = (0, h, subst (λ z. IsTrue (test z)) (same_Some y x h) is)
    by_test true is (suc n) h later = following x (later n x h)
    by_test false is n h later = following x (later n x h)

-- in a list without repeats each item is the first that is the same as it
found_itself : {X : Type 0} (same : X → X → Bool) → ((x : X) → IsTrue (same x x)) → (xs : List X) → has_repeat same xs ≡ false → (n : ℕ) (x : X) → slice_get xs n ≡ Some x → find (λ y. same y x) xs ≡ Some x
found_itself same itself [] apart n x e = none_is_some x e
found_itself {X} same itself (y ∷ ys) apart n x e =
    let parts : (list_any (same y) ys ≡ false) × (has_repeat same ys ≡ false) = or_parts (list_any (same y) ys) (has_repeat same ys) apart in
    by_test (same y x) refl n e parts.0 (found_itself same itself ys parts.1)
  where
    by_test : (b : Bool) → same y x ≡ b → (n : ℕ) → slice_get (y ∷ ys) n ≡ Some x → list_any (same y) ys ≡ false →
        ((k : ℕ) (z : X) → slice_get ys k ≡ Some z → find (λ w. same w z) ys ≡ Some z) → cond b (Some y) (find (λ z. same z x) ys) ≡ Some x
    by_test true is zero h new later = h
    by_test false is zero h new later = never (sym is ∙ subst (λ z. IsTrue (same y z)) (same_Some y x h) (itself y))
    by_test true is (suc n) h new later = never (sym new ∙ any_at (same y) ys n x h is)
    by_test false is (suc n) h new later = later n x h

-- ---- the methods of the source

module _ (tree : Tree) (legal : IsLegal tree) where
  no_class_twice : has_repeat (λ (a b : Class). same_text a.name b.name) tree.classes ≡ false
  no_class_twice =
      let no_double : doubles_name tree ≡ false = by_test (doubles_name tree) _ legal in
      (or_parts _ _ (or_parts _ (list_any class_doubles tree.classes) no_double).0).1
    where
      by_test : (b : Bool) (rest : Option ℕ) → (if b then Some 201 else rest) ≡ None → b ≡ false
      by_test false rest h = refl
      by_test true rest h = none_is_some 201 (sym h)

  -- a class of the source is what its name refers to
  class_of_name : (n : ℕ) (c : Class) → slice_get tree.classes n ≡ Some c → methods_declared tree (source_name c) ≡ method_members c
  class_of_name n c at =
      ap (λ (o : Option Class). listed_by (λ (d : Declaration). d.methods) (option_map (λ (x : Class). declared_as x.kind (field_members x) (method_members x)) o))
      (found_itself (λ (a b : Class). same_text a.name b.name) (λ a. same_text_itself a.name) tree.classes no_class_twice n c at)

  -- a method of the source is declared by its class
  pub source_is_declared : (n : ℕ) (owner : ClassName) (m : Method) → slice_get (source_methods tree) n ≡ Some (owner, m) → (k : ℕ) × (slice_get (methods_declared tree owner) k ≡ Some m)
  source_is_declared n owner m e =
      came_from (λ (c : Class). map (λ (x : Method). (source_name c, x)) (method_members c)) tree.classes n (owner, m) e (λ k c j at own.
      mapped_from (λ (x : Method). (source_name c, x)) (method_members c) j (owner, m) own (λ x there same.
      (j, subst (λ (p : ClassName × Method). slice_get (methods_declared tree p.0) j ≡ Some p.1) same (ap (λ ms. slice_get ms j) (class_of_name k c at) ∙ there))))
