-- The types that a method names, as they are collected.
use Rattle.std.proofs.Common.{◌≡◌, ◌<◌, ◌+◌, ℕ, List, [], ◌∷◌, ◌++◌, length, map, take, get_or, refl, sym, ap, ◌∙◌, append_assoc}
use Rattle.std.specs.Prelude.{flat_map}
use Rattle.std.proofs.lemmas.Grind.{flat_map-append}
use Rattle.std.proofs.lemmas.List.{take_more}
use Rattle.std.proofs.lemmas.List.Folds.{flat_map-map}
use Rattle.cil_model.specs.declared.types.DeclaredType.{DeclaredType}
use Rattle.cil_model.specs.declared.trees.Class.{Class}
use Rattle.cil_model.specs.declared.trees.Code.{Code}
use Rattle.cil_model.specs.declared.trees.Line.{Line}
use Rattle.cil_model.specs.declared.trees.Method.{Method}
use Rattle.cil_model.specs.Bodies.{lines_of}
use Rattle.cil_model.specs.Declarations.{method_members}
use Rattle.cil_model.specs.Mentions.{codes_of, types_of_signature, types_of_instruction, types_of_method}

pub append_nothing : {X : Type 0} (xs : List X) → xs ++ [] ≡ xs
append_nothing [] = refl
append_nothing (x ∷ xs) = ap (λ ys. x ∷ ys) (append_nothing xs)

-- what a list's items name, where those of one more are added after the others
pub more_named : {X Y : Type 0} (g : X → List Y) (xs : List X) (i : ℕ) (x : X) (old before now : List Y) → i < length xs → x ≡ get_or xs i x →
    before ≡ old ++ flat_map g (take i xs) → now ≡ before ++ g x → now ≡ old ++ flat_map g (take (i + 1) xs)
more_named g xs i x old before now l e b n =
    let first = flat_map g (take i xs) in
    let taken : take (i + 1) xs ≡ take i xs ++ x ∷ [] = take_more xs i x l ∙ ap (λ y. take i xs ++ y ∷ []) (sym e) in
    let more : flat_map g (take (i + 1) xs) ≡ first ++ g x = ap (flat_map g) taken ∙ flat_map-append g (take i xs) (x ∷ []) ∙ ap (λ ys. first ++ ys) (append_nothing (g x)) in
    n ∙ ap (λ ys. ys ++ g x) b ∙ append_assoc old first (g x) ∙ ap (λ ys. old ++ ys) (sym more)

-- the same of what the items represent
pub more_named_in : {X Z Y : Type 0} (f : X → Z) (g : Z → List Y) (xs : List X) (i : ℕ) (x : X) (old before now : List Y) → i < length xs → x ≡ get_or xs i x →
    before ≡ old ++ flat_map g (map f (take i xs)) → now ≡ before ++ g (f x) → now ≡ old ++ flat_map g (map f (take (i + 1) xs))
more_named_in f g xs i x old before now l e b n =
    more_named (λ y. g (f y)) xs i x old before now l e (b ∙ ap (λ ys. old ++ ys) (flat_map-map g f (take i xs))) n ∙ ap (λ ys. old ++ ys) (sym (flat_map-map g f (take (i + 1) xs)))

-- the signature, the locals, and what the instructions name
pub method_types : (m : Method) (old signature locals all : List DeclaredType) → signature ≡ old ++ types_of_signature m.signature →
    locals ≡ signature ++ (flat_map (λ (c : Code). c.locals) (codes_of m) ++ []) → all ≡ locals ++ flat_map (λ (l : Line). types_of_instruction l.instruction) (lines_of m) → all ≡ old ++ types_of_method m
method_types m old signature locals all e f g =
    let s = types_of_signature m.signature in
    let k = flat_map (λ (c : Code). c.locals) (codes_of m) in
    let i : flat_map (λ (l : Line). types_of_instruction l.instruction) (lines_of m) ≡ flat_map types_of_instruction (map (λ (l : Line). l.instruction) (lines_of m)) = sym (flat_map-map types_of_instruction (λ (l : Line). l.instruction) (lines_of m)) in
    g ∙ ap (λ xs. xs ++ flat_map (λ (l : Line). types_of_instruction l.instruction) (lines_of m)) (f ∙ ap (λ xs. signature ++ xs) (append_nothing k) ∙ ap (λ xs. xs ++ k) e ∙ append_assoc old s k) ∙
    append_assoc old (s ++ k) _ ∙ ap (λ xs. old ++ (s ++ k ++ xs)) i

-- the types of all methods, class by class
pub types_by_class : (cs : List Class) → flat_map (λ (c : Class). flat_map types_of_method (method_members c)) cs ≡ flat_map types_of_method (flat_map method_members cs)
types_by_class [] = refl
types_by_class (c ∷ cs) = ap (λ ts. flat_map types_of_method (method_members c) ++ ts) (types_by_class cs) ∙ sym (flat_map-append types_of_method (method_members c) (flat_map method_members cs))
