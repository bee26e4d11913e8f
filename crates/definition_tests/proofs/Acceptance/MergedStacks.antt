-- What two ways to a label may leave on the stack: merges of two types (III.1.8.1.3), stacks slot by slot, and bodies with such a label.
use Rattle.std.proofs.Common.{◌≡◌, ◌⊎◌, ℕ, zero, suc, pos, ◌≤ℤ◌, false, IsTrue, List, [], ◌∷◌, length, Option, Some, None, option_and_then, slice_get, Contains, refl, inl, inr, sym, ap, ◌∙◌, subst, arith, codes, lit<}
use Rattle.std.specs.Int.Signed.{le_z_yes}
use Rattle.std.proofs.lemmas.Option.{same_Some}
use Rattle.std.proofs.lemmas.List.Elements.{Contains-push_cases}
use Rattle.cil_model.specs.declared.types.Element.TheVariants.{Int32, Int64, Object, String}
use Rattle.cil_model.specs.declared.types.DeclaredType.{DeclaredType}
use Rattle.cil_model.specs.declared.instructions.BranchCondition.TheVariants as conditions
use Rattle.cil_model.specs.declared.instructions.Instruction.TheVariants.{LoadInt32, LoadArgument, Pop, Branch, Return}
use Rattle.cil_model.specs.declared.trees.Tree.{Tree}
use Rattle.cil_model.specs.declared.trees.Code.{Code}
use Rattle.cil_model.specs.declared.trees.Line.{Line}
use Rattle.cil_model.specs.Same.{same_type}
use Rattle.cil_model.specs.Declarations.{object_name, plain}
use Rattle.cil_model.specs.Bodies.{pc_of}
use Rattle.cil_model.specs.FlowRules.{flow}
use Rattle.cil_model.specs.TypeTree.{StackType, Declared, NativeInt, Null, i4, i8, parent, ancestor, IsBelow, IsMerge}
use Rattle.cil_model.specs.Typings.{Typing, AreBelow, Reaches, ReachesLabel, FlowsOn, IsCodeTyping}
use Rattle.cil_model.specs.Examples.{unlabelled_line}
use Rattle.cil_model.proofs.SameLaws.{never, same_type_itself}
use Rattle.cil_model.proofs.Lists.{none_is_some}
use Rattle.cil_model.proofs.BelowLaws.{declared_is_null, declared_is_native, null_is_native, reflexive}
use Rattle.definition_tests.proofs.Samples.Programs.{of_class, arrays_of, animals, class_with, interface_with, without_main}

-- ---- the classes: Dog and Cat over Animal, Stone over `object`, and two interfaces, of which Dog lists IRun

abbrev zoo : Tree
zoo = without_main (interface_with (codes "IFly") [] ∷ class_with (codes "Stone") object_name [] [] ∷ animals)

abbrev dog : DeclaredType
dog = of_class (codes "Dog")

abbrev cat : DeclaredType
cat = of_class (codes "Cat")

abbrev animal : DeclaredType
animal = of_class (codes "Animal")

abbrev runner : DeclaredType
runner = of_class (codes "IRun")

abbrev flyer : DeclaredType
flyer = of_class (codes "IFly")

abbrev object : DeclaredType
object = plain Object

abbrev many : DeclaredType → DeclaredType
many t = arrays_of t 1

abbrev IsJoin : DeclaredType → DeclaredType → DeclaredType → Type 0
IsJoin a b merged = IsMerge zoo (Declared a) (Declared b) (Declared merged)

abbrev IsUnder : DeclaredType → DeclaredType → Type 0
IsUnder a b = IsBelow zoo (Declared a) (Declared b)

-- ---- how a merge is found: one of two is above the other, or it is that of the one's parent and the other

one_above : (a b : StackType) → IsBelow zoo a b → IsMerge zoo a b b
one_above a b h = record { above_first = h; above_second = reflexive zoo b; least = λ other p q. q }

swapped : (a b merged : StackType) → IsMerge zoo a b merged → IsMerge zoo b a merged
swapped a b merged m = record { above_first = m.above_second; above_second = m.above_first; least = λ other p q. m.least other q p }

by_parent : (a p b merged : DeclaredType) → parent zoo a ≡ Some p → (IsUnder b a → ⊥) → IsJoin p b merged → IsJoin a b merged
by_parent a p b merged up apart m = record { above_first = (suc m.above_first.0, ap (option_and_then (ancestor zoo m.above_first.0)) up ∙ m.above_first.1); above_second = m.above_second; least = least }
  where
    least : (other : StackType) → IsBelow zoo (Declared a) other → IsBelow zoo (Declared b) other → IsBelow zoo (Declared merged) other
    least (Declared t) (zero, e) q = absurd (apart (subst (λ x. IsUnder b x) (sym (same_Some a t e)) q))
    least (Declared t) (suc n, e) q = m.least (Declared t) (n, sym (ap (option_and_then (ancestor zoo n)) up) ∙ e) q
    least Null h q = declared_is_null a h
    least NativeInt h q = declared_is_native a h

differs : {A : Type 0} (t u : DeclaredType) → same_type t u ≡ false → Some t ≡ Some u → A
differs t u apart e = never (sym apart ∙ subst (λ x. IsTrue (same_type t x)) (same_Some t u e) (same_type_itself t))

-- ---- one type, and null

same_class : IsJoin dog dog dog
same_class = one_above _ _ (0, refl)

null_with_reference : IsMerge zoo Null (Declared dog) (Declared dog)
null_with_reference = one_above _ _ refl

reference_with_null : IsMerge zoo (Declared (many (plain Int32))) Null (Declared (many (plain Int32)))
reference_with_null = swapped _ _ _ (one_above _ _ refl)

null_with_null : IsMerge zoo Null Null Null
null_with_null = one_above _ _ refl

native_with_native : IsMerge zoo NativeInt NativeInt NativeInt
native_with_native = one_above _ _ refl

-- ---- classes and interfaces

class_with_base : IsJoin dog animal animal
class_with_base = one_above _ _ (1, refl)

cat_is_no_dog : IsUnder cat dog → ⊥
cat_is_no_dog (zero, e) = differs cat dog refl e
cat_is_no_dog (suc zero, e) = differs animal dog refl e
cat_is_no_dog (suc (suc zero), e) = differs object dog refl e
cat_is_no_dog (suc (suc (suc n)), e) = none_is_some dog e

-- two classes meet at their closest common base
two_classes : IsJoin dog cat animal
two_classes = by_parent dog animal cat animal refl cat_is_no_dog (swapped _ _ _ (one_above _ _ (1, refl)))

object_is_no : (t : DeclaredType) → same_type object t ≡ false → IsUnder object t → ⊥
object_is_no t apart (zero, e) = differs object t apart e
object_is_no t apart (suc n, e) = none_is_some t e

runner_is_no : (t : DeclaredType) → same_type runner t ≡ false → same_type object t ≡ false → IsUnder runner t → ⊥
runner_is_no t apart far (zero, e) = differs runner t apart e
runner_is_no t apart far (suc n, e) = object_is_no t far (n, e)

-- classes without a common base of the source meet at `object`
no_common_base : IsJoin (of_class (codes "Stone")) dog object
no_common_base = by_parent (of_class (codes "Stone")) object dog object refl dog_is_no_stone (swapped _ _ _ (one_above _ _ (2, refl)))
  where
    dog_is_no_stone : IsUnder dog (of_class (codes "Stone")) → ⊥
    dog_is_no_stone (zero, e) = differs dog (of_class (codes "Stone")) refl e
    dog_is_no_stone (suc zero, e) = differs animal (of_class (codes "Stone")) refl e
    dog_is_no_stone (suc (suc n), e) = object_is_no (of_class (codes "Stone")) refl (n, e)

-- an interface is above no class, also of those that list it: its parent is `object`
class_with_interface : IsJoin dog runner object
class_with_interface =
    by_parent dog animal runner object refl (runner_is_no dog refl refl) (by_parent animal object runner object refl (runner_is_no animal refl refl) (swapped _ _ _ (one_above _ _ (1, refl))))

two_interfaces : IsJoin flyer runner object
two_interfaces = by_parent flyer object runner object refl (runner_is_no flyer refl refl) (swapped _ _ _ (one_above _ _ (1, refl)))

string_with_class : IsJoin (plain String) dog object
string_with_class = by_parent (plain String) object dog object refl dog_is_no_string (swapped _ _ _ (one_above _ _ (2, refl)))
  where
    dog_is_no_string : IsUnder dog (plain String) → ⊥
    dog_is_no_string (zero, e) = differs dog (plain String) refl e
    dog_is_no_string (suc zero, e) = differs animal (plain String) refl e
    dog_is_no_string (suc (suc n), e) = object_is_no (plain String) refl (n, e)

-- ---- arrays

-- arrays of references meet as what they hold does
two_arrays : IsJoin (many dog) (many cat) (many animal)
two_arrays = by_parent (many dog) (many animal) (many cat) (many animal) refl no_dogs (swapped _ _ _ (one_above _ _ (1, refl)))
  where
    no_dogs : IsUnder (many cat) (many dog) → ⊥
    no_dogs (zero, e) = differs (many cat) (many dog) refl e
    no_dogs (suc zero, e) = differs (many animal) (many dog) refl e
    no_dogs (suc (suc zero), e) = differs (many object) (many dog) refl e
    no_dogs (suc (suc (suc n)), e) = object_is_no (many dog) refl (n, e)

array_of_class_with_array_of_interface : IsJoin (many animal) (many runner) (many object)
array_of_class_with_array_of_interface = by_parent (many animal) (many object) (many runner) (many object) refl no_animals (swapped _ _ _ (one_above _ _ (1, refl)))
  where
    no_animals : IsUnder (many runner) (many animal) → ⊥
    no_animals (zero, e) = differs (many runner) (many animal) refl e
    no_animals (suc zero, e) = differs (many object) (many animal) refl e
    no_animals (suc (suc n), e) = object_is_no (many animal) refl (n, e)

-- an array of integers is assignable to no other array, so it meets them at `object`
arrays_of_integers : IsJoin (many (plain Int32)) (many (plain Int64)) object
arrays_of_integers = by_parent (many (plain Int32)) object (many (plain Int64)) object refl no_int32s (swapped _ _ _ (one_above _ _ (1, refl)))
  where
    no_int32s : IsUnder (many (plain Int64)) (many (plain Int32)) → ⊥
    no_int32s (zero, e) = differs (many (plain Int64)) (many (plain Int32)) refl e
    no_int32s (suc n, e) = object_is_no (many (plain Int32)) refl (n, e)

array_of_integers_with_array_of_objects : IsJoin (many (plain Int32)) (many object) object
array_of_integers_with_array_of_objects = by_parent (many (plain Int32)) object (many object) object refl no_int32s (swapped _ _ _ (one_above _ _ (1, refl)))
  where
    no_int32s : IsUnder (many object) (many (plain Int32)) → ⊥
    no_int32s (zero, e) = differs (many object) (many (plain Int32)) refl e
    no_int32s (suc n, e) = object_is_no (many (plain Int32)) refl (n, e)

-- each `int32[]` is an object, so an array of them is an array of objects
array_of_arrays_with_array_of_objects : IsJoin (arrays_of (plain Int32) 2) (many object) (many object)
array_of_arrays_with_array_of_objects = one_above _ _ (1, refl)

array_with_class : IsJoin (many dog) animal object
array_with_class =
    swapped _ _ _ (by_parent animal object (many dog) object refl no_animal (swapped _ _ _ (one_above _ _ (3, refl))))
  where
    no_animal : IsUnder (many dog) animal → ⊥
    no_animal (zero, e) = differs (many dog) animal refl e
    no_animal (suc zero, e) = differs (many animal) animal refl e
    no_animal (suc (suc zero), e) = differs (many object) animal refl e
    no_animal (suc (suc (suc n)), e) = object_is_no animal refl (n, e)

-- ---- no type is above both

integers : (merged : StackType) → IsMerge zoo i4 i8 merged → ⊥
integers (Declared t) m = by_indices m.above_first m.above_second
  where
    by_indices : IsBelow zoo i4 (Declared t) → IsBelow zoo i8 (Declared t) → ⊥
    by_indices (zero, e) (zero, f) = differs (plain Int32) (plain Int64) refl (e ∙ sym f)
    by_indices (zero, e) (suc m', f) = none_is_some t f
    by_indices (suc n, e) h = none_is_some t e
integers Null m = declared_is_null (plain Int32) m.above_first
integers NativeInt m = declared_is_native (plain Int32) m.above_first

integer_with_reference : (merged : StackType) → IsMerge zoo i4 (Declared object) merged → ⊥
integer_with_reference (Declared t) m = by_indices m.above_first m.above_second
  where
    by_indices : IsBelow zoo i4 (Declared t) → IsUnder object t → ⊥
    by_indices (zero, e) (zero, f) = differs (plain Int32) object refl (e ∙ sym f)
    by_indices (zero, e) (suc m', f) = none_is_some t f
    by_indices (suc n, e) h = none_is_some t e
integer_with_reference Null m = declared_is_null (plain Int32) m.above_first
integer_with_reference NativeInt m = declared_is_native (plain Int32) m.above_first

integer_with_null : (merged : StackType) → IsMerge zoo i8 Null merged → ⊥
integer_with_null (Declared t) m = by_indices m.above_first m.above_second
  where
    by_indices : IsBelow zoo i8 (Declared t) → IsBelow zoo Null (Declared t) → ⊥
    by_indices (zero, e) h = never (subst (λ x. IsBelow zoo Null (Declared x)) (sym (same_Some (plain Int64) t e)) h)
    by_indices (suc n, e) h = none_is_some t e
integer_with_null Null m = declared_is_null (plain Int64) m.above_first
integer_with_null NativeInt m = declared_is_native (plain Int64) m.above_first

-- a length is no int32 until it is converted
native_with_int32 : (merged : StackType) → IsMerge zoo NativeInt i4 merged → ⊥
native_with_int32 (Declared t) m = declared_is_native t (sym m.above_first)
native_with_int32 Null m = null_is_native (sym m.above_first)
native_with_int32 NativeInt m = declared_is_native (plain Int32) m.above_second

native_with_null : (merged : StackType) → IsMerge zoo NativeInt Null merged → ⊥
native_with_null (Declared t) m = declared_is_native t (sym m.above_first)
native_with_null Null m = null_is_native (sym m.above_first)
native_with_null NativeInt m = null_is_native m.above_second

-- ---- stacks

-- each slot has a type of its own above it
first_stack : AreBelow zoo (Declared dog ∷ i4 ∷ Null ∷ []) (Declared animal ∷ i4 ∷ Declared runner ∷ [])
first_stack = ((1, refl), ((0, refl), (refl, tt)))

second_stack : AreBelow zoo (Declared cat ∷ i4 ∷ Declared runner ∷ []) (Declared animal ∷ i4 ∷ Declared runner ∷ [])
second_stack = ((1, refl), ((0, refl), ((0, refl), tt)))

-- stacks of two heights have none above both
of_two_heights : (a : StackType) (rest stack : List StackType) → AreBelow zoo (a ∷ rest) stack → AreBelow zoo [] stack → ⊥
of_two_heights a rest [] h k = h
of_two_heights a rest (b ∷ bs) h k = k

-- one slot without a common type is enough
one_slot_apart : (stack : List StackType) → AreBelow zoo (i4 ∷ Null ∷ []) stack → AreBelow zoo (i4 ∷ NativeInt ∷ []) stack → ⊥
one_slot_apart [] h k = h
one_slot_apart (a ∷ []) h k = h.1
one_slot_apart (a ∷ Declared t ∷ bs) h k = declared_is_native t (sym k.1.0)
one_slot_apart (a ∷ Null ∷ bs) h k = null_is_native (sym k.1.0)
one_slot_apart (a ∷ NativeInt ∷ bs) h k = null_is_native h.1.0

-- ---- a label to which two ways lead

-- each time round the loop there is one more on the stack: `A: ldc.i4 0` and `br A`
abbrev growing : Code
growing = record { is_entry_point = false; max_stack = pos 8; locals = []; lines = record { labels = codes "A" ∷ []; instruction = LoadInt32 (pos 0) } ∷ unlabelled_line (Branch conditions.Always (codes "A")) ∷ [] }

growing_has_no_typing : (typing : Typing) → IsCodeTyping zoo [] None growing typing → ⊥
growing_has_no_typing typing t = first (t.each 0 _ [] refl t.start)
  where
    back : (a : StackType) (rest after : List StackType) → Some (a ∷ rest) ≡ Some after → Reaches zoo typing after 0 → ⊥
    back a rest after e (stack, at, below) =
        let empty : [] ≡ stack = same_Some [] stack (same_Some (Some []) (Some stack) (sym t.start ∙ at)) in
        let following : AreBelow zoo (a ∷ rest) stack = subst (λ x. AreBelow zoo x stack) (sym (same_Some (a ∷ rest) after e)) below in
        subst (λ x. AreBelow zoo (a ∷ rest) x) (sym empty) following

    third : (stack : List StackType) → AreBelow zoo (i4 ∷ []) stack → ((after : List StackType) × (Some stack ≡ Some after) × FlowsOn zoo growing typing 1 (unlabelled_line (Branch conditions.Always (codes "A"))) after) → ⊥
    third [] below x = below
    third (a ∷ rest) below (after, e, on) = back a rest after e (on.branches (codes "A") (0, lit< tt, refl))

    second : (after : List StackType) → Some (i4 ∷ []) ≡ Some after → Reaches zoo typing after 1 → ⊥
    second after e (stack, at, below) = third stack (subst (λ x. AreBelow zoo x stack) (sym (same_Some (i4 ∷ []) after e)) below) (t.each 1 _ stack refl at)

    first : ((after : List StackType) × (Some (i4 ∷ []) ≡ Some after) × FlowsOn zoo growing typing 0 (record { labels = codes "A" ∷ []; instruction = LoadInt32 (pos 0) }) after) → ⊥
    first (after, e, on) = second after e (on.falls refl)

-- the loop that takes what it puts has one: `A: ldc.i4 0`, `pop` and `br A`
abbrev steady : Code
steady = record { is_entry_point = false; max_stack = pos 1; locals = []; lines = record { labels = codes "A" ∷ []; instruction = LoadInt32 (pos 0) } ∷ unlabelled_line Pop ∷ unlabelled_line (Branch conditions.Always (codes "A")) ∷ [] }

abbrev steady_typing : Typing
steady_typing = Some [] ∷ Some (i4 ∷ []) ∷ Some [] ∷ []

-- a branch of two ways that leave a Dog and a Cat at L, of a Dog, a Cat and a number
abbrev two_ways : Code
two_ways = record {
  is_entry_point = false;
  max_stack = pos 1;
  locals = [];
  lines =
      unlabelled_line (LoadArgument (pos 2)) ∷ unlabelled_line (Branch conditions.IfTrue (codes "K")) ∷ unlabelled_line (LoadArgument (pos 0)) ∷ unlabelled_line (Branch conditions.Always (codes "L")) ∷
      record { labels = codes "K" ∷ []; instruction = LoadArgument (pos 1) } ∷ record { labels = codes "L" ∷ []; instruction = Return } ∷ [];
}

-- what is returned there is an Animal, and so is the stack at L
abbrev two_ways_typing : Typing
two_ways_typing = Some [] ∷ Some (i4 ∷ []) ∷ Some [] ∷ Some (Declared dog ∷ []) ∷ Some [] ∷ Some (Declared animal ∷ []) ∷ []

-- what a typing requires at each pc, stated of the line and the stack there
module _ (arguments : List DeclaredType) (return_type : Option DeclaredType) (code : Code) (typing : Typing) where
  abbrev IsFine : ℕ → Line → List StackType → Type 0
  IsFine pc line stack = (after : List StackType) × (flow zoo arguments code.locals return_type line.instruction stack ≡ Some after) × FlowsOn zoo code typing pc line after

  fine_at : (pc : ℕ) (l line : Line) (s stack : List StackType) → Some l ≡ Some line → Some (Some s) ≡ Some (Some stack) → IsFine pc l s → IsFine pc line stack
  fine_at pc l line s stack e f fine =
      subst (λ x. IsFine pc line x) (same_Some s stack (same_Some (Some s) (Some stack) f)) (subst (λ x. IsFine pc x s) (same_Some l line e) fine)

-- where there is no label, and where there is one
no_label : {A : Type 0} (label : List ℕ) → Contains [] label → A
no_label {A} label (k, below, at) = absurd (omega (arith, below))

its_label : (P : List ℕ → Type 0) (only label : List ℕ) → Contains (only ∷ []) label → P only → P label
its_label P only label c h = by_case (Contains-push_cases [] only label c)
  where
    by_case : Contains [] label ⊎ (only ≡ label) → P label
    by_case (inl c') = no_label label c'
    by_case (inr e) = subst P e h

low : (top : ℕ) (s stack : List StackType) → Some (Some s) ≡ Some (Some stack) → pos (length s) ≤ℤ pos top → pos (length stack) ≤ℤ pos top
low top s stack f h = subst (λ x. pos (length x) ≤ℤ pos top) (same_Some s stack (same_Some (Some s) (Some stack) f)) h

steady_has_a_typing : IsCodeTyping zoo [] None steady steady_typing
steady_has_a_typing = record { whole = refl; start = refl; height = height; each = each }
  where
    height : (pc : ℕ) (stack : List StackType) → slice_get steady_typing pc ≡ Some (Some stack) → pos (length stack) ≤ℤ pos 1
    height zero stack f = low 1 [] stack f (le_z_yes tt)
    height (suc zero) stack f = low 1 (i4 ∷ []) stack f (le_z_yes tt)
    height (suc (suc zero)) stack f = low 1 [] stack f (le_z_yes tt)
    height (suc (suc (suc n))) stack f = none_is_some (Some stack) f

    each : (pc : ℕ) (line : Line) (stack : List StackType) → slice_get steady.lines pc ≡ Some line → slice_get steady_typing pc ≡ Some (Some stack) → IsFine [] None steady steady_typing pc line stack
    each zero line stack e f = fine_at [] None steady steady_typing 0 _ line [] stack e f (_, refl, record { falls = λ t. (_, refl, ((0, refl), tt)); branches = λ label c. no_label label c })
    each (suc zero) line stack e f = fine_at [] None steady steady_typing 1 _ line (i4 ∷ []) stack e f (_, refl, record { falls = λ t. (_, refl, tt); branches = λ label c. no_label label c })
    each (suc (suc zero)) line stack e f =
        fine_at [] None steady steady_typing 2 _ line [] stack e f (
          _,
          refl,
          record { falls = λ t. never t; branches = λ label c. its_label (λ x. ReachesLabel zoo steady_typing [] (pc_of x steady.lines)) (codes "A") label c (_, refl, tt) },
        )
    each (suc (suc (suc n))) line stack e f = none_is_some line e

two_ways_have_a_typing : IsCodeTyping zoo (dog ∷ cat ∷ plain Int32 ∷ []) (Some animal) two_ways two_ways_typing
two_ways_have_a_typing = record { whole = refl; start = refl; height = height; each = each }
  where
    height : (pc : ℕ) (stack : List StackType) → slice_get two_ways_typing pc ≡ Some (Some stack) → pos (length stack) ≤ℤ pos 1
    height zero stack f = low 1 [] stack f (le_z_yes tt)
    height (suc zero) stack f = low 1 (i4 ∷ []) stack f (le_z_yes tt)
    height (suc (suc zero)) stack f = low 1 [] stack f (le_z_yes tt)
    height (suc (suc (suc zero))) stack f = low 1 (Declared dog ∷ []) stack f (le_z_yes tt)
    height (suc (suc (suc (suc zero)))) stack f = low 1 [] stack f (le_z_yes tt)
    height (suc (suc (suc (suc (suc zero))))) stack f = low 1 (Declared animal ∷ []) stack f (le_z_yes tt)
    height (suc (suc (suc (suc (suc (suc n)))))) stack f = none_is_some (Some stack) f

    fine : (pc : ℕ) (l line : Line) (s stack : List StackType) → Some l ≡ Some line → Some (Some s) ≡ Some (Some stack) → IsFine (dog ∷ cat ∷ plain Int32 ∷ []) (Some animal) two_ways two_ways_typing pc l s → IsFine (dog ∷ cat ∷ plain Int32 ∷ []) (Some animal) two_ways two_ways_typing pc line stack
    fine = fine_at (dog ∷ cat ∷ plain Int32 ∷ []) (Some animal) two_ways two_ways_typing

    each : (pc : ℕ) (line : Line) (stack : List StackType) → slice_get two_ways.lines pc ≡ Some line → slice_get two_ways_typing pc ≡ Some (Some stack) → IsFine (dog ∷ cat ∷ plain Int32 ∷ []) (Some animal) two_ways two_ways_typing pc line stack
    each zero line stack e f = fine 0 _ line [] stack e f (_, refl, record { falls = λ t. (_, refl, ((0, refl), tt)); branches = λ label c. no_label label c })
    each (suc zero) line stack e f =
        fine 1 _ line (i4 ∷ []) stack e f (
          _,
          refl,
          record { falls = λ t. (_, refl, tt); branches = λ label c. its_label (λ x. ReachesLabel zoo two_ways_typing [] (pc_of x two_ways.lines)) (codes "K") label c (_, refl, tt) },
        )
    each (suc (suc zero)) line stack e f = fine 2 _ line [] stack e f (_, refl, record { falls = λ t. (_, refl, ((0, refl), tt)); branches = λ label c. no_label label c })
    each (suc (suc (suc zero))) line stack e f =
        fine 3 _ line (Declared dog ∷ []) stack e f (
          _,
          refl,
          record { falls = λ t. never t; branches = λ label c. its_label (λ x. ReachesLabel zoo two_ways_typing (Declared dog ∷ []) (pc_of x two_ways.lines)) (codes "L") label c (_, refl, ((1, refl), tt)) },
        )
    each (suc (suc (suc (suc zero)))) line stack e f = fine 4 _ line [] stack e f (_, refl, record { falls = λ t. (_, refl, ((1, refl), tt)); branches = λ label c. no_label label c })
    each (suc (suc (suc (suc (suc zero))))) line stack e f = fine 5 _ line (Declared animal ∷ []) stack e f (_, refl, record { falls = λ t. never t; branches = λ label c. no_label label c })
    each (suc (suc (suc (suc (suc (suc n)))))) line stack e f = none_is_some line e
