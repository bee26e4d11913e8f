-- What is known of operands that represent something.
use Rattle.std.proofs.Common.{◌≡◌, ◌<◌, ◌^◌, ℕ, Bool, true, false, if◌then◌else◌, nat_lt, length, Option, Some, None, option_map, option_and_then, refl, ap, subst, ◌∙◌, arith}
use Rattle.std.proofs.lemmas.Bool.Decides.{nat_tests}
use Rattle.cil_model.specs.declared.types.ClassName.{ClassName}
use Rattle.cil_model.specs.declared.trees.Tree.{Tree}
use Rattle.cil_model.specs.declared.trees.Field.{Field}
use Rattle.cil_model.specs.declared.trees.Method.{Method}
use Rattle.cil_model.specs.Fields.{instance_slot, static_slot, slot_types}
use Rattle.name_tables.specs.declared.ids.FieldId.{FieldId}
use Rattle.name_tables.specs.declared.ids.MethodId.{MethodId}
use Rattle.name_tables.specs.Numbers.{field_at, method_at}
use Rattle.resolved_code.specs.ResolvedPrograms.{BothAlike}
use Rattle.resolved_code.specs.ById.{class_name}
use Rattle.loaded_program.specs.AllMethods.{flat_number}
use Rattle.loaded_program.specs.Operands.{small, key_at, slot_in, slot_at, static_in, static_at, slots_at}
use Rattle.loaded_program.specs.Links.{number_at}

-- ---- options

module _ {X Y : Type 0} (R : X → Y → Type 0) where
  pub alike_both : (x : Option X) (y : Option Y) (a : X) (b : Y) → BothAlike R x y → x ≡ Some a → y ≡ Some b → R a b
  alike_both (Some x) (Some y) a b alike e f =
      let first : x ≡ a = cc in
      let second : y ≡ b = cc in
      subst (λ z. R a z) second (subst (λ z. R z y) first alike)
  alike_both None y a b alike e f = absurd (cc e)
  alike_both (Some x) None a b alike e f = absurd (cc f)

  pub alike_none : (x : Option X) (y : Option Y) (a : X) → BothAlike R x y → x ≡ Some a → y ≡ None → ⊥
  alike_none (Some x) None a alike e f = alike
  alike_none (Some x) (Some y) a alike e f = absurd (cc f)
  alike_none None y a alike e f = absurd (cc e)

pub then_some : {X Y : Type 0} (f : X → Option Y) (o : Option X) (y : Y) → option_and_then f o ≡ Some y → (x : X) × (o ≡ Some x) × (f x ≡ Some y)
then_some f (Some x) y e = (x, refl, e)
then_some f None y e = absurd (cc e)

pub map_some : {X Y : Type 0} (f : X → Y) (o : Option X) (y : Y) → option_map f o ≡ Some y → (x : X) × (o ≡ Some x) × (f x ≡ y)
map_some f (Some x) y e = let same : f x ≡ y = cc in (x, refl, same)
map_some f None y e = absurd (cc e)

-- what a test lets through
pub if_some : {X : Type 0} (b : Bool) (o : Option X) (x : X) → (if b then o else None) ≡ Some x → (b ≡ true) × (o ≡ Some x)
if_some true o x e = (refl, e)
if_some false o x e = absurd (cc e)

pub unless_some : {X : Type 0} (b : Bool) (o : Option X) (x : X) → (if b then None else o) ≡ Some x → (b ≡ false) × (o ≡ Some x)
unless_some true o x e = absurd (cc e)
unless_some false o x e = (refl, e)

pub below : (n k : ℕ) → nat_lt n k ≡ true → n < k
below n k test = grind (arith, nat_tests)

-- ---- operands

small_is : (k n : ℕ) → small k ≡ Some n → (k ≡ n) × (n < 2 ^ 32)
small_is k n e =
    let passed = if_some (nat_lt k (2 ^ 32)) (Some k) n e in
    let some = passed.1 in
    let same : k ≡ n = cc in
    (same, subst (λ x. x < 2 ^ 32) same (below k (2 ^ 32) passed.0))

module _ (tree : Tree) (field : FieldId) (n : ℕ) where
  -- an instance field and its slot
  pub record InstanceField : Type 0 where
    pub found : ClassName × Field
    pub found_is : field_at tree (field.class, field.index) ≡ Some found
    pub is_instance : found.1.is_static ≡ false
    pub slot_is : instance_slot tree (key_at found) ≡ Some n
    pub fits : n < 2 ^ 32

  pub instance_field : slot_at tree field ≡ Some n → InstanceField
  instance_field e =
      let found = then_some (slot_in tree) (field_at tree (field.class, field.index)) n e in
      let kind = unless_some found.0.1.is_static (option_and_then small (instance_slot tree (key_at found.0))) n found.2 in
      let slot = then_some small (instance_slot tree (key_at found.0)) n kind.1 in
      let size = small_is slot.0 n slot.2 in
      record { found = found.0; found_is = found.1; is_instance = kind.0; slot_is = slot.1 ∙ ap Some size.0; fits = size.1 }

  -- a static field and its number
  pub record StaticField : Type 0 where
    pub found : ClassName × Field
    pub found_is : field_at tree (field.class, field.index) ≡ Some found
    pub is_static : found.1.is_static ≡ true
    pub number_is : static_slot tree (key_at found) ≡ Some n
    pub fits : n < 2 ^ 32

  pub static_field : static_at tree field ≡ Some n → StaticField
  static_field e =
      let found = then_some (static_in tree) (field_at tree (field.class, field.index)) n e in
      let kind = if_some found.0.1.is_static (option_and_then small (static_slot tree (key_at found.0))) n found.2 in
      let number = then_some small (static_slot tree (key_at found.0)) n kind.1 in
      let size = small_is number.0 n number.2 in
      record { found = found.0; found_is = found.1; is_static = kind.0; number_is = number.1 ∙ ap Some size.0; fits = size.1 }

-- the class of a member, and the size of its objects
pub record Sized (tree : Tree) (member : MethodId) (n : ℕ) : Type 0 where
  pub class : ClassName
  pub class_is : class_name tree member.class ≡ Some class
  pub size_is : length (slot_types tree class) ≡ n
  pub fits : n < 2 ^ 32

pub sized : (tree : Tree) (member : MethodId) (n : ℕ) → slots_at tree member ≡ Some n → Sized tree member n
sized tree member n e =
    let class = then_some (λ c. small (length (slot_types tree c))) (class_name tree member.class) n e in
    let size = small_is (length (slot_types tree class.0)) n class.2 in
    record { class = class.0; class_is = class.1; size_is = size.0; fits = size.1 }

-- the method of a number, and its flat number
pub record HasFlatNumber (tree : Tree) (member : MethodId) (n : ℕ) : Type 0 where
  pub found : ClassName × Method
  pub found_is : method_at tree (member.class, member.index) ≡ Some found
  pub number_is : flat_number tree member.class member.index ≡ n

pub has_id : (tree : Tree) (member : MethodId) (n : ℕ) → number_at tree member ≡ Some n → HasFlatNumber tree member n
has_id tree member n e =
    let found = map_some (λ (found : ClassName × Method). flat_number tree member.class member.index) (method_at tree (member.class, member.index)) n e in
    record { found = found.0; found_is = found.1; number_is = found.2 }
