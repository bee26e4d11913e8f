-- What no step of the reference machine takes back (this profile).
use Rattle.std.specs.Prelude.{◌≡◌, ℕ, List, ◌++◌, map, length}
use Rattle.cil_model.specs.declared.types.ClassName.{ClassName}
use Rattle.cil_model.specs.declared.types.DeclaredType.{DeclaredType}
use Rattle.cil_model.specs.Fields.{FieldKey}
use Rattle.reference_machine.specs.Values.{Value}
use Rattle.reference_machine.specs.States.{Monitor, Contents, Instance, Array, HeapObject, State}

-- what an object keeps for good: its class with the keys of its fields, or the type and the number of its elements
pub data Shape : Type 0 where
  OfInstance : ClassName → List FieldKey → Shape
  OfArray : DeclaredType → ℕ → Shape

-- the shape of contents
abbrev pub shape_of : Contents → Shape
shape_of (Instance c fields) = OfInstance c (map (λ (e : FieldKey × Value). e.0) fields)
shape_of (Array t elements) = OfArray t (length elements)

-- the shapes of all objects, by birth
abbrev pub shapes : State → List Shape
shapes s = map (λ (o : HeapObject). shape_of o.contents) s.objects

-- the static fields that have a value
abbrev pub static_keys : State → List FieldKey
static_keys s = map (λ (e : FieldKey × Value). e.0) s.statics

-- the literals that have a monitor
abbrev pub literals : State → List (List ℕ)
literals s = map (λ (e : List ℕ × Monitor). e.0) s.literal_monitors

-- the list continues where the other ends
abbrev pub Continues : {X : Type 0} → List X → List X → Type 0
Continues {X} longer shorter = (more : List X) × (longer ≡ shorter ++ more)

-- Objects keep their names and shapes, and so their types; static fields and literals stay those of the program; what was
-- printed stays.
pub record Follows (before after : State) : Type 0 where
  pub objects : Continues (shapes after) (shapes before)
  pub statics : static_keys after ≡ static_keys before
  pub literals_stay : literals after ≡ literals before
  pub printed : Continues after.printed before.printed
