-- Links with their operands.
use Rattle.std.proofs.Common.{◌≡◌, ◌<◌, ℕ, if◌then◌else◌, nat_lt, Option, Some, None, option_map, option_and_then, ap, ◌∙◌}
use Rattle.std.proofs.lemmas.Option.{same_Some}
use Rattle.cil_model.specs.declared.trees.Tree.{Tree}
use Rattle.name_tables.specs.declared.ids.FieldId.{FieldId}
use Rattle.name_tables.specs.declared.ids.MethodId.{MethodId}
use Rattle.object_memory.specs.declared.addresses.Addr.{Addr}
use Rattle.object_memory.specs.declared.addresses.TheConstants.{FIRST_LITERAL}
use Rattle.cil_model.specs.declared.values.ValueKind.{ValueKind}
use Rattle.object_memory.specs.Cells.{literal}
use Rattle.loaded_program.specs.declared.instructions.LinkedInstruction.{LinkedInstruction}
use Rattle.loaded_program.specs.declared.instructions.LinkedInstruction.TheVariants as Linked
use Rattle.loaded_program.specs.Operands.{slot_at, field_kind_at, class_in, slots_at}
use Rattle.loaded_program.specs.Links.{field_link, new_link, number_at}
use Rattle.loaded_program.proofs.OperandLaws.{then_some, map_some, if_some, below}

-- what is known of an operand where it represents something
abbrev Known : {X : Type 0} → Option X → X → Type 0
Known {X} o x = (y : X) → o ≡ Some y → x ≡ y

pub string_is : (n : ℕ) (a : Addr) (required : LinkedInstruction) → (n < FIRST_LITERAL → a ≡ literal n) → (if nat_lt n FIRST_LITERAL then Some (Linked.LoadString (literal n)) else None) ≡ Some required → Linked.LoadString a ≡ required
string_is n a required known e =
    let passed = if_some (nat_lt n FIRST_LITERAL) (Some (Linked.LoadString (literal n))) required e in
    ap (λ x. Linked.LoadString x) (known (below n FIRST_LITERAL passed.0)) ∙ same_Some (Linked.LoadString (literal n)) required passed.1

pub mapped_is : {X : Type 0} (make : X → LinkedInstruction) (o : Option X) (x : X) (required : LinkedInstruction) → Known o x → option_map make o ≡ Some required → make x ≡ required
mapped_is make o x required known e =
    let there = map_some make o required e in
    ap make (known there.0 there.1) ∙ there.2

pub field_is : (tree : Tree) (n : FieldId) (slot : ℕ) (kind : ValueKind) (required : LinkedInstruction) → Known (slot_at tree n) slot → Known (field_kind_at tree n) kind → field_link tree n ≡ Some required → Linked.LoadField slot kind ≡ required
field_is tree n slot kind required slot_known kind_known e =
    let first = then_some (λ slot. option_map (λ kind. Linked.LoadField slot kind) (field_kind_at tree n)) (slot_at tree n) required e in
    ap (λ x. Linked.LoadField x kind) (slot_known first.0 first.1) ∙ mapped_is (λ x. Linked.LoadField first.0 x) (field_kind_at tree n) kind required kind_known first.2

pub new_is : (tree : Tree) (n : MethodId) (class slots number : ℕ) (required : LinkedInstruction) → Known (class_in n) class → Known (slots_at tree n) slots → Known (number_at tree n) number → new_link tree n ≡ Some required
    → Linked.NewObject class slots number ≡ required
new_is tree n class slots number required class_known slots_known number_known e =
    let first = then_some (λ class. option_and_then (λ slots. option_map (λ number. Linked.NewObject class slots number) (number_at tree n)) (slots_at tree n)) (class_in n) required e in
    let second = then_some (λ slots. option_map (λ number. Linked.NewObject first.0 slots number) (number_at tree n)) (slots_at tree n) required first.2 in
    ap (λ x. Linked.NewObject x slots number) (class_known first.0 first.1) ∙ ap (λ x. Linked.NewObject first.0 x number) (slots_known second.0 second.1)
    ∙ mapped_is (λ x. Linked.NewObject first.0 second.0 x) (number_at tree n) number required number_known second.2
