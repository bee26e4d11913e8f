use Rattle.std.proofs.Common.{sym, ap, ◌∙◌}
use Rattle.std.proofs.lemmas.Option.{same_Some}
use Rattle.loaded_program.specs.declared.instructions.LinkedInstruction.TheVariants.{StoreField, LoadStaticField, StoreStaticField, NewArray, Call}
use Rattle.loaded_program.specs.Operands.{slot_at, static_at, linked_array}
use Rattle.loaded_program.specs.Links.{link, number_at}
use Rattle.loaded_program.proofs.LinkLaws.{string_is, mapped_is, field_is, new_is}
use Rattle.loaded_program.proofs.linker.Linker.link.Goals as goal

pub returns-in-LoadString : goal.returns-in-LoadString
returns-in-LoadString c required e = string_is _ c.literal_address.result required c.literal_address.ensures (sym (ap (link c.args.self.now.program.now c.args.has_value) c.in-LoadString.is) ∙ e)

pub returns-in-LoadField : goal.returns-in-LoadField
returns-in-LoadField c required e =
    field_is c.args.self.now.program.now _ c.slot.result c.kind.result required c.slot.ensures.instance c.kind.ensures (sym (ap (link c.args.self.now.program.now c.args.has_value) c.in-LoadField.is) ∙ e)

pub returns-in-StoreField : goal.returns-in-StoreField
returns-in-StoreField c required e =
    mapped_is (λ slot. StoreField slot) (slot_at c.args.self.now.program.now _) c.slot-in-StoreField.result required c.slot-in-StoreField.ensures.instance (sym (ap (link c.args.self.now.program.now c.args.has_value) c.in-StoreField.is) ∙ e)

pub returns-in-LoadStaticField : goal.returns-in-LoadStaticField
returns-in-LoadStaticField c required e =
    mapped_is (λ number. LoadStaticField number) (static_at c.args.self.now.program.now _) c.slot-in-LoadStaticField.result required c.slot-in-LoadStaticField.ensures.static_field (sym (ap (link c.args.self.now.program.now c.args.has_value) c.in-LoadStaticField.is) ∙ e)

pub returns-in-StoreStaticField : goal.returns-in-StoreStaticField
returns-in-StoreStaticField c required e =
    mapped_is (λ number. StoreStaticField number) (static_at c.args.self.now.program.now _) c.slot-in-StoreStaticField.result required c.slot-in-StoreStaticField.ensures.static_field (sym (ap (link c.args.self.now.program.now c.args.has_value) c.in-StoreStaticField.is) ∙ e)

pub returns-in-NewArray : goal.returns-in-NewArray
returns-in-NewArray c required e = mapped_is (λ element. NewArray element) (linked_array c.in-NewArray.held) c.array_element.result required c.array_element.ensures (sym (ap (link c.args.self.now.program.now c.args.has_value) c.in-NewArray.is) ∙ e)

pub returns-in-Call : goal.returns-in-Call
returns-in-Call c required e = mapped_is (λ number. Call number) (number_at c.args.self.now.program.now _) c.number.result required c.number.ensures (sym (ap (link c.args.self.now.program.now c.args.has_value) c.in-Call.is) ∙ e)

pub returns-in-CallVirtual : goal.returns-in-CallVirtual
returns-in-CallVirtual c required e = c.virtual_call.ensures required (sym (ap (link c.args.self.now.program.now c.args.has_value) c.in-CallVirtual.is) ∙ e)

pub returns-in-NewObject : goal.returns-in-NewObject
returns-in-NewObject c required e =
    new_is c.args.self.now.program.now _ c.class_of.result c.slots.result c.number-in-NewObject.result required c.class_of.ensures c.slots.ensures c.number-in-NewObject.ensures (sym (ap (link c.args.self.now.program.now c.args.has_value) c.in-NewObject.is) ∙ e)

pub returns-in-NoOperation : goal.returns-in-NoOperation
returns-in-NoOperation c required e = same_Some _ required (sym (ap (link c.args.self.now.program.now c.args.has_value) c.in-NoOperation.is) ∙ e)

pub returns-in-LoadNull : goal.returns-in-LoadNull
returns-in-LoadNull c required e = same_Some _ required (sym (ap (link c.args.self.now.program.now c.args.has_value) c.in-LoadNull.is) ∙ e)

pub returns-in-Duplicate : goal.returns-in-Duplicate
returns-in-Duplicate c required e = same_Some _ required (sym (ap (link c.args.self.now.program.now c.args.has_value) c.in-Duplicate.is) ∙ e)

pub returns-in-Pop : goal.returns-in-Pop
returns-in-Pop c required e = same_Some _ required (sym (ap (link c.args.self.now.program.now c.args.has_value) c.in-Pop.is) ∙ e)

pub returns-in-Binary : goal.returns-in-Binary
returns-in-Binary c required e = same_Some _ required (sym (ap (link c.args.self.now.program.now c.args.has_value) c.in-Binary.is) ∙ e)

pub returns-in-Unary : goal.returns-in-Unary
returns-in-Unary c required e = same_Some _ required (sym (ap (link c.args.self.now.program.now c.args.has_value) c.in-Unary.is) ∙ e)

pub returns-in-Shift : goal.returns-in-Shift
returns-in-Shift c required e = same_Some _ required (sym (ap (link c.args.self.now.program.now c.args.has_value) c.in-Shift.is) ∙ e)

pub returns-in-Compare : goal.returns-in-Compare
returns-in-Compare c required e = same_Some _ required (sym (ap (link c.args.self.now.program.now c.args.has_value) c.in-Compare.is) ∙ e)

pub returns-in-ConvertInt32 : goal.returns-in-ConvertInt32
returns-in-ConvertInt32 c required e = same_Some _ required (sym (ap (link c.args.self.now.program.now c.args.has_value) c.in-ConvertInt32.is) ∙ e)

pub returns-in-ConvertInt64 : goal.returns-in-ConvertInt64
returns-in-ConvertInt64 c required e = same_Some _ required (sym (ap (link c.args.self.now.program.now c.args.has_value) c.in-ConvertInt64.is) ∙ e)

pub returns-in-Branch : goal.returns-in-Branch
returns-in-Branch c required e = same_Some _ required (sym (ap (link c.args.self.now.program.now c.args.has_value) c.in-Branch.is) ∙ e)

pub returns-in-LoadLength : goal.returns-in-LoadLength
returns-in-LoadLength c required e = same_Some _ required (sym (ap (link c.args.self.now.program.now c.args.has_value) c.in-LoadLength.is) ∙ e)

pub returns-in-LoadElement : goal.returns-in-LoadElement
returns-in-LoadElement c required e = same_Some _ required (sym (ap (link c.args.self.now.program.now c.args.has_value) c.in-LoadElement.is) ∙ e)

pub returns-in-StoreElement : goal.returns-in-StoreElement
returns-in-StoreElement c required e = same_Some _ required (sym (ap (link c.args.self.now.program.now c.args.has_value) c.in-StoreElement.is) ∙ e)

pub returns-in-CastClass : goal.returns-in-CastClass
returns-in-CastClass c required e = same_Some _ required (sym (ap (link c.args.self.now.program.now c.args.has_value) c.in-CastClass.is) ∙ e)

pub returns-in-IsInstance : goal.returns-in-IsInstance
returns-in-IsInstance c required e = same_Some _ required (sym (ap (link c.args.self.now.program.now c.args.has_value) c.in-IsInstance.is) ∙ e)

pub returns-in-Return : goal.returns-in-Return
returns-in-Return c required e = same_Some _ required (sym (ap (link c.args.self.now.program.now c.args.has_value) c.in-Return.is) ∙ e)
