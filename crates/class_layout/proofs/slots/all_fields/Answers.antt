use Rattle.std.proofs.Common.{◌≡◌, ◌+◌, ◌++◌, ◌∷◌, [], ℕ, List, length, map, drop, refl, sym, ap, ◌∙◌, arith, append_assoc}
use Rattle.std.proofs.lemmas.List.{append-nil, map-append, length-map}
use Rattle.std.proofs.lemmas.Option.{slice_get_read}
use Rattle.cil_model.specs.declared.types.ClassName.{ClassName}
use Rattle.cil_model.specs.Declarations.{Declaration}
use Rattle.cil_model.specs.Chains.{fields_declared}
use Rattle.name_tables.specs.Numbers.{declarations}
use Rattle.resolved_code.specs.declared.classes.ResolvedClass.{ResolvedClass}
use Rattle.resolved_code.specs.declared.classes.ResolvedField.{ResolvedField}
use Rattle.resolved_code.proofs.ListLaws.RelatedLists.{alike_length}
use Rattle.class_layout.specs.FieldSlots.{fields_by_id, statics_after, static_by_id, first_slot, field_rows, class_names}
use Rattle.class_layout.proofs.ResolvedLaws.{IsClass, by_id_alike, slot_alike}
use Rattle.class_layout.proofs.CountLaws.{AreFieldsOf, drop_at, statics_of, counted_on, statics_fit, fields_of, statics_alike_at, slots_fit}
use Rattle.class_layout.proofs.slots.all_fields.Goals as goal

drop_all : {X : Type 0} (xs : List X) (i : ℕ) → i ≡ length xs → drop i xs ≡ []
drop_all [] i h = ap (λ n. drop n []) h
drop_all (x ∷ xs) i h = ap (λ n. drop n (x ∷ xs)) h ∙ drop_all xs (length xs) refl

pub field_row-requires-clause-statics : goal.field_row-requires-clause-statics
field_row-requires-clause-statics c =
    let s = c.args.classes.now in
    let t = s.program.now in
    let i = c.loop-class.class in
    let r = c.index-all-class.result in
    let fields = c.as_slice-fields.result.now in
    let are : AreFieldsOf t i fields =
    fields_of t s.legal s.all.now c.requires.resolved i r fields (slice_get_read s.all.now (length s.all.now) i r refl (omega arith) c.index-all-class.is) (c.as_slice-fields.ensures ∙ sym (ap (λ (x : ResolvedClass). x.fields) c.index-all-class.is)) in
    omega (arith, statics_alike_at t i fields are c.loop-class.next, statics_fit t s.legal c.loop-class.next i are.entry.0 are.named c.loop-class.invariant.counted)

pub field_row-requires-clause-slots : goal.field_row-requires-clause-slots
field_row-requires-clause-slots c =
    let s = c.args.classes.now in
    let t = s.program.now in
    let i = c.loop-class.class in
    let r = c.index-all-class.result in
    let fields = c.as_slice-fields.result.now in
    let are : AreFieldsOf t i fields =
    fields_of t s.legal s.all.now c.requires.resolved i r fields (slice_get_read s.all.now (length s.all.now) i r refl (omega arith) c.index-all-class.is) (c.as_slice-fields.ensures ∙ sym (ap (λ (x : ResolvedClass). x.fields) c.index-all-class.is)) in
    slots_fit t i fields are _ c.first_slot.result c.requires.own (rw c.new.ensures at c.first_slot.ensures.fits)

pub statics_after-next-requires : goal.statics_after-next-requires
statics_after-next-requires c =
    let s = c.args.classes.now in
    let t = s.program.now in
    let i = c.loop-class.class in
    let r = c.index-all-class.result in
    let fields = c.as_slice-fields.result.now in
    let are : AreFieldsOf t i fields =
    fields_of t s.legal s.all.now c.requires.resolved i r fields (slice_get_read s.all.now (length s.all.now) i r refl (omega arith) c.index-all-class.is) (c.as_slice-fields.ensures ∙ sym (ap (λ (x : ResolvedClass). x.fields) c.index-all-class.is)) in
    omega (arith, statics_alike_at t i fields are c.loop-class.next, statics_fit t s.legal c.loop-class.next i are.entry.0 are.named c.loop-class.invariant.counted)

pub loop-class-preserved : goal.loop-class-preserved
loop-class-preserved c =
    let s = c.args.classes.now in
    let t = s.program.now in
    let i = c.loop-class.class in
    let next = c.loop-class.next in
    let names = class_names t in
    let r = c.index-all-class.result in
    let fields = c.as_slice-fields.result.now in
    let are : AreFieldsOf t i fields =
    fields_of t s.legal s.all.now c.requires.resolved i r fields (slice_get_read s.all.now (length s.all.now) i r refl (omega arith) c.index-all-class.is) (c.as_slice-fields.ensures ∙ sym (ap (λ (x : ResolvedClass). x.fields) c.index-all-class.is)) in
    let name : ClassName = are.entry.0 in
    let slot : c.first_slot.result ≡ first_slot t name = (rw c.new.ensures at c.first_slot.ensures.following) ∙ slot_alike t _ _ i are.entry c.requires.kinds c.requires.own are.there in
    let row : c.in_ok-field_row.field-0.items ≡ fields_by_id next (first_slot t name) (fields_declared t name) =
    c.in_ok-field_row.ensures ∙ ap (λ n. static_by_id next n (map (λ (f : ResolvedField). f.is_static) fields)) slot ∙ ap (static_by_id next (first_slot t name)) are.flags ∙ by_id_alike next (first_slot t name) (fields_declared t name) in
    let after : c.statics_after-next.result ≡ statics_after next (fields_declared t name) = c.statics_after-next.ensures ∙ statics_alike_at t i fields are next in
    let before = map (λ row. row.items) c.loop-class.rows.items in
    let rest = drop (i + 1) names in
    record {
      has_id =
          ap (λ rows. map (λ row. row.items) rows ++ field_rows t c.statics_after-next.result rest) c.in_ok-push.ensures.items ∙
          ap (λ rows. rows ++ field_rows t c.statics_after-next.result rest) (map-append (λ row. row.items) c.loop-class.rows.items (c.in_ok-field_row.field-0 ∷ [])) ∙
          append_assoc before (c.in_ok-field_row.field-0.items ∷ []) (field_rows t c.statics_after-next.result rest) ∙
          ap (λ ns. before ++ (ns ∷ field_rows t c.statics_after-next.result rest)) row ∙
          ap (λ n. before ++ (fields_by_id next (first_slot t name) (fields_declared t name) ∷ field_rows t n rest)) after ∙
          ap (λ cs. before ++ field_rows t next cs) (sym (drop_at names i name are.named)) ∙ c.loop-class.invariant.has_id;
      counted = ap (λ n. statics_of t n rest) after ∙ sym (counted_on t next i name are.named) ∙ c.loop-class.invariant.counted;
    }

pub returns : goal.returns
returns c =
    let s = c.args.classes.now in
    let t = s.program.now in
    let many : length (declarations t) ≡ length s.all.now = alike_length (IsClass t) (declarations t) s.all.now c.requires.resolved in
    let named : length (class_names t) ≡ length (declarations t) = length-map (declarations t) (λ (x : ClassName × Declaration). x.0) in
    let seen : c.loop-class.class ≡ length (class_names t) = omega arith in
    let before = map (λ row. row.items) c.loop-class.rows.items in
    sym (append-nil before) ∙ ap (λ cs. before ++ field_rows t c.loop-class.next cs) (sym (drop_all (class_names t) c.loop-class.class seen)) ∙ c.loop-class.invariant.has_id
