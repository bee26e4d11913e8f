-- When fields and methods are the same they are equal, and conversely.
use Rattle.std.proofs.Common.{◌≡◌, Bool, refl, IsTrue}
use Rattle.std.proofs.lemmas.Bool.{and_from, eqb-true, eq-eqb}
use Rattle.std.specs.Cmp.{IsEquivalence}
use Rattle.cil_model.specs.declared.trees.Field.{Field}
use Rattle.cil_model.proofs.SameLaws.{both_first, both_second, same_text_equal, same_flag_equal, same_type_equal, same_signature_equal, same_method_name_equal}
use Rattle.cil_model.proofs.SameLaws.{same_text_itself, same_flag_itself, same_type_itself, same_signature_itself, same_method_name_itself, equivalence}
use Rattle.name_tables.specs.declared.keys.CallNumber.{CallNumber}
use Rattle.name_tables.specs.Sameness.{MethodIdentity, same_field, same_identity, same_call_identity, same_call}

-- ---- what is the same is equal

pub same_field_equal : (a b : Field) → IsTrue (same_field a b) → a ≡ b
same_field_equal a b h = λ i. record {
  is_static = same_flag_equal a.is_static b.is_static (both_second _ _ h) i;
  field_type = same_type_equal a.field_type b.field_type (both_second _ _ (both_first _ _ h)) i;
  name = same_text_equal a.name b.name (both_first _ _ (both_first _ _ h)) i;
}

pub same_identity_equal : (a b : MethodIdentity) → IsTrue (same_identity a b) → a ≡ b
same_identity_equal a b h = λ i. record {
  name = same_method_name_equal a.name b.name (both_first _ _ h) i;
  signature = same_signature_equal a.signature b.signature (both_second _ _ h) i;
}

pub same_call_identity_equal : (a b : MethodIdentity × Bool) → IsTrue (same_call_identity a b) → a ≡ b
same_call_identity_equal a b h = λ i. (same_identity_equal a.0 b.0 (both_first _ _ h) i, same_flag_equal a.1 b.1 (both_second _ _ h) i)

pub same_call_equal : (a b : CallNumber) → IsTrue (same_call a b) → a ≡ b
same_call_equal a b h = λ i. record {
  number = eqb-true a.number b.number (both_first _ _ h) i;
  is_static = same_flag_equal a.is_static b.is_static (both_second _ _ h) i;
}

-- ---- what is equal is the same

pub same_field_reflexive : (f : Field) → IsTrue (same_field f f)
same_field_reflexive f = and_from _ _ (and_from _ _ (same_text_itself f.name) (same_type_itself f.field_type)) (same_flag_itself f.is_static)

pub same_identity_reflexive : (m : MethodIdentity) → IsTrue (same_identity m m)
same_identity_reflexive m = and_from _ _ (same_method_name_itself m.name) (same_signature_itself m.signature)

pub same_call_identity_reflexive : (m : MethodIdentity × Bool) → IsTrue (same_call_identity m m)
same_call_identity_reflexive m = and_from _ _ (same_identity_reflexive m.0) (same_flag_itself m.1)

pub same_call_reflexive : (c : CallNumber) → IsTrue (same_call c c)
same_call_reflexive c = and_from _ _ (eq-eqb c.number c.number refl) (same_flag_itself c.is_static)

pub field_equivalence : IsEquivalence same_field
field_equivalence = equivalence same_field same_field_reflexive same_field_equal

pub identity_equivalence : IsEquivalence same_identity
identity_equivalence = equivalence same_identity same_identity_reflexive same_identity_equal

pub call_identity_equivalence : IsEquivalence same_call_identity
call_identity_equivalence = equivalence same_call_identity same_call_identity_reflexive same_call_identity_equal

pub call_equivalence : IsEquivalence same_call
call_equivalence = equivalence same_call same_call_reflexive same_call_equal
