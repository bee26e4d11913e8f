-- Locals, fields and words hold zeros of their kinds at first.
use Rattle.std.proofs.Common.{◌≡◌, ◌≤◌, ℕ, zero, pos, List, [], ◌∷◌, map, flat_map, length, replicate, Option, Some, None, refl, sym, ap, ◌∙◌, subst, arith, suc}
use Rattle.std.proofs.Math.Facts.{sfits_lit}
use Rattle.std.proofs.lemmas.List.{length-map, append-nil}
use Rattle.std.specs.Prelude.{option_to_list, FitsSigned}
use Rattle.std.specs.Int.{w32, w64}
use Rattle.interpreter.specs.cil_model.declared.types.DeclaredType.{DeclaredType}
use Rattle.interpreter.specs.cil_model.declared.types.Element.{Element}
use Rattle.interpreter.specs.cil_model.declared.types.Element.TheVariants.{Int32 as Int32Element, Int64 as Int64Element, Object, String, Class}
use Rattle.interpreter.specs.cil_model.declared.trees.Method.{Method}
use Rattle.interpreter.specs.cil_model.declared.trees.Code.{Code}
use Rattle.interpreter.specs.cil_model.Bodies.{code_of}
use Rattle.interpreter.specs.cil_model.Fields.{FieldKey}
use Rattle.interpreter.proofs.cil_model.BelowLaws.{typed as typed_as}
use Rattle.interpreter.specs.reference_machine.Values.{Value as StateValue, zero_of}
use Rattle.interpreter.specs.reference_machine.States.{zero_fields}
use Rattle.interpreter.specs.object_memory.Values.{value_word}
use Rattle.interpreter.specs.cil_model.ValueKinds.{kind_at, kind_of_type}
use Rattle.interpreter.specs.loaded_program.LocalKinds.{local_kinds}
use Rattle.interpreter.specs.threads_monitors.Frames.{zero_value}
use Rattle.simulation.specs.Agreement.{Agree}
use Rattle.simulation.specs.Refines.{Names, IsValue, int32, int64, null_reference, IsWord}

-- 0 has the bits of either size
zero_fits_32 : FitsSigned w32 (pos 0)
zero_fits_32 = sfits_lit tt

zero_fits_64 : FitsSigned w64 (pos 0)
zero_fits_64 = sfits_lit tt

-- the code whose locals a method has
locals_are : (m : Method) (code : Code) → code_of m.kind ≡ Some code → local_kinds m ≡ map kind_of_type code.locals
locals_are m code coded = ap (map kind_of_type) (ap (λ o. flat_map (λ (c : Code). c.locals) (option_to_list o)) coded ∙ append-nil code.locals)

-- how many there are
pub local_count : (m : Method) (code : Code) → code_of m.kind ≡ Some code → length (local_kinds m) ≡ length code.locals
local_count m code coded = ap length (locals_are m code coded) ∙ length-map code.locals kind_of_type

-- a method with code of few locals, or without code, has few
pub locals_low : (m : Method) (most : ℕ) → ((code : Code) → code_of m.kind ≡ Some code → length code.locals ≤ most) → length (local_kinds m) ≤ most
locals_low m most each = by_code (code_of m.kind) refl
  where
    by_code : (o : Option Code) → code_of m.kind ≡ o → length (map kind_of_type (flat_map (λ (c : Code). c.locals) (option_to_list o))) ≤ most
    by_code None e = omega arith
    by_code (Some code) e = subst (λ n. n ≤ most) (sym (length-map (flat_map (λ (c : Code). c.locals) (code ∷ [])) kind_of_type ∙ ap length (append-nil code.locals))) (each code e)

module _ (name : Names) where
  -- what a variable of a type holds at first
  zero_refines : (t : DeclaredType) → IsValue name (zero_value (kind_of_type t)) (zero_of t)
  zero_refines t = by_type t.element t.brackets
    where
      by_type : (e : Element) (n : ℕ) → IsValue name (zero_value (kind_at e n)) (zero_of (typed_as e n))
      by_type Int32Element zero = int32 (pos 0) zero_fits_32
      by_type Int64Element zero = int64 (pos 0) zero_fits_64
      by_type Object zero = null_reference
      by_type String zero = null_reference
      by_type (Class c) zero = null_reference
      by_type e (suc n) = null_reference

  -- and its word is 0
  zero_word : (t : DeclaredType) → value_word (zero_value (kind_of_type t)) ≡ 0
  zero_word t = by_type t.element t.brackets
    where
      by_type : (e : Element) (n : ℕ) → value_word (zero_value (kind_at e n)) ≡ 0
      by_type Int32Element zero = refl
      by_type Int64Element zero = refl
      by_type Object zero = refl
      by_type String zero = refl
      by_type (Class c) zero = refl
      by_type e (suc n) = refl

  -- those of a list
  zeros_refine : (ts : List DeclaredType) → Agree (IsValue name) (map zero_value (map kind_of_type ts)) (map zero_of ts)
  zeros_refine [] = tt
  zeros_refine (t ∷ ts) = (zero_refines t, zeros_refine ts)

  -- the locals of a method with code
  pub locals_refine : (m : Method) (code : Code) → code_of m.kind ≡ Some code → Agree (IsValue name) (map zero_value (local_kinds m)) (map zero_of code.locals)
  locals_refine m code coded = subst (λ ks. Agree (IsValue name) (map zero_value ks) (map zero_of code.locals)) (sym (locals_are m code coded)) (zeros_refine code.locals)

  -- static fields
  pub fields_refine : (fs : List (FieldKey × DeclaredType)) → Agree (λ v (f : FieldKey × StateValue). IsValue name v f.1) (map (λ (f : FieldKey × DeclaredType). zero_value (kind_of_type f.1)) fs) (zero_fields fs)
  fields_refine [] = tt
  fields_refine (f ∷ fs) = (zero_refines f.1, fields_refine fs)

  -- the words of an object's fields
  pub words_refine : (fs : List (FieldKey × DeclaredType)) → Agree (λ w (f : FieldKey × StateValue). IsWord name w f.1) (replicate (length fs) 0) (zero_fields fs)
  words_refine [] = tt
  words_refine (f ∷ fs) = (record { value = zero_value (kind_of_type f.1); refines = zero_refines f.1; is = zero_word f.1 }, words_refine fs)
