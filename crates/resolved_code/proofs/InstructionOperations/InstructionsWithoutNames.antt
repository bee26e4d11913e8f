-- Instructions without names: no literal, and one operation that is the same in each program.
use Rattle.std.proofs.Common.{◌≡◌, ℕ, Bool, List, None, refl}
use Rattle.cil_model.specs.declared.types.ClassName.{ClassName}
use Rattle.cil_model.specs.declared.types.DeclaredType.{DeclaredType}
use Rattle.cil_model.specs.declared.types.Signature.{Signature}
use Rattle.cil_model.specs.declared.instructions.BranchCondition.{BranchCondition}
use Rattle.cil_model.specs.declared.instructions.FieldReference.{FieldReference}
use Rattle.cil_model.specs.declared.instructions.MethodReference.{MethodReference}
use Rattle.cil_model.specs.declared.instructions.Instruction.{Instruction}
use Rattle.cil_model.specs.declared.instructions.Instruction.TheVariants as Named
use Rattle.cil_model.specs.declared.trees.Tree.{Tree}
use Rattle.cil_model.specs.declared.trees.Line.{Line}
use Rattle.cil_model.specs.Mentions.{literal_of}
use Rattle.resolved_code.specs.Rules.{plain_rule, operation_rule}

-- no literal, no text of one
pub no_literal : (i : Instruction) → ((s : List ℕ) → i ≡ Named.LoadString s → ⊥) → literal_of i ≡ None
no_literal (Named.LoadString s) h = absurd (h s refl)
no_literal _ _ = refl

-- what is in none of the groups names nothing
pub named_nothing : (tree : Tree) (lines : List Line) (i : Instruction) →
    ((s : List ℕ) → i ≡ Named.LoadString s → ⊥) →
    ((condition : BranchCondition) (l : List ℕ) → i ≡ Named.Branch condition l → ⊥) →
    ((ls : List (List ℕ)) → i ≡ Named.Switch ls → ⊥) →
    ((r : FieldReference) → i ≡ Named.LoadField r → ⊥) →
    ((r : FieldReference) → i ≡ Named.StoreField r → ⊥) →
    ((r : FieldReference) → i ≡ Named.LoadStaticField r → ⊥) →
    ((r : FieldReference) → i ≡ Named.StoreStaticField r → ⊥) →
    ((t : DeclaredType) → i ≡ Named.NewArray t → ⊥) →
    ((t : DeclaredType) → i ≡ Named.CastClass t → ⊥) →
    ((t : DeclaredType) → i ≡ Named.IsInstance t → ⊥) →
    ((b : Bool) (r : MethodReference) → i ≡ Named.Call b r → ⊥) →
    ((c : ClassName) (n : List ℕ) (g : Signature) → i ≡ Named.CallVirtual c n g → ⊥) →
    ((c : ClassName) (ps : List DeclaredType) → i ≡ Named.NewObject c ps → ⊥) →
    plain_rule i ≡ operation_rule tree lines i
named_nothing tree lines (Named.LoadString s) absent _ _ _ _ _ _ _ _ _ _ _ _ = absurd (absent s refl)
named_nothing tree lines (Named.Branch condition l) _ absent _ _ _ _ _ _ _ _ _ _ _ = absurd (absent condition l refl)
named_nothing tree lines (Named.Switch ls) _ _ absent _ _ _ _ _ _ _ _ _ _ = absurd (absent ls refl)
named_nothing tree lines (Named.LoadField r) _ _ _ absent _ _ _ _ _ _ _ _ _ = absurd (absent r refl)
named_nothing tree lines (Named.StoreField r) _ _ _ _ absent _ _ _ _ _ _ _ _ = absurd (absent r refl)
named_nothing tree lines (Named.LoadStaticField r) _ _ _ _ _ absent _ _ _ _ _ _ _ = absurd (absent r refl)
named_nothing tree lines (Named.StoreStaticField r) _ _ _ _ _ _ absent _ _ _ _ _ _ = absurd (absent r refl)
named_nothing tree lines (Named.NewArray t) _ _ _ _ _ _ _ absent _ _ _ _ _ = absurd (absent t refl)
named_nothing tree lines (Named.CastClass t) _ _ _ _ _ _ _ _ absent _ _ _ _ = absurd (absent t refl)
named_nothing tree lines (Named.IsInstance t) _ _ _ _ _ _ _ _ _ absent _ _ _ = absurd (absent t refl)
named_nothing tree lines (Named.Call b r) _ _ _ _ _ _ _ _ _ _ absent _ _ = absurd (absent b r refl)
named_nothing tree lines (Named.CallVirtual c n g) _ _ _ _ _ _ _ _ _ _ _ absent _ = absurd (absent c n g refl)
named_nothing tree lines (Named.NewObject c ps) _ _ _ _ _ _ _ _ _ _ _ _ absent = absurd (absent c ps refl)
named_nothing _ _ _ _ _ _ _ _ _ _ _ _ _ _ _ _ = refl
