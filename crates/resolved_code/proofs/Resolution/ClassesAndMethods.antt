-- A class and a method are resolved from their parts, and fail with the first part that does.
use Rattle.std.proofs.Common.{◌≡◌, ℕ, List, map, option_map, option_and_then, Option, None, Some, refl, sym, ap, ◌∙◌}
use Rattle.cil_model.specs.declared.trees.Tree.{Tree}
use Rattle.cil_model.specs.declared.trees.Method.{Method}
use Rattle.cil_model.specs.Declarations.{Declaration}
use Rattle.name_tables.specs.Numbers.{class_number}
use Rattle.name_tables.specs.Sameness.{identity_of}
use Rattle.resolved_code.specs.declared.types.ResolvedType.{ResolvedType}
use Rattle.resolved_code.specs.declared.errors.ResolveError.{ResolveError}
use Rattle.resolved_code.specs.declared.classes.ResolvedKind.{ResolvedKind}
use Rattle.resolved_code.specs.declared.classes.ResolvedField.{ResolvedField}
use Rattle.resolved_code.specs.declared.classes.ResolvedMethod.{ResolvedMethod}
use Rattle.resolved_code.specs.declared.classes.ResolvedClass.{ResolvedClass}
use Rattle.resolved_code.specs.Identities.{identity_number}
use Rattle.resolved_code.specs.Outcomes.{Fails}
use Rattle.resolved_code.specs.Rules.{all_some, if_named, type_rule, types_rule, kind_rule, resolved_field_rule, resolved_method_rule, class_rule}
use Rattle.resolved_code.proofs.Resolution.Outcomes.{fails_first, fails_after, fails_last}

pub class_made : (tree : Tree) (d : Declaration) (base : Option ℕ) (interfaces : List ℕ) (fields : List ResolvedField) (methods : List ResolvedMethod) →
    if_named (class_number tree) d.base ≡ Some base → all_some (map (class_number tree) d.interfaces) ≡ Some interfaces →
    all_some (map (resolved_field_rule tree) d.fields) ≡ Some fields → all_some (map (resolved_method_rule tree) d.methods) ≡ Some methods →
    class_rule tree d ≡ Some (record { is_interface = d.is_interface; is_abstract = d.is_abstract; base = base; interfaces = interfaces; fields = fields; methods = methods })
class_made tree d base interfaces fields methods b i f m =
    let make : Option ℕ → List ℕ → List ResolvedField → List ResolvedMethod → ResolvedClass =
    λ b' i' f' m'. record { is_interface = d.is_interface; is_abstract = d.is_abstract; base = b'; interfaces = i'; fields = f'; methods = m' } in
    let ms = all_some (map (resolved_method_rule tree) d.methods) in
    let fs = all_some (map (resolved_field_rule tree) d.fields) in
    let is = all_some (map (class_number tree) d.interfaces) in
    ap (option_and_then (λ b'. option_and_then (λ i'. option_and_then (λ f'. option_map (make b' i' f') ms) fs) is)) b ∙
    ap (option_and_then (λ i'. option_and_then (λ f'. option_map (make base i' f') ms) fs)) i ∙
    ap (option_and_then (λ f'. option_map (make base interfaces f') ms)) f ∙ ap (option_map (make base interfaces fields)) m

-- a class whose fields fail
pub fields_fail : (tree : Tree) (d : Declaration) (base : Option ℕ) (interfaces : List ℕ) (e : ResolveError) →
    if_named (class_number tree) d.base ≡ Some base → all_some (map (class_number tree) d.interfaces) ≡ Some interfaces → Fails e (all_some (map (resolved_field_rule tree) d.fields)) → Fails e (class_rule tree d)
fields_fail tree d base interfaces e b i h = fails_after _ _ base e b (fails_after _ _ interfaces e i (fails_first _ _ e h))

-- a class whose methods fail
pub methods_fail : (tree : Tree) (d : Declaration) (base : Option ℕ) (interfaces : List ℕ) (fields : List ResolvedField) (e : ResolveError) →
    if_named (class_number tree) d.base ≡ Some base → all_some (map (class_number tree) d.interfaces) ≡ Some interfaces → all_some (map (resolved_field_rule tree) d.fields) ≡ Some fields →
    Fails e (all_some (map (resolved_method_rule tree) d.methods)) → Fails e (class_rule tree d)
methods_fail tree d base interfaces fields e b i f h = fails_after _ _ base e b (fails_after _ _ interfaces e i (fails_after _ _ fields e f (fails_last _ _ e h)))

-- a method from its parts
pub method_made : (tree : Tree) (m : Method) (identity : ℕ) (parameters : List ResolvedType) (return_type : Option ResolvedType) (kind : ResolvedKind) → identity ≡ identity_number tree (identity_of m) →
    types_rule tree m.signature.parameters ≡ Some parameters → if_named (type_rule tree) m.signature.return_type ≡ Some return_type → kind_rule tree m.kind ≡ Some kind →
    resolved_method_rule tree m ≡ Some (record { identity = identity; parameters = parameters; return_type = return_type; kind = kind })
method_made tree m identity parameters return_type kind n p r k =
    let make : ℕ → List ResolvedType → Option ResolvedType → ResolvedKind → ResolvedMethod = λ n' p' r' k'. record { identity = n'; parameters = p'; return_type = r'; kind = k' } in
    let number = identity_number tree (identity_of m) in
    let named = if_named (type_rule tree) m.signature.return_type in
    ap (option_and_then (λ p'. option_and_then (λ r'. option_map (make number p' r') (kind_rule tree m.kind)) named)) p ∙
    ap (option_and_then (λ r'. option_map (make number parameters r') (kind_rule tree m.kind))) r ∙ ap (option_map (make number parameters return_type)) k ∙
    ap (λ n'. Some (make n' parameters return_type kind)) (sym n)

-- made of a pair, or of both its parts, where they are there
pub made_of_both : {A B C : Type 0} (make : A → B → C) (x : Option A) (y : Option B) →
    option_map (λ (p : A × B). make p.0 p.1) (option_and_then (λ a. option_map (λ b. (a, b)) y) x) ≡ option_and_then (λ a. option_map (make a) y) x
made_of_both make None y = refl
made_of_both make (Some a) None = refl
made_of_both make (Some a) (Some b) = refl
