-- What a virtual call runs has the name of the method that is called.
use Rattle.std.proofs.Common.{◌≡◌, Bool, true, false, ◌&&◌, List, [], ◌∷◌, find, cond, Option, Some, None, option_map, refl, inl, inr, sym, ap, subst}
use Rattle.std.specs.List.{list_any}
use Rattle.std.proofs.lemmas.Bool.{or_parts}
use Rattle.cil_model.specs.declared.types.ClassName.{ClassName}
use Rattle.cil_model.specs.declared.instructions.MethodName.{MethodName}
use Rattle.cil_model.specs.declared.trees.Tree.{Tree}
use Rattle.cil_model.specs.declared.trees.Method.{Method}
use Rattle.cil_model.specs.Same.{same_class, same_method_name}
use Rattle.cil_model.specs.Declarations.{run_name}
use Rattle.cil_model.specs.Chains.{methods_declared}
use Rattle.cil_model.specs.Slots.{target}
use Rattle.cil_model.proofs.Lists.{find_passes}
use Rattle.reference_machine.specs.BuiltIn.{Action, actions, action_of}
use Rattle.reference_machine.proofs.Programs.VirtualTargets.{is_named, named_name, target_is}

-- the target of a call has the name of the method that is called
pub target_named : (tree : Tree) (d c : ClassName) (m : Method) (k : ClassName) (m' : Method) → target tree d c m ≡ Some (k, m') → m'.name ≡ m.name
target_named tree d c m k m' h = elim (target_is tree d c m (k, m') h) [
  | inl itself ↦ sym (ap (λ (p : ClassName × Method). p.1.name) itself.1)
  | inr is ↦ named_name m.name m.signature m' (find_passes (is_named m.name m.signature) (methods_declared tree k) m' is.0)
]

-- ---- no built-in member that acts at once is named Run

-- where no entry has the name, none is found
no_act : (name : MethodName) (c : ClassName) (as' : List (ClassName × MethodName × Action)) → list_any (λ (a : ClassName × MethodName × Action). same_method_name a.1 name) as' ≡ false →
    find (λ (a : ClassName × MethodName × Action). same_class a.0 c && same_method_name a.1 name) as' ≡ None
no_act name c [] h = refl
no_act name c (a ∷ as') h = by_tests (same_class a.0 c) (same_method_name a.1 name) (or_parts _ _ h).0 (no_act name c as' (or_parts _ _ h).1)
  where
    rest : Option (ClassName × MethodName × Action)
    rest = find (λ (x : ClassName × MethodName × Action). same_class x.0 c && same_method_name x.1 name) as'

    by_tests : (v w : Bool) → w ≡ false → rest ≡ None → cond (v && w) (Some a) rest ≡ None
    by_tests v true e later = absurd cc
    by_tests true false e later = later
    by_tests false false e later = later

-- so Run always gets a frame
pub run_does_not_act : (c : ClassName) (m : Method) → m.name ≡ run_name → action_of c m ≡ None
run_does_not_act c m named =
    ap (option_map (λ (a : ClassName × MethodName × Action). a.2)) (
    subst (λ x. find (λ (a : ClassName × MethodName × Action). same_class a.0 c && same_method_name a.1 x) actions ≡ None) (sym named) (no_act run_name c actions refl))
