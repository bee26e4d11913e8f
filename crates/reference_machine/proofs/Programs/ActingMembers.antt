-- A member that acts at once is not virtual, and so no virtual call of another method reaches it.
use Rattle.std.proofs.Common.{◌≡◌, true, false, Some, inl, inr}
use Rattle.cil_model.specs.declared.types.ClassName.{ClassName}
use Rattle.cil_model.specs.declared.trees.Tree.{Tree}
use Rattle.cil_model.specs.declared.trees.Method.{Method}
use Rattle.cil_model.specs.Chains.{is_virtual}
use Rattle.cil_model.specs.Slots.{target}
use Rattle.cil_model.proofs.SameLaws.{not_both}
use Rattle.reference_machine.specs.BuiltIn.{Action, action_of}
use Rattle.reference_machine.proofs.Programs.MethodTypings.{IsDeclared, target_is_declared}
use Rattle.reference_machine.proofs.Programs.BuiltInMembers.{acts_as_member}
use Rattle.reference_machine.proofs.Programs.VirtualTargets.{target_is}

-- a declared method with an action is not virtual
pub acting_is_not_virtual : (tree : Tree) (c : ClassName) (m : Method) (a : Action) → IsDeclared tree c m → action_of c m ≡ Some a → is_virtual m.kind ≡ false
acting_is_not_virtual tree c m a declared h = (acts_as_member tree c m a declared h).not_virtual

-- what a virtual call runs does not act
pub virtual_target_does_not_act : {A : Type 0} (tree : Tree) (d c : ClassName) (m : Method) (k : ClassName) (m' : Method) (a : Action) → IsDeclared tree c m → is_virtual m.kind ≡ true → target tree d c m ≡ Some (k, m') → action_of k m' ≡ Some a → A
virtual_target_does_not_act tree d c m k m' a declared virtual h acts =
    not_both (is_virtual m'.kind) (acting_is_not_virtual tree k m' a (target_is_declared tree d c m k m' h declared) acts) (elim (target_is tree d c m (k, m') h) [
      | inl itself ↦ not_both (is_virtual m.kind) itself.0 virtual
      | inr is ↦ is.1
    ])
