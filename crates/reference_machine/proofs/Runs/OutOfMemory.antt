-- A run ends out of memory only where an allocation is refused.
use Rattle.std.proofs.Common.{◌≡◌, zero, suc, Bool, true, false, List, [], ◌∷◌, Contains, refl, sym, ap, ◌∙◌, arith}
use Rattle.cil_model.specs.declared.instructions.BinaryOperation.{BinaryOperation}
use Rattle.cil_model.specs.declared.instructions.BinaryOperation.TheVariants.{AddOverflow, SubtractOverflow, MultiplyOverflow, Divide, Remainder}
use Rattle.cil_model.specs.declared.instructions.ElementKind.TheVariants as kinds
use Rattle.cil_model.specs.declared.instructions.Instruction.{Instruction}
use Rattle.cil_model.specs.declared.instructions.Instruction.TheVariants.{Binary, LoadField, StoreField, NewArray, LoadLength, LoadElement, StoreElement, CastClass, Call, CallVirtual, NewObject}
use Rattle.cil_model.specs.declared.reports.Fault.{Fault}
use Rattle.cil_model.specs.declared.reports.Fault.TheVariants.{Overflow, OutOfMemory, StackOverflow}
use Rattle.cil_model.specs.Bodies.{constructor_reference}
use Rattle.cil_model.specs.Chains.{find_method}
use Rattle.cil_model.proofs.SameLaws.{never}
use Rattle.reference_machine.specs.Arithmetic.{as_index}
use Rattle.reference_machine.specs.BuiltIn.{Action, Enter, Exit, Start, Join}
use Rattle.reference_machine.specs.Effects.{StepContext, Effect, Raises}
use Rattle.reference_machine.specs.Growth.{Follows}
use Rattle.reference_machine.specs.Faults.{faults_of_operation, faults_of, faults_of_action, MayRaise, itself, member}
use Rattle.reference_machine.specs.States.{Frame, State}
use Rattle.reference_machine.specs.Steps.{execute}
use Rattle.reference_machine.proofs.Runs.InstructionEffects.{Allowed, given_ok, one_ok, array_ok, operands_ok, construct_ok, follows_steps, raised_is_listed, allowed_raises}

-- whether a fault is out of memory
abbrev is_memory : Fault → Bool
is_memory OutOfMemory = true
is_memory _ = false

-- faults, none of which is
abbrev Without : List Fault → Type 0
Without [] = Unit {0}
Without (x ∷ xs) = (is_memory x ≡ false) × Without xs

other : {A : Type 0} (x : Fault) → is_memory x ≡ false → x ≡ OutOfMemory → A
other x h e = never (sym h ∙ ap is_memory e)

lacks : {A : Type 0} (xs : List Fault) → Without xs → Contains xs OutOfMemory → A
lacks [] h (k, inside, is) = absurd (omega (arith, inside))
lacks (x ∷ xs) h (zero, inside, is) = other x h.0 is
lacks (x ∷ xs) h (suc k, inside, is) = lacks xs h.1 (k, omega (arith, inside), is)

without_operation : (op : BinaryOperation) → Without (faults_of_operation op)
without_operation AddOverflow = (refl, tt)
without_operation SubtractOverflow = (refl, tt)
without_operation MultiplyOverflow = (refl, tt)
without_operation Divide = (refl, (refl, tt))
without_operation Remainder = (refl, (refl, tt))
without_operation _ = tt

without_action : (a : Action) → Without (faults_of_action a)
without_action Enter = (refl, tt)
without_action Exit = (refl, (refl, tt))
without_action Start = (refl, (refl, (refl, tt)))
without_action Join = (refl, (refl, tt))
without_action _ = tt

-- a fault that is out of memory results from a refusal alone
abbrev OfRefusal : StepContext → Fault → Type 0
OfRefusal here x = x ≡ OutOfMemory → here.is_refused ≡ true

module _ (here : StepContext) (s : State) (f : Frame) (below : List Frame) where
  of_effect : (e : Effect) → Allowed (Follows s) (Unit {0}) (OfRefusal here) e → e ≡ Raises OutOfMemory → here.is_refused ≡ true
  of_effect e a k = allowed_raises e OutOfMemory a k refl

  -- by what is listed
  listed : (i : Instruction) → Contains (faults_of i) OutOfMemory → execute here s f below i ≡ Raises OutOfMemory → here.is_refused ≡ true
  listed (NewArray t) h =
      of_effect (execute here s f below (NewArray t)) (one_ok f.stack (λ v rest. given_ok (as_index v) (λ z e.
      array_ok here s f below (follows_steps here s) t z rest (other Overflow refl) (λ r k. r))))
  listed (NewObject c parameters) h =
      of_effect (execute here s f below (NewObject c parameters)) (given_ok (find_method here.tree true (constructor_reference c parameters)) (λ found e.
      operands_ok here s f below (follows_steps here s) parameters (λ arguments rest taken.
      construct_ok here s f below (follows_steps here s) c found arguments rest (other StackOverflow refl) (λ r k. r))))
  listed (Binary op) h = lacks (faults_of_operation op) (without_operation op) h
  listed (LoadField r) h = lacks (faults_of (LoadField r)) (refl, tt) h
  listed (StoreField r) h = lacks (faults_of (StoreField r)) (refl, tt) h
  listed LoadLength h = lacks (faults_of LoadLength) (refl, tt) h
  listed (LoadElement kind) h = lacks (faults_of (LoadElement kind)) (refl, (refl, tt)) h
  listed (StoreElement kinds.Reference) h = lacks (faults_of (StoreElement kinds.Reference)) (refl, (refl, (refl, tt))) h
  listed (StoreElement _) h = lacks (faults_of (StoreElement kinds.Int32)) (refl, (refl, tt)) h
  listed (CastClass t) h = lacks (faults_of (CastClass t)) (refl, tt) h
  listed (Call is_instance r) h = lacks (faults_of (Call is_instance r)) (refl, tt) h
  listed (CallVirtual owner name signature) h = lacks (faults_of (CallVirtual owner name signature)) (refl, (refl, tt)) h
  listed _ h = lacks [] tt h

  by_listing : (i : Instruction) → MayRaise here.tree i OutOfMemory → execute here s f below i ≡ Raises OutOfMemory → here.is_refused ≡ true
  by_listing i (itself _ _ h) = listed i h
  by_listing i (member _ chosen a _ runs acts h) = lacks (faults_of_action a) (without_action a) h

  -- an instruction whose birth isn't refused has memory
  pub memory_is_refused : (i : Instruction) → execute here s f below i ≡ Raises OutOfMemory → here.is_refused ≡ true
  memory_is_refused i e = by_listing i (raised_is_listed here s f below i OutOfMemory e) e
