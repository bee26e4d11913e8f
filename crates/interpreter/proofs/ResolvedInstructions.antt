-- The resolved instruction at a frame's pc.
use Rattle.std.proofs.Common.{◌≡◌, [], Option, Some, None, option_map, option_and_then, Bor, refl, sym, ap, ◌∙◌, subst}
use Rattle.std.specs.Prelude.{IsSome, is_some, slice_get}
use Rattle.std.specs.Option.{option_map_or}
use Rattle.cil_model.specs.declared.types.ClassName.{ClassName}
use Rattle.cil_model.specs.declared.trees.Tree.{Tree}
use Rattle.cil_model.specs.declared.trees.Code.{Code}
use Rattle.cil_model.specs.declared.trees.Line.{Line}
use Rattle.cil_model.specs.declared.trees.Method.{Method}
use Rattle.cil_model.specs.Bodies.{code_of, lines_of}
use Rattle.cil_model.proofs.Lists.{none_is_some}
use Rattle.name_tables.specs.declared.ids.MethodId.{MethodId}
use Rattle.name_tables.specs.Numbers.{method_at}
use Rattle.resolved_code.specs.ResolvedPrograms.{IsOperation, IsBody, IsResolvedMethod, BothAlike}
use Rattle.resolved_code.specs.declared.classes.Body.{Body}
use Rattle.resolved_code.specs.declared.classes.ResolvedMethod.{ResolvedMethod}
use Rattle.resolved_code.specs.declared.operations.Operation.{Operation}
use Rattle.resolved_code.specs.Contents.{IsMethodOf}
use Rattle.resolved_code.proofs.ListLaws.RelatedItems.{alike_at}
use Rattle.loaded_program.proofs.OperandLaws.{alike_both, alike_none}
use Rattle.threads_monitors.specs.Frames.{Frames}
use Rattle.interpreter.specs.Instructions.{IsAt, method_of, line_at}

-- what stands beside something is there
alike_some : {X Y : Type 0} (R : X → Y → Type 0) (x : Option X) (y : Option Y) (a : X) → BothAlike R x y → x ≡ Some a → (b : Y) × (y ≡ Some b) × R a b
alike_some R (Some x) (Some y) a alike e = let same : x ≡ a = cc in (y, refl, subst (λ z. R z y) same alike)
alike_some R (Some x) None a alike e = elim alike [ ]
alike_some R None y a alike e = none_is_some a e

-- the resolved method of a number that a method has
module _ (tree t : Tree) (same : t ≡ tree) (n : MethodId) (found : ClassName × Method) (there : method_at tree (n.class, n.index) ≡ Some found) (result : Option (Bor ResolvedMethod)) where
  abbrev resolves : ClassName × Method → ResolvedMethod → Type 0
  resolves named method = IsResolvedMethod tree named.1 method

  abbrev read : Option ResolvedMethod
  read = option_map (λ (r : Bor ResolvedMethod). r.now) result

  reported : IsMethodOf t n read → BothAlike resolves (method_at tree (n.class, n.index)) read
  reported is = subst (λ (x : Tree). IsMethodOf x n read) same is

  pub method_is_there : IsMethodOf t n read → result ≡ None → ⊥
  method_is_there is none = alike_none resolves (method_at tree (n.class, n.index)) read found (reported is) there (ap (option_map (λ (r : Bor ResolvedMethod). r.now)) none)

  pub method_is_resolved : IsMethodOf t n read → (method : Bor ResolvedMethod) → result ≡ Some method → IsResolvedMethod tree found.1 method.now
  method_is_resolved is method some = alike_both resolves (method_at tree (n.class, n.index)) read found method.now (reported is) there (ap (option_map (λ (r : Bor ResolvedMethod). r.now)) some)

module _ (tree : Tree) (m : Frames) where
  -- the method and the line
  pub record Lined : Type 0 where
    pub found : ClassName × Method
    pub line : Line
    pub found_is : method_of tree m ≡ Some found
    pub line_is : slice_get (lines_of found.1) m.running.pc ≡ Some line

  pub lined : IsSome (line_at tree m) → Lined
  lined there = by_method (method_of tree m) refl
    where
      by_line : (f : ClassName × Method) (l : Option Line) → method_of tree m ≡ Some f → slice_get (lines_of f.1) m.running.pc ≡ l → line_at tree m ≡ l → Lined
      by_line f None at is whole = absurd (cc (ap is_some whole, there))
      by_line f (Some l) at is whole = record { found = f; line = l; found_is = at; line_is = is }

      by_method : (f : Option (ClassName × Method)) → method_of tree m ≡ f → Lined
      by_method None at = absurd (cc (ap is_some (ap (option_and_then (λ (found : ClassName × Method). slice_get (lines_of found.1) m.running.pc)) at), there))
      by_method (Some f) at =
          by_line f (slice_get (lines_of f.1) m.running.pc) at refl (ap (option_and_then (λ (found : ClassName × Method). slice_get (lines_of found.1) m.running.pc)) at)

  -- the body with the operation
  pub record BodyAtPc (o : Option Body) : Type 0 where
    pub body : Body
    pub operation : Operation
    pub body_is : o ≡ Some body
    pub at : slice_get body.operations m.running.pc ≡ Some operation
    pub is_at : IsAt tree m operation

  pub body_at_pc : (here : Lined) (o : Option Body) → BothAlike (IsBody tree) (code_of here.found.1.kind) o → BodyAtPc o
  body_at_pc here o alike = by_code (code_of here.found.1.kind) refl alike
    where
      lines_are : (c : Option Code) → code_of here.found.1.kind ≡ c → lines_of here.found.1 ≡ option_map_or (λ (code : Code). code.lines) c []
      lines_are c e = ap (λ x. option_map_or (λ (code : Code). code.lines) x []) e

      by_code : (c : Option Code) → code_of here.found.1.kind ≡ c → BothAlike (IsBody tree) c o → BodyAtPc o
      by_code None e h = none_is_some here.line (sym (ap (λ ls. slice_get ls m.running.pc) (lines_are None e)) ∙ here.line_is)
      by_code (Some code) e h =
          let body = alike_some (IsBody tree) (Some code) o code h refl in
          let lines : lines_of here.found.1 ≡ code.lines = lines_are (Some code) e in
          let line : slice_get code.lines m.running.pc ≡ Some here.line = sym (ap (λ ls. slice_get ls m.running.pc) lines) ∙ here.line_is in
          let operation = alike_some (λ (line : Line) operation. IsOperation tree code.lines line.instruction operation) (slice_get code.lines m.running.pc) (slice_get body.0.operations m.running.pc) here.line
          (alike_at (λ (line : Line) operation. IsOperation tree code.lines line.instruction operation) code.lines body.0.operations body.2.operations m.running.pc) line in
          record {
            body = body.0;
            operation = operation.0;
            body_is = body.1;
            at = operation.1;
            is_at = record {
              found = here.found;
              line = here.line;
              found_is = here.found_is;
              line_is = here.line_is;
              refines = subst (λ ls. IsOperation tree ls here.line.instruction operation.0) (sym lines) operation.2;
            };
          }
