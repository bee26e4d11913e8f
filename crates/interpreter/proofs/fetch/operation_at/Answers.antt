use Rattle.std.proofs.Common.{◌≡◌, ap, sym, subst, ◌∙◌, option_map, Some, Bor, get_or}
use Rattle.std.proofs.lemmas.Option.{get_or_from_slice_get, slice_get_within}
use Rattle.std.specs.Prelude.{slice_get, is_some}
use Rattle.resolved_code.specs.ResolvedPrograms.{IsResolvedMethod}
use Rattle.resolved_code.specs.declared.classes.Body.{Body}
use Rattle.loaded_program.specs.AllMethods.{all_methods}
use Rattle.loaded_program.specs.LoadedPrograms.{IsLoadedMethod}
use Rattle.loaded_program.proofs.OperandLaws.{map_some}
use Rattle.interpreter.specs.Instructions.{IsAt}
use Rattle.interpreter.proofs.ResolvedInstructions.{Lined, lined, BodyAtPc, body_at_pc, method_is_there, method_is_resolved}
use Rattle.interpreter.proofs.fetch.operation_at.Goals.{After-body_of, After-pc}
use Rattle.interpreter.proofs.fetch.operation_at.Goals as goal

-- the body that was found has the operation at the pc
body_here : (c : After-body_of) → BodyAtPc c.args.program.now c.args.frames.now (option_map (λ (b : Bor Body). b.now) c.body_of.result)
body_here c =
    let here : Lined c.args.program.now c.args.frames.now = lined c.args.program.now c.args.frames.now c.requires in
    let known : IsLoadedMethod c.args.program.now here.found c.method-2.result.now = c.method-2.ensures.loaded here.found (ap (slice_get (all_methods c.args.program.now)) c.method.ensures ∙ here.found_is) in
    let resolved : IsResolvedMethod c.args.program.now here.found.1 c.in-Some.method.now =
    method_is_resolved c.args.program.now c.program.result.now c.program.ensures c.method-2.result.now.member here.found known.member c.method-3.result c.method-3.ensures c.in-Some.method c.in-Some.is in
    body_at_pc c.args.program.now c.args.frames.now here (option_map (λ (b : Bor Body). b.now) c.body_of.result) (c.body_of.ensures c.args.program.now here.found.1.kind resolved.kind)

-- and so it is in the slice
operation_here : (c : After-pc) (at_pc : BodyAtPc c.args.program.now c.args.frames.now (option_map (λ (b : Bor Body). b.now) c.body_of.result)) → slice_get c.as_slice.result.now c.pc.result ≡ Some at_pc.operation
operation_here c at_pc =
    let met : option_map (λ (b : Bor Body). b.now) c.body_of.result ≡ Some c.in-Some-body_of.body.now = ap (option_map (λ (b : Bor Body). b.now)) c.in-Some-body_of.is in
    let is = at_pc.body_is in
    let same : at_pc.body ≡ c.in-Some-body_of.body.now = cc in
    ap (λ ops. slice_get ops c.pc.result) c.as_slice.ensures
    ∙ ap (slice_get c.in-Some-body_of.body.now.operations) c.pc.ensures
    ∙ subst (λ (b : Body). slice_get b.operations c.args.frames.now.running.pc ≡ Some at_pc.operation) same at_pc.at

pub method-requires-2 : goal.method-requires-2
method-requires-2 c =
    let here : Lined c.args.program.now c.args.frames.now = lined c.args.program.now c.args.frames.now c.requires in
    ap is_some (ap (slice_get (all_methods c.args.program.now)) c.method.ensures ∙ here.found_is)

pub unreachable-requires : goal.unreachable-requires
unreachable-requires c =
    let here : Lined c.args.program.now c.args.frames.now = lined c.args.program.now c.args.frames.now c.requires in
    let known : IsLoadedMethod c.args.program.now here.found c.method-2.result.now = c.method-2.ensures.loaded here.found (ap (slice_get (all_methods c.args.program.now)) c.method.ensures ∙ here.found_is) in
    method_is_there c.args.program.now c.program.result.now c.program.ensures c.method-2.result.now.member here.found known.member c.method-3.result c.method-3.ensures c.in_default.is

pub unreachable-requires-in_default-body_of : goal.unreachable-requires-in_default-body_of
unreachable-requires-in_default-body_of c =
    let at_pc = body_here (goal.at.unreachable-requires-in_default-body_of c).After-body_of in
    let met = map_some (λ (b : Bor Body). b.now) c.body_of.result at_pc.body at_pc.body_is in
    c.in_default-body_of.not-Some met.0 met.1

pub bounds-as_slice-pc : goal.bounds-as_slice-pc
bounds-as_slice-pc c =
    let at_pc = body_here (goal.at.bounds-as_slice-pc c).After-body_of in
    slice_get_within c.as_slice.result.now c.pc.result at_pc.operation (operation_here (goal.at.bounds-as_slice-pc c).After-pc at_pc)

pub returns : goal.returns
returns c =
    let at_pc = body_here (goal.at.returns c).After-body_of in
    let read : get_or c.as_slice.result.now c.pc.result c.index-as_slice-pc.result ≡ at_pc.operation =
    get_or_from_slice_get c.as_slice.result.now c.pc.result at_pc.operation c.index-as_slice-pc.result (operation_here (goal.at.returns c).After-pc at_pc) in
    subst (IsAt c.args.program.now c.args.frames.now) (sym (c.index-as_slice-pc.is ∙ read)) at_pc.is_at
