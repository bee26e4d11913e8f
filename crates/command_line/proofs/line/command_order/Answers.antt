use Rattle.std.proofs.Common.{◌∙◌, List, map, subst, sym}
use Rattle.clap.specs.Words.{HasKind, Kinds, Text, app_of, fault_of}
use Rattle.command_line.specs.CommandLine.{cilvm_app}
use Rattle.command_line.proofs.LineLemmas.{answers_requested, cilvm_app-exact, exact_at, fault_of-app, refuses, request_in-found}
use Rattle.command_line.proofs.line.command_order.Goals as goal

pub returns-in-Ok-clause-answer : goal.returns-in-Ok-clause-answer
returns-in-Ok-clause-answer c =
    let words : List Text = map (λ w. w.now) c.args.words.now in
    let app = c.in_ok-command.ensures in
    let taken = c.in-Ok.ensures.kinds (exact_at (app_of c.in_ok-command.command) _ app cilvm_app-exact) in
    let found = request_in-found (app_of c.in_ok-command.command) words c.in-Ok.matches app c.in-Ok.ensures.matches in
    answers_requested (fault_of cilvm_app words) _ _ c.requested_order.result found (sym (fault_of-app _ _ words app) ∙ taken) c.requested_order.ensures.value
    c.requested_order.ensures.none

pub returns-in-Err-clause-answer : goal.returns-in-Err-clause-answer
returns-in-Err-clause-answer c =
    let words : List Text = map (λ w. w.now) c.args.words.now in
    let app = c.in_ok-command.ensures in
    let kind : HasKind (fault_of cilvm_app words) c.in-Err.error
    = subst (λ (ks : Kinds). HasKind ks c.in-Err.error) (fault_of-app _ _ words app)
    (c.in-Err.ensures.kinds (exact_at (app_of c.in_ok-command.command) _ app cilvm_app-exact)) in
    refuses (fault_of cilvm_app words) _ c.in-Err.error c.line_fault.result kind c.line_fault.ensures
