use Rattle.std.proofs.Common.{Global, Vec, ℕ, ◌++◌, ◌∷◌, ◌+◌, ◌∙◌, [], append-nil, append_assoc, drop, ap, sym}
use Rattle.std.proofs.lemmas.List.{drop_all}
use Rattle.event_trace.proofs.Names.{method_indices}
use Rattle.event_trace.proofs.PositionLaws.{next_method, next_other}
use Rattle.event_trace.proofs.method_positions.method_indices.Goals as goal
use Rattle.event_trace.proofs.method_positions.method_indices.Goals.{in-Method+in_ok-push, in_default}

pub loop-index-preserved : goal.loop-index-preserved
loop-index-preserved c =
    let i = c.loop-index.index in
    let members = c.args.members.now in
    let x = c.index-members-index.result in
    let so_far = c.loop-index.indices.items in
    let rest = method_indices (i + 1) (drop (i + 1) members) in
    elim c.match-member.branch [
      | in-Method+in_ok-push w ↦
          ap (λ (indices : Vec ℕ Global). indices.items ++ rest) w.indices-is ∙ ap (λ items. items ++ rest) w.in_ok-push.ensures.items ∙ append_assoc so_far (i ∷ []) rest
          ∙ ap (λ items. so_far ++ items) (sym (next_method i members x w.in-Method.field-0 c.loop-index-test.true c.index-members-index.is w.in-Method.is)) ∙ c.loop-index.invariant
      | in_default w ↦
          ap (λ (indices : Vec ℕ Global). indices.items ++ rest) w.indices-is
          ∙ ap (λ items. so_far ++ items) (sym (next_other i members x c.loop-index-test.true c.index-members-index.is w.in_default.not-Method)) ∙ c.loop-index.invariant
    ]

pub returns : goal.returns
returns c =
    let i = c.loop-index.index in
    let so_far = c.loop-index.indices.items in
    sym (append-nil so_far) ∙ sym (ap (λ members. so_far ++ method_indices i members) (drop_all i c.args.members.now c.loop-index-test.false)) ∙ c.loop-index.invariant
