use Rattle.std.proofs.Common.{◌≡◌, ◌≤◌, ◌+◌, ◌++◌, ◌∷◌, [], Bool, true, false, cond, Some, length, map, take, get_or, option_map, slice_get, sym, ap, ◌∙◌, arith}
use Rattle.std.specs.List.{filter}
use Rattle.std.proofs.lemmas.Option.{slice_get-map}
use Rattle.std.proofs.lemmas.List.{append-nil, length-map}
use Rattle.name_tables.specs.Entries.{declaration_in}
use Rattle.name_tables.specs.Methods.{has_virtual}
use Rattle.name_tables.specs.Sameness.{identity_of}
use Rattle.name_tables.proofs.Lists.{at_end, map-filter-take_more, map_of_map, option_map_of_map}
use Rattle.name_tables.proofs.methods.virtual_numbers.Goals.{then-is_virtual_at+in_ok-push, else-is_virtual_at}
use Rattle.name_tables.proofs.methods.virtual_numbers.Goals as goal

pub loop-index-preserved : goal.loop-index-preserved
loop-index-preserved c = λ number e.
    let d = declaration_in c.args.table.now.class in
    let test = has_virtual d in
    let index = c.loop-index.index in
    let own = get_or c.args.numbers.now index 0 in
    let has_id : get_or (map number (map identity_of d.methods)) index 0 ≡ own = ap (λ ns. get_or ns index 0) (map_of_map identity_of number d.methods ∙ sym e) in
    let tested : option_map test (slice_get (map identity_of d.methods) index) ≡ Some c.is_virtual_at.result =
    ap (option_map test) (slice_get-map identity_of d.methods index) ∙ option_map_of_map identity_of test (slice_get d.methods index) ∙ c.is_virtual_at.ensures in
    let before = map number (filter test (take index (map identity_of d.methods))) in
    let more : (b : Bool) → c.is_virtual_at.result ≡ b → map number (filter test (take (index + 1) (map identity_of d.methods))) ≡ before ++ cond b (own ∷ []) [] =
    λ b h. map-filter-take_more number test (map identity_of d.methods) index b own 0 (tested ∙ ap Some h) has_id in
    elim c.if-is_virtual_at.branch [
      | then-is_virtual_at+in_ok-push w ↦ ap (λ v. v.items) w.chosen-is ∙ w.in_ok-push.ensures.items ∙ ap (λ ns. ns ++ own ∷ []) (c.loop-index.invariant number e) ∙ sym (more true w.if-is_virtual_at.true)
      | else-is_virtual_at w ↦ ap (λ v. v.items) w.chosen-is ∙ c.loop-index.invariant number e ∙ sym (append-nil before) ∙ sym (more false w.if-is_virtual_at.false)
    ]

pub loop-index-init : goal.loop-index-init
loop-index-init c = λ number e. c.new-chosen.ensures.items

pub is_virtual_at-requires : goal.is_virtual_at-requires
is_virtual_at-requires c = omega (arith, c.loop-index-test.true, c.requires)

pub returns : goal.returns
returns c = λ number e.
    let d = declaration_in c.args.table.now.class in
    let counted : length (map identity_of d.methods) ≤ c.loop-index.index = omega (arith, c.loop-index-test.false, c.requires, length-map d.methods identity_of) in
    at_end (λ ms. map number (filter (has_virtual d) ms)) (map identity_of d.methods) c.loop-index.index counted (c.loop-index.invariant number e)
