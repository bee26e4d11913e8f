use Rattle.std.proofs.Common.{◌≡◌, ◌<◌, ◌^◌, length, arith, ◌∙◌}
use Rattle.std.specs.List.{sum_by}
use Rattle.name_tables.specs.Numbers.{declarations}
use Rattle.loaded_program.specs.AllMethods.{all_methods}
use Rattle.loaded_program.proofs.CountLaws.{methods_few, methods_counted}
use Rattle.loaded_program.proofs.ResolvedLaws.{first_alike}
use Rattle.loaded_program.proofs.numbers.MethodNumbers.new.Goals as goal

pub first_numbers-requires : goal.first_numbers-requires
first_numbers-requires c =
    let tree = c.args.program.now in
    let few : length (all_methods tree) < 2 ^ 32 = methods_few tree c.tree-legal.ensures.legal in
    let counted : sum_by (λ r. length r.methods) c.classes.result.now ≡ length (all_methods tree) = methods_counted tree (declarations tree) c.classes.result.now c.classes.ensures in
    omega (arith, few, counted)

pub returns : goal.returns
returns c =
    let tree = c.args.program.now in
    record {
      first = c.in_ok-first_numbers.ensures ∙ first_alike tree 0 (declarations tree) c.classes.result.now c.classes.ensures;
      few = methods_few tree c.tree-legal.ensures.legal;
    }
