use Rattle.std.proofs.Common.{◌≡◌, ◌∷◌, [], Some, length, map, slice_get, sym, ap, ◌∙◌, arith}
use Rattle.std.proofs.lemmas.List.{map-append}
use Rattle.cil_model.specs.declared.types.ClassName.{ClassName}
use Rattle.cil_model.specs.Chains.{longest_chain}
use Rattle.cil_model.specs.Declarations.{Declaration}
use Rattle.name_tables.specs.Numbers.{chain_numbers, declarations}
use Rattle.resolved_code.proofs.ListLaws.RelatedLists.{alike_length}
use Rattle.class_layout.specs.ByClass.{chain_by}
use Rattle.resolved_code.proofs.Numbers.Classes.{number_of_index}
use Rattle.class_layout.proofs.ResolvedLaws.{IsClass, class_pushed, classes_pushed, chain_alike, bases_alike}
use Rattle.class_layout.proofs.classes.chains.Goals as goal

pub loop-class-preserved : goal.loop-class-preserved
loop-class-preserved c = λ tree legal are counted.
    let i = c.loop-class.class in
    let rs = c.args.classes.now in
    let bases = map (λ r. r.base) rs in
    let many : length (declarations tree) ≡ length rs = alike_length (IsClass tree) (declarations tree) rs are in
    let each : (e : ClassName × Declaration) → slice_get (declarations tree) i ≡ Some e → c.in_ok-chain.field-0.items ≡ chain_numbers tree e.0 =
    λ e there. (rw c.new.ensures at c.in_ok-chain.ensures) ∙ ap (λ k. chain_by bases k (Some i)) counted ∙ ap (chain_by bases (longest_chain tree)) (sym (number_of_index tree legal i e there)) ∙ chain_alike tree bases (bases_alike tree legal rs are) (longest_chain tree) (Some e.0) in
    class_pushed tree (chain_numbers tree) i (map (λ chain. chain.items) c.loop-class.chains.items) (map (λ chain. chain.items) c.push.new.self.items) c.in_ok-chain.field-0.items (omega arith) (c.loop-class.invariant tree legal are counted) each
    (ap (map (λ chain. chain.items)) c.in_ok-push.ensures.items ∙ map-append (λ chain. chain.items) c.loop-class.chains.items (c.in_ok-chain.field-0 ∷ []))

pub returns : goal.returns
returns c = λ tree legal are counted.
    let many : length (declarations tree) ≡ length c.args.classes.now = alike_length (IsClass tree) (declarations tree) c.args.classes.now are in
    classes_pushed tree (chain_numbers tree) c.loop-class.class (map (λ chain. chain.items) c.loop-class.chains.items) (omega arith) (c.loop-class.invariant tree legal are counted)
