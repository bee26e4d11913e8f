use Rattle.std.proofs.Common.{sym, ap, ◌∙◌}
use Rattle.std.specs.List.{position_from}
use Rattle.std.proofs.lemmas.Iterator.Adapters.{position_from-zero}
use Rattle.cil_model.specs.Same.{same_text}
use Rattle.name_tables.specs.Keys.{text_of_key}
use Rattle.name_tables.specs.declared.keys.TextKey.{TextKey}
use Rattle.name_tables.proofs.NumberLaws.{position_from-map}
use Rattle.resolved_code.proofs.literals.Literals.number.Goals as goal

pub returns : goal.returns
returns c =
    let s = c.args.self.now in
    let text = c.args.text.now in
    c.get_index_of.ensures.index ∙ position_from-zero (λ (k : TextKey). same_text text (text_of_key k)) s.texts.keys ∙
    sym (position_from-map text_of_key (same_text text) 0 s.texts.keys) ∙ ap (position_from (same_text text) 0) s.texts_are
