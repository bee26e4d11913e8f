-- Reading one item after the other, with commas between.
use Rattle.std.proofs.Common.{◌≡◌, suc, List, [], ◌∷◌, length, Some, refl, arith}
use Rattle.cil_model.specs.declared.tokens.Symbol.TheVariants.{Comma}
use Rattle.cil_model.specs.declared.tokens.Token.{Token}
use Rattle.ilasm_tokens.specs.Steps.{bind, many, Consumes}
use Rattle.ilasm_tokens.proofs.Many.{bind_some, Reading}
use Rattle.ilasm_reader.specs.Parsing.{Parser, starts_comma, after_comma, commas_at, sign_at}
use Rattle.ilasm_reader.specs.Sound.{sign_sound}

module _ {A : Type 0} (parses : Parser A) where
  pub begins_commas : (x : A) (ts rest : List Token) → parses ts ≡ Some (x, rest) → Reading starts_comma (after_comma parses) (commas_at parses ts) (x ∷ []) rest
  unfolding commas_at many bind
  begins_commas x ts rest e = record { fuel = suc (length rest); enough = omega arith; whole = rw e refl }

  pub after_comma_consumes : Consumes parses → Consumes (after_comma parses)
  unfolding after_comma
  after_comma_consumes consumes ts x rest e =
      let a = bind_some (sign_at Comma ts) parses (x, rest) e in
      omega (arith, ((sign_sound Comma ts).out a.0 a.1).1, consumes a.0 x rest a.2)
