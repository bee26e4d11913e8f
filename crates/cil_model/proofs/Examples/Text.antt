-- The text of the example has its tree.
use Rattle.std.proofs.Common.{ℕ, pos, List, [], ◌∷◌, refl, inl, inr, FitsSigned, codes, lit<, Contains}
use Rattle.std.specs.Int.{w32, w64}
use Rattle.std.proofs.Math.Facts.{sfits_lit}
use Rattle.cil_model.specs.declared.tokens.Symbol.TheVariants.{OpenBrace, CloseBrace, OpenParenthesis, CloseParenthesis, OpenBracket, CloseBracket, DoubleColon}
use Rattle.cil_model.specs.Lexemes.{AreTokens}
use Rattle.cil_model.specs.Words.{short_constants}
use Rattle.cil_model.specs.Grammar.{IsUnit, IsTreeOf}
use Rattle.cil_model.specs.Examples.{sum_program, sum_source}
use Rattle.cil_model.proofs.Examples.Tokens.{Piece, Reserved, Named, Number, Mark, tokens_of, reads}

abbrev two : List ℕ
two = codes "2"

fits_64 : FitsSigned w64 (pos 2)
fits_64 = sfits_lit tt

fits_32 : FitsSigned w32 (pos 2)
fits_32 = sfits_lit tt

abbrev gap : List ℕ
gap = codes " "

-- the text, a piece for each token
abbrev pieces : List Piece
pieces =
    Reserved (codes ".assembly") gap ∷ Reserved (codes "extern") gap ∷ Named (codes "mscorlib") gap ∷ Mark OpenBrace [] ∷
    Mark CloseBrace (codes "\n") ∷ Reserved (codes ".class") gap ∷ Reserved (codes "public") gap ∷ Reserved (codes "auto") gap ∷
    Reserved (codes "ansi") gap ∷ Named (codes "P") gap ∷ Reserved (codes "extends") gap ∷ Mark OpenBracket [] ∷ Named (codes "mscorlib") [] ∷
    Mark CloseBracket [] ∷ Named (codes "System.Object") gap ∷ Mark OpenBrace (codes "\n ") ∷ Reserved (codes ".method") gap ∷
    Reserved (codes "public") gap ∷ Reserved (codes "static") gap ∷ Reserved (codes "void") gap ∷ Named (codes "Main") [] ∷
    Mark OpenParenthesis [] ∷ Mark CloseParenthesis gap ∷ Reserved (codes "cil") gap ∷ Reserved (codes "managed") gap ∷
    Mark OpenBrace (codes "\n  ") ∷ Reserved (codes ".entrypoint") gap ∷ Reserved (codes ".maxstack") gap ∷ Number two fits_64 (codes "\n  ") ∷
    Reserved (codes "ldc.i4") gap ∷ Number two fits_64 (codes "\n  ") ∷ Reserved (codes "ldc.i4.3") (codes "\n  ") ∷
    Reserved (codes "add") (codes "\n  ") ∷ Reserved (codes "call") gap ∷ Reserved (codes "void") gap ∷ Mark OpenBracket [] ∷
    Named (codes "mscorlib") [] ∷ Mark CloseBracket [] ∷ Named (codes "System.Console") [] ∷ Mark DoubleColon [] ∷
    Named (codes "WriteLine") [] ∷ Mark OpenParenthesis [] ∷ Reserved (codes "int32") [] ∷ Mark CloseParenthesis (codes "\n  ") ∷
    Reserved (codes "ret") gap ∷ Mark CloseBrace gap ∷ Mark CloseBrace (codes "\n") ∷ []

are_tokens : AreTokens sum_source (tokens_of pieces)
are_tokens = reads pieces refl refl

three_is_short : Contains short_constants (codes "ldc.i4.3", pos 3)
three_is_short = (4, lit< tt, refl)

-- each part of the grammar takes its tokens, one after another
unit_read : IsUnit (tokens_of pieces) sum_program
unit_read = (_, (_, (_, refl, (_, refl, (_, refl, (_, refl, refl)))), refl), (_, refl, (_, (_, refl, (_, refl, (_, refl, (_, refl, (_, refl, (_, refl, (_, refl, (_, (_, (_, refl, (_, refl, refl)), refl), (_, refl, (_, refl, (_, (_, (_, refl, (_, refl, (_, inr refl, (_, refl, (_, refl, (_, refl, (_, (_, refl, (_, refl, refl)), (_, refl, (_, refl, (_, refl, (_, refl, (_, refl, (_, refl, (_, refl, (_, (_, (_, refl, inl (fits_32, (_, refl, refl))), (_, (_, refl, inr (codes "ldc.i4.3", three_is_short, refl)), (_, (_, refl, refl), (_, (_, refl, (_, refl, (_, refl, (_, refl, (_, (_, (_, refl, (_, refl, refl)), refl), (_, refl, (_, refl, (_, refl, (_, (_, (_, refl, refl), refl), refl))))))))), (_, (_, refl, refl), refl))))), refl))))))))))))))), refl), refl))))))))))), refl)))

pub sum_is_read : IsTreeOf sum_source sum_program
sum_is_read = (tokens_of pieces, are_tokens, unit_read)
