-- Tokens of types, tested.
use Rattle.std.proofs.Common.{List, [], ◌∷◌, refl, codes}
use Rattle.cil_model.specs.declared.tokens.Symbol.TheVariants.{OpenBracket, CloseBracket, Comma}
use Rattle.cil_model.specs.declared.tokens.Token.{Token}
use Rattle.cil_model.specs.declared.tokens.Token.TheVariants.{Reserved, Name, Symbol}
use Rattle.cil_model.specs.declared.types.Element.TheVariants.{Int32}
use Rattle.cil_model.specs.declared.instructions.Instruction.TheVariants.{NewArray}
use Rattle.cil_model.specs.Declarations.{plain}
use Rattle.cil_model.specs.Grammar.{type_of, instr}
use Rattle.definition_tests.proofs.Samples.Programs.{of_class, arrays_of}

-- a pair of brackets, and what follows it
abbrev pair : List Token → List Token
pair rest = Symbol OpenBracket ∷ Symbol CloseBracket ∷ rest

no_pair : type_of (plain Int32) (Reserved (codes "int32") ∷ []) []
no_pair = (_, refl, refl)

two_pairs : type_of (arrays_of (plain Int32) 2) (Reserved (codes "int32") ∷ pair (pair [])) []
two_pairs = (_, refl, (_, refl, (_, refl, (_, refl, (_, refl, refl)))))

-- a type may end before a pair of brackets that follows it: the whole text has no tree then
one_pair_of_two : type_of (arrays_of (plain Int32) 1) (Reserved (codes "int32") ∷ pair (pair [])) (pair [])
one_pair_of_two = (_, refl, (_, refl, (_, refl, refl)))

new_array_of_arrays : instr (NewArray (arrays_of (of_class (codes "Dog")) 1)) (Reserved (codes "newarr") ∷ Reserved (codes "class") ∷ Name (codes "Dog") ∷ pair (Reserved (codes "ret") ∷ [])) (Reserved (codes "ret") ∷ [])
new_array_of_arrays = (_, refl, (_, (_, refl, (_, refl, refl)), (_, refl, (_, refl, refl))))

three_after_a_class : type_of (arrays_of (of_class (codes "Dog")) 3) (Reserved (codes "class") ∷ Name (codes "Dog") ∷ pair (pair (pair (Symbol Comma ∷ [])))) (Symbol Comma ∷ [])
three_after_a_class = (_, (_, refl, (_, refl, refl)), (_, refl, (_, refl, (_, refl, (_, refl, (_, refl, (_, refl, refl)))))))
