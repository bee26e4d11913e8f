-- Taking operands off a stack: of values where a program runs, of types where it is verified (I.12.3.2.1).
use Rattle.std.specs.Prelude.{List, [], ◌∷◌}

-- Each takes the topmost operands and continues with them, in the order in which they were pushed, and with what lies
-- below; or it gives the result for a missing one.
abbrev pub take_one : {X R : Type 0} → R → List X → (X → List X → R) → R
take_one missing [] go = missing
take_one missing (a ∷ rest) go = go a rest

-- two operands
abbrev pub take_two : {X R : Type 0} → R → List X → (X → X → List X → R) → R
take_two missing [] go = missing
take_two missing (b ∷ []) go = missing
take_two missing (b ∷ a ∷ rest) go = go a b rest

-- three operands
abbrev pub take_three : {X R : Type 0} → R → List X → (X → X → X → List X → R) → R
take_three missing [] go = missing
take_three missing (c ∷ []) go = missing
take_three missing (c ∷ b ∷ []) go = missing
take_three missing (c ∷ b ∷ a ∷ rest) go = go a b c rest
