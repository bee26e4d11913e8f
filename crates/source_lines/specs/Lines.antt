-- The lines of instructions in a source (this profile).
use Rattle.std.specs.Prelude.{◌+◌, ◌==◌, ℕ, zero, suc, Bool, true, false, if◌then◌else◌, List, [], ◌∷◌, bytes_eq, codes, drop, take, Option, Some, None, option_and_then, option_map, unwrap_or}
use Rattle.std.specs.List.{count_by}
use Rattle.cil_model.specs.declared.tokens.Token.{Token}
use Rattle.cil_model.specs.declared.tokens.Token.TheVariants.{Reserved}
use Rattle.ilasm_tokens.specs.Lexing.{offset_of, tokens_at}
use Rattle.ilasm_tokens.specs.Vocabulary.{use_of}
use Rattle.ilasm_tokens.specs.declared.words.WordUse.{WordUse}
use Rattle.ilasm_tokens.specs.declared.words.WordUse.TheVariants.{Instruction as OfInstruction}
use Rattle.source_lines.specs.declared.finding.Part.{Part}
use Rattle.source_lines.specs.declared.finding.Part.TheVariants.{Class, Method, Instruction}

-- the word is the name of an instruction
abbrev pub names_instruction : Option WordUse → Bool
names_instruction (Some (OfInstruction form)) = true
names_instruction _ = false

-- each class begins with `.class`, each method with `.method`, and each instruction with its name; these words have no other use
abbrev pub is_first_word : Part → List ℕ → Bool
is_first_word Class word = bytes_eq word (codes ".class")
is_first_word Method word = bytes_eq word (codes ".method")
is_first_word Instruction word = names_instruction (use_of word)

abbrev pub begins : Part → Token → Bool
begins part (Reserved word) = is_first_word part word
begins part _ = false

-- the index of the token that begins such a part after this number of others, in tokens whose first one has this index
abbrev pub index_from : Part → ℕ → ℕ → List Token → Option ℕ
index_from part others at [] = None
index_from part zero at (t ∷ ts) = if begins part t then Some at else index_from part zero (at + 1) ts
index_from part (suc n) at (t ∷ ts) = if begins part t then index_from part n (at + 1) ts else index_from part (suc n) (at + 1) ts

-- the token that begins a method of a class: the methods of a class follow its first token
abbrev pub method_token : List Token → ℕ → ℕ → Option ℕ
method_token ts class n = option_and_then (λ start. index_from Method n start (drop start ts)) (index_from Class class 0 ts)

-- the token that names an instruction of a method: the instructions of a method follow its first token
abbrev pub instruction_token : List Token → ℕ → ℕ → ℕ → Option ℕ
instruction_token ts class method n = option_and_then (λ start. index_from Instruction n start (drop start ts)) (method_token ts class method)

-- the tokens of a source; none if it is refused
abbrev pub tokens_of : List ℕ → List Token
tokens_of source = unwrap_or (tokens_at source) []

-- the line of the byte at an offset, from 1: one more than the line feeds before it
abbrev pub line_of_byte : List ℕ → ℕ → ℕ
line_of_byte source offset = count_by (λ byte. byte == 10) (take offset source) + 1

abbrev pub line_of_token : List ℕ → ℕ → Option ℕ
line_of_token source token = option_map (line_of_byte source) (offset_of token source)

-- the line of an instruction of a method of a class, each by its index
abbrev pub instruction_line : List ℕ → ℕ → ℕ → ℕ → Option ℕ
instruction_line source class method n = option_and_then (line_of_token source) (instruction_token (tokens_of source) class method n)
