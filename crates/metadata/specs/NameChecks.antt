-- What the text contains: types together as a list, and whether the names in a method refer to something.
use Rattle.std.specs.Prelude.{Bool, ◌&&◌, List, ◌++◌, option_map, option_to_list}
use Rattle.cil_model.specs.declared.types.DeclaredType.{DeclaredType}
use Rattle.std.specs.List.{list_all}
use Rattle.cil_model.specs.declared.trees.Tree.{Tree}
use Rattle.cil_model.specs.declared.trees.Method.{Method}
use Rattle.cil_model.specs.Mentions.{owners_of_instruction, instructions_of}
use Rattle.cil_model.specs.Legality.{is_resolved, finds_member, finds_labels}
use Rattle.metadata.specs.declared.mentions.NamedTypes.{NamedTypes}

-- the parameters, and then the one after them (II.15.3)
abbrev pub types_named : NamedTypes → List DeclaredType
types_named n = n.parameters.now ++ option_to_list (option_map (λ t. t.now) n.last)

-- the owners, the members and the labels that a method's instructions name are there
abbrev pub knows_names : Tree → Method → Bool
knows_names tree m = list_all (λ i. list_all (is_resolved tree) (owners_of_instruction i) && finds_member tree i) (instructions_of m) && finds_labels m
