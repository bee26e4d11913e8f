-- The numbers of the rules of legality (this profile).
use Rattle.std.specs.Prelude.{ℕ, Bool, List, [], ◌∷◌}
use Rattle.cil_model.specs.declared.trees.Tree.{Tree}
use Rattle.cil_model.specs.Legality.{doubles_name, lacks_name, has_cycle, lacks_implementation, has_kind_mismatch, lacks_entry, passes_limit}
use Rattle.metadata.specs.declared.program.MetaError.{MetaError}
use Rattle.metadata.specs.declared.program.MetaError.TheVariants.{Broken, OutOfMemory}
use Rattle.metadata.specs.declared.violations.Violation.{Violation}
use Rattle.metadata.specs.declared.violations.Violation.TheVariants.{Duplicate, Unknown, CyclicBase, NotImplemented, KindMismatch, BadEntry, ExceededLimit}
use Rattle.metadata.specs.declared.rules.Rule.{Rule}
use Rattle.metadata.specs.declared.rules.Rule.TheVariants.{NamesOccurOnce, NamesAreKnown, BasesEnd, InterfacesAreImplemented, KindsFit, OneEntryPoint, LimitsAreKept}

-- the number that is printed where the rule is broken (this profile)
abbrev pub rule_number : Rule → ℕ
rule_number NamesOccurOnce = 201
rule_number NamesAreKnown = 202
rule_number BasesEnd = 203
rule_number InterfacesAreImplemented = 204
rule_number KindsFit = 205
rule_number OneEntryPoint = 206
rule_number LimitsAreKept = 207

-- the rule that is broken
abbrev pub rule_of : Violation → Rule
rule_of (Duplicate name) = NamesOccurOnce
rule_of (Unknown name) = NamesAreKnown
rule_of (CyclicBase class) = BasesEnd
rule_of (NotImplemented absent) = InterfacesAreImplemented
rule_of (KindMismatch kind_mismatch) = KindsFit
rule_of (BadEntry entry) = OneEntryPoint
rule_of (ExceededLimit limit) = LimitsAreKept

-- the number that is printed where a rule is broken so (this profile)
abbrev pub violation_number : Violation → ℕ
violation_number v = rule_number (rule_of v)

-- the number that is printed for a refusal (this profile)
abbrev pub number_of : MetaError → ℕ
number_of (Broken violation) = violation_number violation
number_of OutOfMemory = 208

-- the rules on names and bases, and the others: all of them are those of `least_broken`
abbrev pub rules_of_names : Tree → List (ℕ × Bool)
rules_of_names tree = (201, doubles_name tree) ∷ (202, lacks_name tree) ∷ (203, has_cycle tree) ∷ []

abbrev pub rules_of_methods : Tree → List (ℕ × Bool)
rules_of_methods tree = (204, lacks_implementation tree) ∷ (205, has_kind_mismatch tree) ∷ (206, lacks_entry tree) ∷ (207, passes_limit tree) ∷ []
