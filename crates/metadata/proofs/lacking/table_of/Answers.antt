use Rattle.std.proofs.Common.{◌≡◌, Bool, true, false, not, IfOk, Result, Ok, Err, List, Some, slice_get, is_some, refl, sym, ap, ◌∙◌}
use Rattle.std.proofs.lemmas.Option.{none-some}
use Rattle.std.specs.List.{list_any, list_all}
use Rattle.cil_model.specs.declared.trees.Method.{Method}
use Rattle.name_tables.specs.Methods.{virtual_index, line_of, methods_at}
use Rattle.name_tables.specs.Numbers.{nearest_number}
use Rattle.name_tables.specs.Sameness.{identity_of}
use Rattle.resolved_code.specs.VirtualSlots.{is_virtual_found}
use Rattle.resolved_code.proofs.ListLaws.Tests.{list_all_congr}
use Rattle.metadata.proofs.MethodLaws.{virtual_on_line}
use Rattle.metadata.proofs.lacking.table_of.Goals as goal

not_false : (b : Bool) → false ≡ not b → b ≡ true
not_false true e = refl
not_false false e = e

-- what holds of a result's value by two facts of it
from_both : {T E : Type 0} (r : Result T E) (P Q R : T → Type 0) → ((v : T) → P v → Q v → R v) → IfOk r P → IfOk r Q → IfOk r R
from_both (Ok v) P Q R f p q = f v p q
from_both (Err e) P Q R f p q = p

pub returns-then-not-are_many : goal.returns-then-not-are_many
returns-then-not-are_many c = λ class e. absurd (none-some false (sym (ap (λ (xs : List Bool). slice_get xs class) c.new.ensures.items) ∙ e))

pub returns : goal.returns
returns c =
    let t = c.args.methods.now.names.now.classes.tree.now in
    let required = methods_at t c.args.interface in
    from_both c.lacks_some.result _ _ _ (λ table reported ended class e.
    let line = line_of t (Some class) in
    let found : Method → Bool = λ m. is_some (nearest_number (virtual_index t (identity_of m)) line) in
    let declared : Method → Bool = λ m. list_any (is_virtual_found t (identity_of m)) line in
    let all : list_all found required ≡ true = not_false (list_all found required) (reported class false e (ended class e)) in
    sym (list_all_congr found declared (λ m. virtual_on_line t (identity_of m) line) required) ∙ all)
    c.lacks_some.ensures.reported c.lacks_some.ensures.ended
