use Rattle.std.proofs.Common.{◌≡◌, ◌<◌, ◌+◌, ◌-◌, ℕ, List, Some, None, Bor, length, map, take, drop, slice_get, option_map, length-drop, refl, sym, ap, subst, ◌∙◌, arith}
use Rattle.std.specs.List.{position_from}
use Rattle.std.proofs.lemmas.List.{length-map, drop-map, take_all}
use Rattle.std.proofs.lemmas.Option.{slice_get_read, slice_get-map}
use Rattle.cil_model.specs.declared.trees.Method.{Method}
use Rattle.cil_model.specs.Bodies.{is_entry_point}
use Rattle.cil_model.specs.Legality.{is_entry_method}
use Rattle.metadata.proofs.EntryLaws.{one_fits, two_pass, is_within}
use Rattle.metadata.proofs.entry.first_fault.Goals as goal

abbrev current : Bor Method → Method
current m = m.now

-- all that are after others
following : (xs : List (Bor Method)) (i : ℕ) → take (length xs - i) (drop i xs) ≡ drop i xs
following xs i = take_all (length xs - i) (drop i xs) (omega (arith, length-drop i xs))

found_after : (xs : List (Bor Method)) (i : ℕ) → position_from is_entry_point 0 (drop i (map current xs)) ≡ position_from is_entry_point 0 (map current (take (length xs - i) (drop i xs)))
found_after xs i = ap (position_from is_entry_point 0) (drop-map current i xs ∙ ap (map current) (sym (following xs i)))

pub overflow_add-following-in-Some : goal.overflow_add-following-in-Some
overflow_add-following-in-Some c =
    let rest : List (Bor Method) = take (length c.args.methods.now - (c.args.first + 1)) (drop (c.args.first + 1) c.args.methods.now) in
    let there : c.in-Some.further < length rest = subst (λ n. c.in-Some.further < n) (length-map rest current) (is_within is_entry_point is_entry_method (map current rest) c.in-Some.further (sym c.entry_index.ensures ∙ c.in-Some.is)) in
    let size : length rest ≡ length c.args.methods.now - (c.args.first + 1) = ap length (following c.args.methods.now (c.args.first + 1)) ∙ length-drop (c.args.first + 1) c.args.methods.now in
    omega (arith, there, size)

pub returns-in-None : goal.returns-in-None
returns-in-None c =
    let xs = c.args.methods.now in
    let first = c.args.first in
    let method = c.index-methods-first.result in
    let read : slice_get xs first ≡ Some method = slice_get_read xs (length xs) first method refl c.requires.within c.index-methods-first.is in
    let there : slice_get (map current xs) first ≡ Some (current method) = slice_get-map current xs first ∙ ap (option_map current) read in
    let none : position_from is_entry_point 0 (drop (first + 1) (map current xs)) ≡ None = found_after xs (first + 1) ∙ sym c.entry_index.ensures ∙ c.in-None.is in
    c.fault_of.ensures ∙ sym (one_fits is_entry_point is_entry_method (map current xs) first (current method) c.requires.first there none)

pub returns-in-Some : goal.returns-in-Some
returns-in-Some c =
    let xs = c.args.methods.now in
    let first = c.args.first in
    let another : position_from is_entry_point 0 (drop (first + 1) (map current xs)) ≡ Some c.in-Some.further = found_after xs (first + 1) ∙ sym c.entry_index.ensures ∙ c.in-Some.is in
    sym (two_pass is_entry_point is_entry_method (map current xs) first c.in-Some.further c.requires.first another)
