use Rattle.std.proofs.Common.{◌≡◌, ◌<◌, ◌+◌, ◌++◌, ◌∷◌, [], ℕ, List, Option, Some, None, length, get_or, take, sym, ap, ◌∙◌, arith}
use Rattle.std.specs.Prelude.{filter_map}
use Rattle.std.proofs.lemmas.List.{take_all}
use Rattle.std.proofs.lemmas.Option.{slice_get-get_or, get_or_from_slice_get}
use Rattle.class_layout.specs.Kinds.{resolved_kind}
use Rattle.class_layout.proofs.Indices.{filter_skips, filter_takes}
use Rattle.class_layout.proofs.fields.instance_kinds.Goals as goal

read : {X : Type 0} (xs : List X) (i : ℕ) (d : X) → i < length xs → get_or xs i d ≡ get_or xs i (get_or xs i d)
read xs i d l = sym (get_or_from_slice_get xs i (get_or xs i d) (get_or xs i d) (slice_get-get_or xs i d l))

skips : {X Y : Type 0} (h : X → Option Y) (xs : List X) (i : ℕ) (d : X) (ys : List Y) → i < length xs → ys ≡ filter_map h (take i xs) → h (get_or xs i d) ≡ None → ys ≡ filter_map h (take (i + 1) xs)
skips h xs i d ys l before none = filter_skips h xs i (get_or xs i d) ys l (read xs i d l) before none

takes : {X Y : Type 0} (h : X → Option Y) (xs : List X) (i : ℕ) (d : X) (ys zs : List Y) (y : Y) → i < length xs → ys ≡ filter_map h (take i xs) → h (get_or xs i d) ≡ Some y → zs ≡ ys ++ y ∷ [] → zs ≡ filter_map h (take (i + 1) xs)
takes h xs i d ys zs y l before some after = filter_takes h xs i (get_or xs i d) ys zs y l (read xs i d l) before some after

pub loop-field-preserved-in_default : goal.loop-field-preserved-in_default
loop-field-preserved-in_default c = λ tree.
    skips (resolved_kind tree) c.args.fields.now c.loop-field.field-index _ c.loop-field.kinds.items (omega arith) (c.loop-field.invariant tree) (sym (c.instance_kind.ensures tree) ∙ c.in_default.is)

pub loop-field-preserved : goal.loop-field-preserved
loop-field-preserved c = λ tree.
    takes (resolved_kind tree) c.args.fields.now c.loop-field.field-index _ c.loop-field.kinds.items c.push.new.self.items c.in-Some.kind (omega arith) (c.loop-field.invariant tree) (sym (c.instance_kind.ensures tree) ∙ c.in-Some.is) c.in_ok-push.ensures.items

pub returns : goal.returns
returns c = λ tree. c.loop-field.invariant tree ∙ ap (filter_map (resolved_kind tree)) (take_all c.loop-field.field-index c.args.fields.now c.loop-field-test.false)
