use Rattle.std.proofs.Common.{◌≡◌, ◌+◌, ◌∷◌, ◌++◌, ℕ, zero, suc, Bool, Vec, Global, List, [], Some, length, slice_get, sym, ap, ◌∙◌, subst}
use Rattle.std.proofs.lemmas.List.{length-append}
use Rattle.std.proofs.lemmas.Option.{same_Some, none-some}
use Rattle.metadata.specs.InterfaceTables.{IsTable}
use Rattle.metadata.proofs.lacking.tables_of.Goals as goal

-- one more after others
one_more : {X : Type 0} (P : ℕ → X → Type 0) (xs : List X) (y : X) → ((i : ℕ) (x : X) → slice_get xs i ≡ Some x → P i x) → P (length xs) y → (i : ℕ) (x : X) → slice_get (xs ++ y ∷ []) i ≡ Some x → P i x
one_more P [] y h here zero x e = subst (P zero) (same_Some y x e) here
one_more P [] y h here (suc i) x e = absurd (none-some x e)
one_more P (z ∷ zs) y h here zero x e = h zero x e
one_more P (z ∷ zs) y h here (suc i) x e = one_more (λ j. P (suc j)) zs y (λ j. h (suc j)) here i x e

pub loop-interface-init : goal.loop-interface-init
loop-interface-init c = record {
  width = ap length c.new-tables.ensures.items;
  tables = λ i table e. absurd (none-some table (sym (ap (λ (xs : List (Vec Bool Global)). slice_get xs i) c.new-tables.ensures.items) ∙ e));
}

pub loop-interface-preserved : goal.loop-interface-preserved
loop-interface-preserved c =
    let t = c.args.methods.now.names.now.classes.tree.now in
    let inv = c.loop-interface.invariant in
    let tables : List (Vec Bool Global) = c.loop-interface.tables.items in
    let one : Vec Bool Global = c.in_ok-table_of.field-0 in
    let is_table : ℕ → Vec Bool Global → Type 0 = λ i v. IsTable t i v.items in
    record {
      width = ap length c.in_ok-push.ensures.items ∙ length-append tables (one ∷ []) ∙ ap (λ n. n + 1) inv.width;
      tables = λ i table e. one_more is_table tables one inv.tables (subst (λ n. is_table n one) (c.new.ensures ∙ sym inv.width) c.in_ok-table_of.ensures) i table (sym (ap (λ (xs : List (Vec Bool Global)). slice_get xs i) c.in_ok-push.ensures.items) ∙ e);
    }
