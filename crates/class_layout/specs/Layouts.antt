-- What the tables of a layout hold.
use Rattle.std.specs.Prelude.{◌≡◌, map}
use Rattle.cil_model.specs.declared.trees.Tree.{Tree}
use Rattle.cil_model.specs.Legality.{IsLegal}
use Rattle.class_layout.specs.ByClass.{by_class, assignable_row}
use Rattle.class_layout.specs.Kinds.{slot_kinds}
use Rattle.class_layout.specs.FieldSlots.{field_rows, class_names}
use Rattle.class_layout.specs.Targets.{target_rows, targets_of}
use Rattle.class_layout.specs.declared.ancestry.Ancestry.{Ancestry}
use Rattle.class_layout.specs.declared.layout.Layout.{Layout}

-- the table of assignability
pub record IsAncestry (tree : Tree) (table : Ancestry) : Type 0 where
  pub rows : map (λ row. row.items) table.rows.items ≡ by_class tree (assignable_row tree)

-- a layout of a legal tree
pub record IsLayout (tree : Tree) (layout : Layout) : Type 0 where
  pub legal : IsLegal tree
  pub ancestry : IsAncestry tree layout.ancestry
  pub kinds : map (λ row. row.items) layout.kinds.items ≡ by_class tree (slot_kinds tree)
  pub fields : map (λ row. row.items) layout.fields.items ≡ field_rows tree 0 (class_names tree)
  pub targets : map (λ row. map targets_of row.items) layout.targets.items ≡ by_class tree (target_rows tree)
