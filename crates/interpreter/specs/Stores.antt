-- What the threads of a machine share.
use Rattle.std.specs.Prelude.{◌≡◌}
use Rattle.interpreter.specs.declared.stores.Store.{Store}

-- two stores hold the same
pub record HoldSame (old new : Store) : Type 0 where
  pub heap : new.heap ≡ old.heap
  pub statics : new.statics.items ≡ old.statics.items
  pub console : new.console.items ≡ old.console.items
