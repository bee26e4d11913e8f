use Rattle.std.proofs.Common.{arith}
use Rattle.object_memory.specs.Spaces.{birth_space_of}
use Rattle.object_memory.proofs.Rooms.{shell_fits, size-shell, HasShellRoom-opened, HasShellRoom-shell}
use Rattle.object_memory.proofs.Births.{HasShellRoom-birth_at}
use Rattle.object_memory.proofs.laws.shells_fit.Goals as goal

pub returns-clause-fits : goal.returns-clause-fits
returns-clause-fits c m a x h room e bare = omega (arith, shell_fits m h room a x e bare, size-shell a x)

pub returns-clause-opened : goal.returns-clause-opened
returns-clause-opened c m words long = HasShellRoom-opened m words long

pub returns-clause-shell : goal.returns-clause-shell
returns-clause-shell c m a x h room e bare = HasShellRoom-shell m h room a x e bare

pub returns-clause-birth : goal.returns-clause-birth
returns-clause-birth c m phase k n h room ne = HasShellRoom-birth_at m h k n (birth_space_of phase m.is_open) ne room
