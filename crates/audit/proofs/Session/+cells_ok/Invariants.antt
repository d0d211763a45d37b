use Rattle.std.proofs.Common.{◌-◌}
use Rattle.audit.proofs.Session.+cells_ok.Given as goal

abbrev pub decreases-cells_ok : goal.decreases-cells_ok
decreases-cells_ok l = 16 - l.i
