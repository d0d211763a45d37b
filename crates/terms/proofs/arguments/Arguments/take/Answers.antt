use Rattle.std.proofs.Common.{rules}
use Rattle.laws.proofs.Turns.{turns, turning_on}
use Rattle.terms.proofs.arguments.Arguments.take.Goals as goal

pub loop-i-init : goal.loop-i-init
loop-i-init c = search turns

pub loop-i-preserved : goal.loop-i-preserved
loop-i-preserved c = turning_on _ _ _ _ _ c.loop-i.invariant _ (search rules) cc
