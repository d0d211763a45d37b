use Rattle.std.proofs.Common.{◌≡◌, drop}
use Rattle.store.specs.Memory.{memory}
use Rattle.kuniqjaak.specs.Runs.{session, final}
use Rattle.kuniqjaak.proofs.Session.{told}
use Rattle.kuniqjaak.proofs.runs.run_steps.Given as goal

-- what is left of the run when i of the steps are answered
abbrev pub invariant-loop-i : goal.invariant-loop-i
invariant-loop-i l = record {
  words : final l.limits (drop l.i l.steps) (session (memory l.heap l.born l.turned) l.tables)
      ≡ final l.limits l.steps (session (memory l.fn.heap l.fn.born l.fn.turned) l.fn.tables);
  answers : told l.limits (drop l.i l.steps) l.i (session (memory l.heap l.born l.turned) l.tables) l.answered
      ≡ told l.limits l.steps 0 (session (memory l.fn.heap l.fn.born l.fn.turned) l.fn.tables) l.fn.answered;
}
