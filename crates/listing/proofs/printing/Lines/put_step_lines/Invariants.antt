use Rattle.std.proofs.Common.{◌≡◌, take, map}
use Rattle.words.specs.Answers.{answer_of}
use Rattle.machine.specs.Program.{step_lines}
use Rattle.listing.specs.Text.{written_of, writes, SameLoan}
use Rattle.listing.proofs.printing.Lines.put_step_lines.Given as goal

abbrev pub invariant-loop-i : goal.invariant-loop-i
invariant-loop-i l = (written_of l.self ≡ writes (step_lines l.number (map answer_of (take l.i l.answers))) (written_of l.fn.self)) × SameLoan l.fn.self l.self
