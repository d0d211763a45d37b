use Rattle.std.proofs.Common.{◌≡◌, take}
use Rattle.listing.specs.Text.{written_of, writes, SameLoan}
use Rattle.listing.proofs.printing.Lines.put_text.Given as goal

abbrev pub invariant-loop-b : goal.invariant-loop-b
invariant-loop-b l = (written_of l.self ≡ writes (take l.b-index l.text) (written_of l.fn.self)) × SameLoan l.fn.self l.self
