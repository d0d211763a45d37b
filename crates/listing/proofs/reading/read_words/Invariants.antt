use Rattle.std.proofs.Common.{◌≡◌}
use Rattle.listing.specs.File.{words_read}
use Rattle.listing.proofs.reading.read_words.Given as goal

abbrev pub invariant-loop-i : goal.invariant-loop-i
invariant-loop-i l = l.words ≡ words_read l.file l.i l.fn.words
