-- The number falls at each call: it loses its last digit.
use Rattle.listing.proofs.printing.Lines.+put_decimal.Given as goal

abbrev pub decreases-put_decimal : goal.decreases-put_decimal
decreases-put_decimal l = l.n
