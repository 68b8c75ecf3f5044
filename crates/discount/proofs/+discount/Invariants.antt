-- The measure is the number of years.
use Rattle.discount.proofs.+discount.Given as goal

abbrev pub decreases-discount : goal.decreases-discount
decreases-discount l = l.j
