use Rattle.image.specs.Image.{largest_of}
use Rattle.conversion.specs.Conversion.{fits_narrow}
use Rattle.conversion.proofs.fits_narrow.Goals as goal

pub returns : goal.returns
unfolding fits_narrow largest_of
returns c = rw c.diverge_at-d.ensures
