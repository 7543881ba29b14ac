use Rattle.image.specs.Image.{largest_of}
use Rattle.image_fault.specs.ImageFault.{diverge_train_fits}
use Rattle.image_fault.proofs.diverge_train_fits.Goals as goal

pub returns : goal.returns
unfolding diverge_train_fits largest_of
returns c = rw c.diverge_at.ensures
