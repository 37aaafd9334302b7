use Rattle.wh_policy.proofs.NameLaws.{fits_exactly}
use Rattle.wh_policy.proofs.laws.fits_exactly.Goals as goal

pub returns : goal.returns
returns c = fits_exactly
