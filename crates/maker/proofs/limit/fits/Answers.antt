-- The proof of `limit::fits`: whether a value has at most so many objects. By the laws of Limits, one for each return.
use Rattle.maker.proofs.Limits as laws
use Rattle.maker.proofs.limit.fits.Goals as goal

pub returns-in_default : goal.returns-in_default
returns-in_default c = search laws.fits_leaf

pub bounds-work-b : goal.bounds-work-b
bounds-work-b c = search laws.count_read

pub returns-then-work-b : goal.returns-then-work-b
returns-then-work-b c = search laws.fits_block

pub import-requires : goal.import-requires
import-requires c = (search laws.spare_inside, search laws.spare_empty, search laws.spare_other)

pub returns-in_default-import : goal.returns-in_default-import
returns-in_default-import c = search laws.fits-over

pub bounds-work : goal.bounds-work
bounds-work c = search laws.spare_read

pub shape_of-work : goal.shape_of-work
shape_of-work c = search laws.spare_length

pub returns : goal.returns
returns c = search laws.fits-counted
