-- `input::parts_input` meets its contract: a law of InputLaws at each return, and for what `lay` and `value_fits` ask.
use Rattle.batch.proofs.InputLaws as laws
use Rattle.batch.proofs.input.parts_input.Goals as goal

pub returns-in_default : goal.returns-in_default
returns-in_default c = search laws.many_given

pub lay-n-requires : goal.lay-n-requires
lay-n-requires c = search laws.objects_ready

pub returns-then-objects-n : goal.returns-then-objects-n
returns-then-objects-n c = search laws.large_given

pub returns-then-not-value_fits : goal.returns-then-not-value_fits
returns-then-not-value_fits c = search laws.unfit_given

pub returns : goal.returns
returns c = search laws.fit_given
