-- The proof of `sort::seek_whole`: an object looked for, and what follows from its being new. By the laws of Sorts.
use Rattle.maker.proofs.Sorts as laws
use Rattle.maker.proofs.sort.seek_whole.Goals as goal

pub bounds-fresh-x : goal.bounds-fresh-x
bounds-fresh-x c = search laws.rare_marked

pub returns-then-not-fresh-x : goal.returns-then-not-fresh-x
returns-then-not-fresh-x c = search laws.rare_told

pub returns : goal.returns
returns c = search laws.rare_onward
