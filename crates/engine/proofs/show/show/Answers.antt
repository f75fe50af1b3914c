-- What `linerun` shows: what is shown for the two texts that its input is cut into.
use Rattle.engine.proofs.CutLaws as cuts
use Rattle.engine.proofs.ShowLaws as laws
use Rattle.engine.proofs.show.show.Goals as goal

pub slice_bounds-show_texts-end : goal.slice_bounds-show_texts-end
slice_bounds-show_texts-end c = search cuts.cut_count

pub slice_bounds-show_texts-count : goal.slice_bounds-show_texts-count
slice_bounds-show_texts-count c = search cuts.cut_low

pub slice_bounds-show_texts-start : goal.slice_bounds-show_texts-start
slice_bounds-show_texts-start c = search cuts.cut_low

pub returns : goal.returns
returns c = search laws.shown_cut
