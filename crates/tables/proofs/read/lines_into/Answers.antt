-- `read::lines_into` meets its contract: a law of ReadLaws after each step.
use Rattle.std.proofs.lemmas.Result.{err_from_is_err_and}
use Rattle.tables.proofs.ReadLaws as laws
use Rattle.tables.proofs.read.lines_into.Goals as goal

pub returns-in_err-counts : goal.returns-in_err-counts
returns-in_err-counts c =
    let p = err_from_is_err_and c.from_residual-in_err-counts.result c.from_residual-in_err-counts.ensures.1 in
    rw (p.1, p.2) (search (laws.no_order, c.in_ok-frames_good.was, c.in_err-counts.was))

pub place_table-requires : goal.place_table-requires
place_table-requires c =
    let k = laws.counted _ _ c.requires.0 _ c.frames_good.ensures c.in_ok-frames_good.was _ c.order.ensures _ c.in_ok-counts.was in
    (laws.few_classes_lem _ _ _ _ k, laws.few_methods_lem _ _ _ _ k)

pub returns-in_err-place_table : goal.returns-in_err-place_table
returns-in_err-place_table c =
    let k = laws.counted _ _ c.requires.0 _ c.frames_good.ensures c.in_ok-frames_good.was _ c.order.ensures _ c.in_ok-counts.was in
    let p = err_from_is_err_and c.from_residual-in_err-place_table.result c.from_residual-in_err-place_table.ensures.1 in
    rw (p.1, p.2) (laws.no_table_lem _ _ _ _ k _ _ _ c.place_table.ensures c.requires.1 _ _ c.in_err-place_table.was)

pub returns : goal.returns
returns c =
    let k = laws.counted _ _ c.requires.0 _ c.frames_good.ensures c.in_ok-frames_good.was _ c.order.ensures _ c.in_ok-counts.was in
    laws.by_overrides _ _ _ _ k _ _ _ c.place_table.ensures c.requires.1 c.in_ok-place_table.was _ c.overrides.ensures
