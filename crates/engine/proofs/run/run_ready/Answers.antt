-- `run::run_ready` meets its contract: what each step refuses, or the run of the table.
use Rattle.std.proofs.Common.{rules}
use Rattle.std.proofs.lemmas.Result.{err_from_is_err_and}
use Rattle.tables.proofs.ReadLaws as reads
use Rattle.engine.proofs.StateLaws as states
use Rattle.engine.proofs.WorkLaws as works
use Rattle.engine.proofs.RunLaws as laws
use Rattle.engine.proofs.run.run_ready.Goals as goal

pub read_into-requires : goal.read_into-requires
read_into-requires c = search reads.zeros

pub returns-in_err-read_into : goal.returns-in_err-read_into
returns-in_err-read_into c =
    let p = err_from_is_err_and c.from_residual.result c.from_residual.ensures.1 in
    rw (p.1, p.2) (laws.run_unread _ _ _ _ _ _ c.requires _ _ c.read_into.ensures _ c.in_err-read_into.was)

pub returns-in_err-judge : goal.returns-in_err-judge
returns-in_err-judge c =
    let p = err_from_is_err_and c.from_residual-in_err-judge.result c.from_residual-in_err-judge.ensures.1 in
    rw (p.1, p.2) (laws.run_untyped _ _ _ _ _ _ c.requires _ _ c.read_into.ensures c.in_ok-read_into.was _ c.judge.ensures _ c.in_err-judge.was)

pub feed-requires : goal.feed-requires
feed-requires c = (
  laws.some_table c.args.mode c.args.text.now c.args.input.now c.args.session c.args.out.now c.args.work.now c.requires _ _ c.read_into.ensures c.in_ok-read_into.was,
  search rules,
)

pub returns-in_err-fed : goal.returns-in_err-fed
returns-in_err-fed c =
    let p = err_from_is_err_and c.from_residual-in_err-fed.result c.from_residual-in_err-fed.ensures.1 in
    rw (p.1, p.2) (laws.run_unfed _ _ _ _ _ _ c.requires _ _ c.read_into.ensures c.in_ok-read_into.was _ c.judge.ensures c.in_ok-judge.was _ _ c.feed.ensures _ c.in_err-fed.was)

pub slice_bounds-run_report-end : goal.slice_bounds-run_report-end
slice_bounds-run_report-end c = (states.lent_by _ _ _ c.requires).1

pub slice_bounds-run_report-end-2 : goal.slice_bounds-run_report-end-2
slice_bounds-run_report-end-2 c = works.front-count c.args.work.now (states.lent_by _ _ _ c.requires).1

pub run_report-r-requires : goal.run_report-r-requires
run_report-r-requires c = (
  works.front_room c.args.work.now (states.lent_by _ _ _ c.requires).1,
  laws.given _ _ _ _ _ c.feed.ensures c.in_ok-fed.was,
  (states.lent_by _ _ _ c.requires).0,
)

pub clear-requires : goal.clear-requires
clear-requires c = works.whole_room c.args.work.now c.run_report-r.new.work c.run_report-r.ensures.same (states.lent_by _ _ _ c.requires).1

pub returns : goal.returns
returns c =
    laws.run_ran _ _ _ _ _ _ c.requires _ _ c.read_into.ensures c.in_ok-read_into.was _ c.judge.ensures c.in_ok-judge.was _ _ c.feed.ensures _ _ c.run_report-r.new.work _ _ c.in_ok-fed.was
    (states.lent_by _ _ _ c.requires).1 c.run_report-r.ensures c.clear.ensures
