-- `lines::frames_good` meets its contract. The loop keeps `Left` (LineLaws): the lines from i on have frames exactly when all do, and the
-- right expressions of the methods passed are noted.
use Rattle.std.proofs.Common.{rules}
use Rattle.std.proofs.lemmas.Result.{err_from_is_err_and}
use Rattle.cofj.specs.declared.Refusal.TheVariants.{BadFrame}
use Rattle.lineform.proofs.LineLaws as laws
use Rattle.lineform.proofs.lines.frames_good.Goals as goal

pub loop-i-init : goal.loop-i-init
loop-i-init c = (search rules, search laws.left_all)

pub slice_bounds-frame_kind-end : goal.slice_bounds-frame_kind-end
slice_bounds-frame_kind-end c = search laws.line_within

pub returns-in_err-k : goal.returns-in_err-k
returns-in_err-k c =
    let p = err_from_is_err_and c.from_residual.result c.from_residual.ensures.1 in
    let q = laws.no_frame c.frame_kind.result BadFrame c.in_err-k.field-0.0 c.in_err-k.ensures.value in
    let n = q.0 in
    rw (p.1, p.2, q.1) (search laws.bad_line)

pub note_right-m-requires : goal.note_right-m-requires
note_right-m-requires c = let n = laws.a_frame _ _ _ c.in_ok-k.ensures.value in search laws.small_kind

pub loop-i-preserved : goal.loop-i-preserved
loop-i-preserved c = (search laws.line_within, let n = laws.a_frame _ _ _ c.in_ok-k.ensures.value in search laws.good_line)

pub returns : goal.returns
returns c = search laws.all_good
