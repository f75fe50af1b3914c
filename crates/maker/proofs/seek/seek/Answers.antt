-- The proof of `seek::seek`: looks for object x, of which nothing is known yet, among the objects of the host: it is told then, or marked as new. By the laws of Seeks.
use Rattle.std.proofs.Common.{rules, ◌+◌, ap, length}
use Rattle.maker.specs.Seeking.{SoughtTo}
use Rattle.maker.proofs.Seeks as laws
use Rattle.maker.proofs.seek.seek.Goals as goal
use Rattle.maker.proofs.seek.seek.Goals.{then-like+else-tell, else-like}

pub loop-y-init : goal.loop-y-init
loop-y-init c = (search rules, search laws.seek_few, search rules, laws.seek_start _ _ _ _ _)

pub like-requires : goal.like-requires
like-requires c = (search rules, search laws.seek_inside)

pub tell-requires : goal.tell-requires
tell-requires c = (search rules, search laws.seek_inside, search laws.seek_mapped, search laws.seek_unknown)

pub returns-then-tell : goal.returns-then-tell
returns-then-tell c = search laws.seek_told

pub loop-y-preserved : goal.loop-y-preserved
loop-y-preserved c = let so = c.loop-y.invariant.3 in
    let s : SoughtTo c.args.work.now c.args.src c.args.x c.args.host c.args.told.now c.if-like.told (c.loop-y.y + 1) =
    elim c.if-like.branch [
      | then-like+else-tell w ↦ laws.seek_differs _ _ _ _ _ _ _ so _ _ w.tell.ensures w.if-tell.false _ w.told-is
      | else-like w ↦ laws.seek_unlike _ _ _ _ _ _ _ so c.requires.0 c.requires.1 c.loop-y-test.true _ c.like.ensures w.if-like.false _ w.told-is
    ] in
    (search rules, search rules, ap length s.same, s)

pub bounds-fresh-x : goal.bounds-fresh-x
bounds-fresh-x c = search laws.seek_room

pub returns : goal.returns
returns c = search laws.seek_new
