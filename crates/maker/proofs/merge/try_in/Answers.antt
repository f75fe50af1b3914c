-- The proof of `merge::try_in`: a new object whose parts are brought into block host, which lies at dst or above and begins with the objects of block base. By the laws of Tries.
use Rattle.maker.proofs.Tries as laws
use Rattle.maker.proofs.merge.try_in.Goals as goal

pub returns-in_err-w : goal.returns-in_err-w
returns-in_err-w c = let was = c.in_err-w.was in rw c.from_residual.ensures (search laws.in_none)

pub enter_over-requires : goal.enter_over-requires
enter_over-requires c = let was = c.in_ok-w.was in (search laws.in_block, search laws.in_fits)

pub returns-in_err-r : goal.returns-in_err-r
returns-in_err-r c = let w_was = c.in_ok-w.was in let r_was = c.in_err-r.was in rw c.from_residual-in_err-r.ensures (search laws.in_full)

pub bring-requires : goal.bring-requires
bring-requires c = (
  laws.in_holds _ _ _ _ _ _ c.requires.0 c.requires.1 c.requires.3 _ _ c.bring_parts.ensures _ c.in_ok-w.was _ c.root_numbers.ensures _ _ c.enter_over.ensures _ c.in_ok-r.was,
  laws.in_room _ _ _ _ _ _ c.requires.0 c.requires.1 c.requires.3 _ _ c.bring_parts.ensures _ c.in_ok-w.was _ c.root_numbers.ensures _ _ c.enter_over.ensures c.requires.4,
)

pub returns : goal.returns
returns c = let w_was = c.in_ok-w.was in let r_was = c.in_ok-r.was in search laws.in_made
