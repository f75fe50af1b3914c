-- The proof of the cycle of `walk::visit` and `walk::fields`: the objects met, depth first. At each call the measure μ falls: `visit` goes on with one step
-- fewer, k, and `fields` with the same k to `visit` and to the fields that are left, 4 - f of them. Each return is a law of Walks.
use Rattle.std.proofs.Common.{rules, arith, length-set}
use Rattle.canon.proofs.Walks as laws
use Rattle.canon.proofs.walk.+fields_visit.Goals as goal

pub fields-returns-then-f-ge-CODES : goal.fields-returns-then-f-ge-CODES
fields-returns-then-f-ge-CODES t c = (search laws.fields_end, search rules)

pub fields-returns-then-nodes-at : goal.fields-returns-then-nodes-at
fields-returns-then-nodes-at t c = (search laws.fields_out, search rules)

pub fields-visit-t-requires : goal.fields-visit-t-requires
fields-visit-t-requires t c = (search rules, (search rules, search rules, c.requires.0.codes.low _ _ c.requires.2 c.if-f-ge-CODES.false, search laws.first_small))

pub fields-fields-requires : goal.fields-fields-requires
fields-fields-requires t c = let room = c.requires.0 in
    let inside = c.requires.2 in (
      omega arith,
      (
        record { codes = room.codes; colours = room.colours; order = omega (arith, room.order); met = omega (arith, room.met) },
        c.visit-t.ensures.1,
        inside,
        laws.rest_small _ _ _ _ _ _ inside c.if-f-ge-CODES.false c.if-nodes-at.false _ c.visit-t.ensures.0 c.requires.3,
      ),
    )

pub fields-returns : goal.fields-returns
fields-returns t c = (search laws.fields_more, search rules)

pub visit-returns-then-k-eq0 : goal.visit-returns-then-k-eq0
visit-returns-then-k-eq0 t c = (search laws.visit_zero, search rules)

pub visit-returns-then-r-ge-FIRST_LEAF : goal.visit-returns-then-r-ge-FIRST_LEAF
visit-returns-then-r-ge-FIRST_LEAF t c = (search laws.visit_none, search rules)

pub visit-returns-then-met-c-ne0 : goal.visit-returns-then-met-c-ne0
visit-returns-then-met-c-ne0 t c = (laws.visit_seen _ _ _ _ _ c.args.m c.if-k-eq0.false c.if-r-ge-FIRST_LEAF.false _ c.requires c.if-met-c-ne0.true, c.requires.1)

pub visit-bounds-order-m : goal.visit-bounds-order-m
visit-bounds-order-m t c = omega (arith, c.requires.0.order, laws.new_fits _ _ _ _ _ c.args.m c.if-k-eq0.false c.if-r-ge-FIRST_LEAF.false _ c.requires c.if-met-c-ne0.false)

pub visit-fields-requires : goal.visit-fields-requires
visit-fields-requires t c = let room = c.requires.0 in (
  omega arith,
  (
    record { codes = room.codes; colours = room.colours; order = simp length-set room.order; met = simp length-set room.met },
    laws.new_listed _ _ _ _ _ c.args.m c.if-k-eq0.false c.if-r-ge-FIRST_LEAF.false _ c.requires c.if-met-c-ne0.false,
    laws.colour_low _ _ _ _ _ c.args.m c.if-k-eq0.false c.if-r-ge-FIRST_LEAF.false _ c.requires,
    laws.new_small _ _ _ _ _ c.args.m c.if-k-eq0.false c.if-r-ge-FIRST_LEAF.false _ c.requires c.if-met-c-ne0.false,
  ),
)

pub visit-returns : goal.visit-returns
visit-returns t c = (
  laws.visit_new _ _ _ _ _ c.args.m c.if-k-eq0.false c.if-r-ge-FIRST_LEAF.false _ c.requires c.if-met-c-ne0.false _ c.fields.ensures.0,
  c.fields.ensures.1,
)
