-- The proof of `sort::by_fields`: what its fields tell of an object. By the laws of Sorts.
use Rattle.maker.proofs.Sorts as laws
use Rattle.maker.proofs.sort.by_fields.Goals as goal

pub leads_new-requires : goal.leads_new-requires
leads_new-requires c = (search laws.listed_inside, search laws.sorting_marked)

pub bounds-fresh-x : goal.bounds-fresh-x
bounds-fresh-x c = search laws.listed_marked

pub returns-then-leads_new : goal.returns-then-leads_new
returns-then-leads_new c = search laws.fields_new

pub turn_fields-requires : goal.turn_fields-requires
turn_fields-requires c = (search laws.listed_inside, search laws.sorting_told)

pub returns-in_default : goal.returns-in_default
returns-in_default c = search laws.fields_silent

pub eight_at-requires : goal.eight_at-requires
eight_at-requires c = search laws.listed_numbers

pub bounds-work-p : goal.bounds-work-p
bounds-work-p c = search laws.listed_room

pub bounds-work-p-2 : goal.bounds-work-p-2
bounds-work-p-2 c = search laws.listed_room_1

pub find-requires : goal.find-requires
find-requires c = (search laws.sorting_host, search laws.host_count, search laws.fields_packed)

pub overflow_add-told : goal.overflow_add-told
overflow_add-told c = search laws.found_small

pub bounds-told-x : goal.bounds-told-x
bounds-told-x c = search laws.listed_told

pub returns-in-Some-find : goal.returns-in-Some-find
returns-in-Some-find c = search laws.fields_found

pub bounds-fresh-x-2 : goal.bounds-fresh-x-2
bounds-fresh-x-2 c = search laws.listed_marked

pub returns : goal.returns
returns c = search laws.fields_missed
