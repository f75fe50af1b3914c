-- `sign::sign_row` meets its contract: a law of SignLaws for each row.
use Rattle.lineform.proofs.SignLaws as laws
use Rattle.lineform.proofs.sign.sign_row.Goals as goal

pub returns-in-64 : goal.returns-in-64
returns-in-64 c = search laws.row_this

pub returns-in-65 : goal.returns-in-65
returns-in-65 c = search laws.row_res

pub returns-in-66 : goal.returns-in-66
returns-in-66 c = search laws.row_parameter

pub returns-in-67 : goal.returns-in-67
returns-in-67 c = search laws.row_field

pub returns-in-68 : goal.returns-in-68
returns-in-68 c = rw c.from-n.ensures (search laws.row_call)

pub returns-in-69 : goal.returns-in-69
returns-in-69 c = rw c.from-n.ensures (search laws.row_new)

pub returns-in-70 : goal.returns-in-70
returns-in-70 c = search laws.row_number

pub returns-in-71 : goal.returns-in-71
returns-in-71 c = search laws.row_sum

pub returns-in-72 : goal.returns-in-72
returns-in-72 c = search laws.row_difference

pub returns-in-73 : goal.returns-in-73
returns-in-73 c = search laws.row_choose

pub returns-in_default : goal.returns-in_default
returns-in_default c = search laws.row_none
