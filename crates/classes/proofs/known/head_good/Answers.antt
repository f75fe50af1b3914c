-- `known::head_good` meets its contract: a law of LineLaws at each return.
use Rattle.classes.proofs.LineLaws as laws
use Rattle.classes.proofs.known.head_good.Goals as goal

pub returns-then-s-lt8 : goal.returns-then-s-lt8
returns-then-s-lt8 c = search laws.method_short

pub returns-then-s-eq0 : goal.returns-then-s-eq0
returns-then-s-eq0 c = search laws.method_object

pub returns-then-n-s : goal.returns-then-n-s
returns-then-n-s c = search laws.method_owner

pub returns-then-not-class_known : goal.returns-then-not-class_known
returns-then-not-class_known c = search laws.method_first

pub returns-then-not-class_known-2 : goal.returns-then-not-class_known-2
returns-then-not-class_known-2 c = search laws.method_second

pub returns-then-not-closed : goal.returns-then-not-closed
returns-then-not-closed c = search laws.method_open

pub returns : goal.returns
returns c = search laws.method_params
