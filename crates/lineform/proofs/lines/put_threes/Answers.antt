-- `lines::put_threes` meets its contract. The loop keeps `Puts`; three bytes more are a law of DecodeLaws, that they are bytes one of HexLaws.
use Rattle.lineform.proofs.HexLaws as hex
use Rattle.lineform.proofs.DecodeLaws as laws
use Rattle.lineform.proofs.lines.put_threes.Goals as goal

pub loop-i-init : goal.loop-i-init
loop-i-init c = search laws.puts_start

pub overflow_add-x : goal.overflow_add-x
overflow_add-x c = search hex.two_fit

pub overflow_add-x-in-loop-i : goal.overflow_add-x-in-loop-i
overflow_add-x-in-loop-i c = search hex.three_fit

pub overflow_cast-out : goal.overflow_cast-out
overflow_cast-out c = search hex.first_byte

pub overflow_cast-out-in-loop-i : goal.overflow_cast-out-in-loop-i
overflow_cast-out-in-loop-i c = search hex.second_byte

pub loop-i-preserved : goal.loop-i-preserved
loop-i-preserved c = search laws.puts_three
