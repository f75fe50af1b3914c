-- `feed::feed` meets its contract: an `04` main gets the value of its text, nothing is taken by an `03` main.
use Rattle.std.proofs.lemmas.Result.{err_from_is_err_and}
use Rattle.engine.proofs.FeedLaws as laws
use Rattle.engine.proofs.feed.feed.Goals as goal

pub returns-in_err-read_input : goal.returns-in_err-read_input
returns-in_err-read_input c =
    let p = err_from_is_err_and c.from_residual.result c.from_residual.ensures.1 in
    rw (p.1, p.2) (search (laws.text_refused, c.in_err-read_input.was))

pub returns-in-Some : goal.returns-in-Some
returns-in-Some c = search (laws.value_fed, c.in_ok-read_input.was)

pub returns-then-input-ne0 : goal.returns-then-input-ne0
returns-then-input-ne0 c = search laws.text_unwanted

pub returns : goal.returns
returns c = search laws.nothing_fed
