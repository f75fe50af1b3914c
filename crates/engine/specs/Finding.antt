-- What `line_find` answers of any table's bytes: what the byte search finds (crate classes, Machine).
-- Not here: what that is of a table that is read (cofj's Finding, and Promises).
use Rattle.std.specs.Prelude.{Some, None}
use Rattle.std.specs.declared.option.Option.{Option}
use Rattle.cofj.specs.declared.Finding.{Finding}
use Rattle.cofj.specs.Finding.{nothing_found, found_at}
use Rattle.classes.specs.declared.methods.Found.{Found}

abbrev pub finding_in : Option Found → Finding
finding_in (Some f) = found_at f.owner f.method
finding_in None = nothing_found
