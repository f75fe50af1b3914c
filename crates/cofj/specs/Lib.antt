-- The language: every definition that a reader must believe. What is promised of it stands in Promises, to be read first and again last.
-- To believe the definitions, read in this order, each file from the ones before it:
--   the text and its table: Limits, Text, Syntax, Classes, Lookup, Frames, Tables, Reading, Writing;
--   types: TypingRules, with Env and the tags from Typing;
--   values and runs: Values, Unfolding, RunningRules, with Outcome, Frame and open_mark from Running;
--   the calls: Refusals, Report, Batch for the second text of a run, Calls, Show, Finding; then Soundness and Promises.
-- Skip at first: Partial and Bytes (helpers), the functions of Typing and Running (proved to compute the rules), Formed and WellFormed (what
-- proofs need of values and tables), ReportForm (which texts are reports), Rows (the cases A to J), RequestRows (examples of document 02's requests).
pub mod Limits
pub mod Partial
pub mod Text
pub mod Syntax
pub mod Classes
pub mod Lookup
pub mod Frames
pub mod Tables
pub mod Reading
pub mod Writing
pub mod Nesting
pub mod WellFormed
pub mod Typing
pub mod TypingRules
pub mod Values
pub mod Unfolding
pub mod Running
pub mod RunningRules
pub mod Refusals
pub mod Report
pub mod Formed
pub mod ReportForm
pub mod Batch
pub mod Calls
pub mod Show
pub mod Finding
pub mod Soundness
pub mod Promises
pub mod Bytes
pub mod Rows
pub mod RequestRows
