-- Mark's answer as the result that document 01 describes, its promise, and what that says.
pub mod Marking
pub mod Meaning
-- what the marks ask of a list
pub mod Code
