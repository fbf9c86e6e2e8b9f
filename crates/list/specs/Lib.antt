-- List's answer as the result that document 01 describes, its promise, and what that says.
pub mod Listing
pub mod Meaning
-- what its parts promise each other
pub mod Code
