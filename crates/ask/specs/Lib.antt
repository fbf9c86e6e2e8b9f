-- Ask's answer as the result that document 01 describes, its promise, and what that says.
pub mod Asking
pub mod Meaning
-- what its checks answer
pub mod Code
