-- The refutations.

-- of both jobs
mod Programs
-- where the wrong searches go astray
mod Enumeration
-- for List
pub mod Lists
-- for Turn
pub mod Turns
