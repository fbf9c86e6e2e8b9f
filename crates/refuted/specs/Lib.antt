-- The wrong programs of document 01, "How tight the promises are" and "Traps we or the papers fell into".

-- of both jobs
pub mod Programs
-- the searches that lead List astray
pub mod Enumeration
-- for List
pub mod Lists
-- for Turn
pub mod Turns
