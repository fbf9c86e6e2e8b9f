-- What the program's function gives back, from the text to the lines it puts out, and what these say.
pub mod Resolve
pub mod Meaning
-- what its parts promise each other
pub mod Code
