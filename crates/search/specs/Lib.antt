-- What the functions of the search promise, over the search of setups/specs/Searching.antt.
pub mod Told
