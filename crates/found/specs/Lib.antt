-- What found sets ask of the settings, and what the functions over them promise.
pub mod FoundSets
