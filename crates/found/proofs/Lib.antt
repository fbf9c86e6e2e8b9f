-- The laws behind the functions over found sets.
mod FoundLaws
