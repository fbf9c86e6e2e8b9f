-- The table of document 01, "The table to prove".
pub mod Rows
pub mod Table
