-- The table's proof.
pub mod Table
