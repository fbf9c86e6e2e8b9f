-- What the check of a list asks of each of its sets.
pub mod Leads
