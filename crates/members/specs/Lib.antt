-- What a set does to the members of a given list.
pub mod Members
