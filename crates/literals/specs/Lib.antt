-- Where the code finds the values of variables, and which is the lowest that is free.
pub mod Slots
