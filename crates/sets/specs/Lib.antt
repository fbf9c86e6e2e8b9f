-- The definitions over sets of settings: sets, lists of sets, turning, marks, and the tests that compute.
pub mod Width
pub mod Sets
pub mod Lists
pub mod Turns
pub mod Tests
pub mod Marks
