-- What the walk promises.
pub mod Walking
