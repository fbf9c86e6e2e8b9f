-- What describes the code: the contracts of functions inside cite it, and nobody has to believe it.
pub mod Checks
pub mod Taken
pub mod SetupOf
