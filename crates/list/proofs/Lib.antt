-- From the walk to the job's promise, and what follows from it.

-- the refusals before the search
mod Refusing
-- from the walk to the answer
mod Giving
-- the job's promise
mod Answering
-- what follows from the promise
pub mod Promise
