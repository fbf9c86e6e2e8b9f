-- The laws behind what is forced and how settings stand.
pub mod Verdicts
mod SelectorLaws
pub mod ValueLaws
mod StandingLaws
mod Tallies
pub mod RuleLaws
mod ForcingLaws
