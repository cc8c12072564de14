-- derivations, valid numbers, outcomes, and the first of them
pub mod Race
