-- each step keeps the rule
pub mod Steps
