-- what contracts see on a runner
pub mod Known
-- what only this crate's own clauses name: the rule of the table, and what each step tells
pub mod Laws
