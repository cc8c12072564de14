-- lists of entries: prefixes, and the entries under a number
pub mod History
-- what a pass knows: share, history, numbers
pub mod Known
-- what only this crate's own clauses name: the rule of the table, and what each step tells
pub mod Laws
