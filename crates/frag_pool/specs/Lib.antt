-- what the passes of one deque know, and the rule that they keep
pub mod Deque
-- what clauses say of benches and helpers
pub mod Bench
-- what only this crate's own clauses name: what each step tells
pub mod Laws
