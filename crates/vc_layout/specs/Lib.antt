-- where headers and volumes are
pub mod Layout
-- which slots are tried
pub mod Kinds
-- laws that a reader need not believe
pub mod Laws
