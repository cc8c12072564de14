-- ranges, and what two of them have in common
pub mod Range
