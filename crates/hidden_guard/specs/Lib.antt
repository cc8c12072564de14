-- what a guard is, and when a write touches what it protects
pub mod Protection
