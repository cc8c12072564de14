-- the rules as a test
pub mod Tests
