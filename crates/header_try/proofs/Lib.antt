-- what holds of a body holds of what equals it
mod Bodies
-- the first element that passes a test
pub mod Finding
-- opening gives the first valid candidate
pub mod First
