-- what a session did so far
pub mod Onward
-- what one request does
pub mod Acts
