-- what was taken of a client's bytes, request by request
pub mod Hearing
-- what carrying out a request left
pub mod CarriedOut
