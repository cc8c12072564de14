-- the range that a request asks for
pub mod Request
-- the fragments that a request is cut into
pub mod Fragments
