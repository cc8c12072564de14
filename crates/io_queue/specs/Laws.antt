-- what each event of the core may do, asks and adds, as an act on the lock
pub mod Acts
-- the open writes of a pass, and the admission of one
pub mod Opens
-- a pass between two requests
pub mod Idle
-- what a write takes to have its fragments enciphered
pub mod Works
