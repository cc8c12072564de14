-- an expanded container
pub mod Expanded
-- what a crash in the middle of the call may leave
pub mod Stops
