-- how a call's end goes with the counts of faults
pub mod Settled
-- opening without a header
pub mod Unopened
-- a hidden header that isn't opened
pub mod Hidden
-- a volume from its opening on
pub mod Opening
-- data units that were read
pub mod Units
