-- what stores and sinks hold, and sources have left
pub mod Told
-- what a crash may leave
pub mod Crash
-- faults that are planned
pub mod Planned
-- a sink over memory
pub mod Output
-- a source over memory
pub mod Input
-- what a store over memory records
pub mod Record
-- a store over memory
pub mod Memory
-- laws of what it records, and definitions that only private contracts cite
pub mod Laws
-- the counts of faults that the contracts here cite
pub use Rattle.vc_base.specs.Faults
