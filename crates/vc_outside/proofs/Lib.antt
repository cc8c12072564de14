pub mod Writes
pub mod Events
pub mod Calls
pub mod RecordGrows
pub mod CrashIsReplayed
pub mod ReadIsRecorded
pub mod Steps
pub mod Results
-- what a crash may leave of calls that change nothing, one after another
pub mod NothingMore
