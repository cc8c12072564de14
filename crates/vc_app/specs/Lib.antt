-- the exit statuses
pub mod Status
-- what a promise is, and what it means
pub mod Promise
-- what a password opens
pub mod Access
-- what `cat` promises
pub mod Cat
-- what `info` promises
pub mod Info
-- what `format` promises
pub mod Format
-- what `hide` promises
pub mod Hide
-- what writes headers of an opened volume promises
pub mod Rewriting
-- what `passwd` promises
pub mod Passwd
-- what `restore` promises
pub mod Restore
-- what `expand` promises
pub mod Expand
-- the commands, each with its promise
pub mod Commands
-- what `serve` promises
pub mod Serve
-- what `drill` promises
pub mod Drill
-- definitions that only private contracts cite
pub mod Laws
