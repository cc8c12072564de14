-- output that grows part by part
pub mod Growth
-- data units of the plain volume
pub mod Units
-- the plain units that were written, part by part
pub mod Parts
-- how a call keeps a promise, by the way in which it ends
pub mod PromiseIsKept
-- how a command that opens a volume keeps its promise
pub mod Reading
-- how a command that writes headers of an opened volume keeps its promise
pub mod Rewriting
-- how `expand` keeps its promise
pub mod Expanding
-- from the arguments to the promise that is kept
pub mod CommandIsChosen
-- sectors in data units and bytes
pub mod Sectors
-- when a volume is opened to be served, and what comes without a fault
pub mod Serving
-- the status of the clients' ends
pub mod Ends
-- a volume that was opened, served and closed
pub mod ServedVolume
-- a call that runs a drill
pub mod Drilling
