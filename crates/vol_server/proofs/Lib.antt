-- shares of several passes, added in one unit
mod Weighing
-- the works of all threads are lined up, one by one
mod LinedUp
-- a work that was done, by the values that it began and ended with
mod Running
-- what follows a handshake, and what failed in both together
mod Following
-- a pass for each task is split off, one by one
mod Splitting
-- the passes of the tasks are joined, one by one
mod Joining
-- what the clients among the tasks have is listed, task by task
mod Listing
-- what the threads did is what the clients were promised
mod Serving
