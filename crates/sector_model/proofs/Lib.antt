-- a history with one more entry
pub mod OneMore
-- what a plain volume stands for after one more request
pub mod Stands
-- bytes written over others, as an array
pub mod Overwritten
-- the conditions of entries in small histories
pub mod SmallHistories
