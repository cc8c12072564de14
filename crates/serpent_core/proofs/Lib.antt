-- the key schedule, as the code fills it
pub mod KeyByKey
