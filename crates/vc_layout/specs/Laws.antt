-- sectors are whole data units
pub mod Sectors
