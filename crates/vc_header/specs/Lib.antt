-- the checksum CRC-32
pub mod Crc
-- the parts and fields of a header, and when it is valid
pub mod Header
-- where the volume of a header is
pub mod Volume
-- tests and laws that a reader need not believe
pub mod Laws
-- the definitions of the crates below that the contracts here cite
pub use Rattle.vc_layout.specs.Layout
