-- data units and header bodies under an algorithm
pub mod Cascade
-- what ghost items and private contracts cite
pub mod Laws
-- the plain volume
pub mod Volume
-- the algorithms, their names and ciphers
pub use Rattle.algorithm_names.specs.Algorithms
