-- the candidates of one slot
pub mod Slots
