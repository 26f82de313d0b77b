pub mod Bits
pub mod Division
pub mod Check
pub mod Distance
pub mod Standing
