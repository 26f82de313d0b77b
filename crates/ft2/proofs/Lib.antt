pub mod Places
pub mod Adding
pub mod Filling
pub mod Lengths
pub mod Writing
