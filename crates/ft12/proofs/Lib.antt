pub mod Writing
pub mod Judging
