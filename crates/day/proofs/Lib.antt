pub mod Above
pub mod Chains
pub mod Runs
pub mod Sofar
pub mod Turns
