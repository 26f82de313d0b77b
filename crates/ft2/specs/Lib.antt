pub mod Standing
pub mod Making
pub mod Writing
