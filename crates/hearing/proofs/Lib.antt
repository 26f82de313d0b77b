pub mod Traces
pub mod Verdicts
pub mod Runs
pub mod Gap
pub mod Frames
pub mod Alterations
pub mod Promised
