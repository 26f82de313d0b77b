pub mod Faults
pub mod Limits
pub mod Frames
pub mod Reading
pub mod Worked
