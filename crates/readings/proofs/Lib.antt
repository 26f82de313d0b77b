pub mod Digits
pub mod Spelled
pub mod Worded
