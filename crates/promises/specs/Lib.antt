pub mod Ft12Receivers
pub mod Ft2Receivers
