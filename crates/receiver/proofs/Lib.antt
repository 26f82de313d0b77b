pub mod Ties
pub mod Stages
pub mod Asked
pub mod Judging
pub mod Taking
pub mod Listening
