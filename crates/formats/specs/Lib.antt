pub mod Marks
pub mod Verdicts
pub mod Laws
pub mod Answers
pub mod Machine
pub mod Numbers
pub mod Texts
pub mod Putting
