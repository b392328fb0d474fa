pub mod Given
pub mod Turns
pub mod Fit
pub mod Assignments
pub mod Work
pub mod Expenses
pub mod Noting
pub mod Writing
