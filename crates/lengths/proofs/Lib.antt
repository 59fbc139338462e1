-- Sums, the lengths of lines, of the lines for each row of a table, and of a report.
pub mod Sums
pub mod Lines
pub mod Rows
pub mod Places
pub mod Whole
