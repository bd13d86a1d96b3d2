pub mod Summaries
pub mod Values
pub mod Spans
pub mod OnKeys
pub mod Groups
pub mod Counts
