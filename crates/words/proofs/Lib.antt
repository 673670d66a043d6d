pub mod Exact
pub mod Whole
pub mod Little
pub mod Results
pub mod Readers
