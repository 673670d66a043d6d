pub mod Reading
pub mod Faults
pub mod Words
pub mod Kinds
pub mod Operators
pub mod Decoded
pub mod Encoded
pub mod Bytes
