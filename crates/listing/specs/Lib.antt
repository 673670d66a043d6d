pub mod Text
pub mod Files
