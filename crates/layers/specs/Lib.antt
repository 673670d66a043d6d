pub mod Names
pub mod Fences
pub mod Renames
pub mod Pairs
pub mod Sides
pub mod FenceLaws
pub mod RenameLaws
pub mod PairLaws
