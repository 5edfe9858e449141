pub mod Counted
pub mod Encoded
pub mod Holding
pub mod Spare
