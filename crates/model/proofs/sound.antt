-- What soundness says, rule by rule, and what it gives to everyone above.
pub mod ByRule
pub mod Walks
pub mod Ready
pub mod Facts
pub mod Once
pub mod Quiet
pub mod Counted
pub mod Count
pub mod Most
pub mod Small
pub mod Judging
