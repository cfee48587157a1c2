pub mod FindingTables
pub mod Verdicts
pub mod Ready
pub mod Rejudging
pub mod Singles
pub mod Limits
pub mod Refusals
pub mod Benches
