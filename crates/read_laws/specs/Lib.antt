pub mod FindingsAscend
pub mod FindingsFollowReads
