pub mod Histories
pub mod TicketLockRule
pub mod Outcomes
pub mod Handles
