pub mod SignTests
pub mod ContactTests
