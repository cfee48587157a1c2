pub mod FirstFaults
pub mod Formed
pub mod NotedPlaces
