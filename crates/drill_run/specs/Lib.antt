pub mod RoundRobin
pub mod Drills
pub mod DrillText
