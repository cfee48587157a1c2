mod Absent
mod Counted
mod Gathered
mod Parts
mod Places
