pub mod LineBoxes
