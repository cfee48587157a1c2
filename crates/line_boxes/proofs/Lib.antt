pub mod DisjointBoxes
pub mod ApartLines
