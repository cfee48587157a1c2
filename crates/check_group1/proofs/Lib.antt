pub mod SideRows
