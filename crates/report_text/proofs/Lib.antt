mod Counted
mod Entries
mod FirstFindings
mod Lines
mod ShownFindings
