mod Rows
mod Absent
mod Control
