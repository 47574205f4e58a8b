mod Checks
mod Rows
