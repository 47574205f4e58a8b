mod Branches
mod Loops
mod Names
