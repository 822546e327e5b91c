mod Passed
mod Line
