mod Marks
mod Finds
mod Inserts
