mod Families
mod Overs
pub mod Precedences
pub mod Lones
mod Lays
mod Passes
mod Directs
mod Afters
mod Objects
mod Bares
pub mod Atoms
mod Rests
mod Seats
mod Enclosures
mod Onwards
mod Traversals
mod Conditionals
mod Elements
mod Calls
mod ListFors
mod Layings
mod Strands
mod TextTurns
pub mod Tables
pub mod Programs
pub mod Callings
pub mod Columns
pub mod Goings
pub mod Runs
pub mod Spellings
pub mod Tellings
pub mod Strings
mod Heads
mod Singles
mod Tolds
mod TextHeads
mod Growns
mod Nodes
mod Looks
mod Texteds
mod Tabled
mod Walks
mod Checks
mod WalkEnds
