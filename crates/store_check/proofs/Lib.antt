mod Digits
mod Orders
pub mod Gathering
mod Firsts
pub mod Damages
mod Wholes
mod FirstRefs
mod Remembering
mod Grouping
mod Keeps
mod Marking
mod Ends
mod Bounds
mod Entering
mod Folding
mod Distinct
pub mod Excluded
