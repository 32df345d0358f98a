mod Names
mod Fronts
mod Takes
mod Losing
pub mod Below
mod Planning
pub mod Going
