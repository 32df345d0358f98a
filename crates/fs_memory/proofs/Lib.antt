mod Plans
mod Removals
mod Walks
mod Valid
mod Sound
mod Named
