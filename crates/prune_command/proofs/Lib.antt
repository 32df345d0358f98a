mod Sweeps
mod Steps
