mod Faults
mod Runs
