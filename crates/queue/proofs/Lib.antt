mod Ranks
mod Steps
mod Sifting
mod Pinned
mod Taking
