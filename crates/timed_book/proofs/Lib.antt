mod Times
mod Writing
