mod Prelude
mod Ends
mod Touched
mod Turned
mod Written
