mod Texts
mod Opening
mod Running
mod Pages
mod Strict
mod Bounds
mod Texting
mod Changed
