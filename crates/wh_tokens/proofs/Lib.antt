mod Owners
mod OneLine
mod Lines
mod Spaces
