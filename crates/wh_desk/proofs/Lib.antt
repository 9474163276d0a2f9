mod EndsThere
mod Nothing
mod Others
mod Owners
mod Owning
mod Traced
