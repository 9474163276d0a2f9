mod Lent
mod Places
mod Turns
