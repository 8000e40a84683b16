mod Apart
mod Keys
mod Meanings
mod Places
mod Upwards
