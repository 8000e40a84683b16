mod Within
mod Left
mod Hands
mod Steps
mod Taking
mod Playing
