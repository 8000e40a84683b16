mod Segments
mod Numbers
mod Lines
mod Walks
