pub mod App
pub mod Parts
pub mod Views
