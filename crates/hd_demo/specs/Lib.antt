pub mod Generator
pub mod DemoText
