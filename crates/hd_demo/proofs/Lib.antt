mod Drawings
mod DemoTexts
