mod LeavesMaps
mod MakesElement
mod SaddleAnswers
pub mod Determined
