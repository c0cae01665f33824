pub mod Scenario
pub mod Play
pub mod PlayText
pub mod PlayReading
pub mod PlayValues
pub mod WrongReaders
