mod Prelude
pub mod Counting
pub mod FirstCode
pub mod Known
pub mod Pairs
pub mod Said
pub mod SessionSteps
pub mod Together
pub mod Touching
