-- What is found of a macro.
pub mod Certified
pub mod Promised
pub mod Straight
pub mod Accepting
pub mod Certifying
pub mod Telling
pub mod Refusing
pub mod Unfit
pub mod Again
