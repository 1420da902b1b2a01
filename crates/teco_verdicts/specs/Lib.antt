-- What is printed, and what is accepted as a certificate.
pub mod Certificates
pub mod Answers
pub mod Ending
pub mod RoundTrip
pub mod Linear
pub mod Methods
pub mod Json
pub mod Each
pub mod Changes
