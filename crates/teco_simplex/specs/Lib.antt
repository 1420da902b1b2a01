-- What it means that values satisfy a linear program.
pub mod Satisfaction
