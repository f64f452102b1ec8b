pub mod Refusal
pub mod Intake
pub mod Gathering
