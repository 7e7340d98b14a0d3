-- A packet checked as a header: its refusal, and the fields that receiving and gathering use.
pub mod Checking
pub mod Cutting
pub mod Demands
pub mod OnPaper
