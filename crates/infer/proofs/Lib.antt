pub mod Chains
pub mod Conditions
pub mod Certificates
pub mod Kept
pub mod MadeCertificates
