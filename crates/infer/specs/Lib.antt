pub mod DefaultCond
pub mod Fragment
pub mod Infer
