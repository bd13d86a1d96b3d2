pub mod Secrets
pub mod Texts
