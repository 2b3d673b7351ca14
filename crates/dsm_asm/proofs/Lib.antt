pub mod Cuts
pub mod Holding
pub mod Reading
pub mod Refusing
pub mod Starting
pub mod Stating
pub mod Taking
pub mod Whereabouts
