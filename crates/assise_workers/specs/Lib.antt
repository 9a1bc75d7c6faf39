pub mod Working
pub mod Told
pub mod Serving
pub mod Acting
pub mod Letters
pub mod Taking
pub mod ClusterTurns
