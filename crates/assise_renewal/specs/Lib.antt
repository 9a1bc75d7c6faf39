pub mod Led
pub mod ReplicatedClients
pub mod Renewal
