pub mod Clients
pub mod Views
pub mod Rule
pub mod Steps
pub mod Passes
pub mod Lending
pub mod Working
