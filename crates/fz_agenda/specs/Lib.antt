pub mod Agendas
pub mod Bits
pub mod Queues
pub mod Wakes
pub mod Watches
