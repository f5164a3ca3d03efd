pub mod RoomLaws
pub mod Firsts
pub mod Integers
pub mod Arguments
