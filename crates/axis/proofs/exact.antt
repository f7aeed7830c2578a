pub mod Exacts
