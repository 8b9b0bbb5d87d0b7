pub mod Conclude
