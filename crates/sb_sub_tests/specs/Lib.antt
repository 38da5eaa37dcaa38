pub mod Nested
