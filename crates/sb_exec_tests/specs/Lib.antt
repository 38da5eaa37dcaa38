pub mod TestBus
