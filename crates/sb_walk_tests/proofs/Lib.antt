pub mod TestSet
