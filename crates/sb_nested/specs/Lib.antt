pub mod Stop
pub mod View
pub mod Store
pub mod Laws
