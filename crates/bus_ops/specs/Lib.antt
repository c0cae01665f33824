pub mod Views
pub mod Fields
pub mod PartsView
pub mod ItemsIn
