pub mod Form
pub mod Root
