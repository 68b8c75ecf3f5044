pub mod Joined
pub mod Every
pub mod Checked
