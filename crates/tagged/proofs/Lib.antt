pub mod Signs
pub mod Tagging
pub mod Walking
pub mod Numbered
pub mod Figures
