-- Laws of a walk and of what it pairs, then the theorems that specs/ states.
pub mod Worth
pub mod Scaling
pub mod Units
pub mod Signs
pub mod Groups
pub mod ClassWorth
pub mod Butterfly
pub mod Shapes
pub mod Sound
pub mod Slicing
pub mod FairTables
pub mod Demand3
pub mod Reach
