pub mod Closed
pub mod Replies
pub mod Crossing
pub mod There
