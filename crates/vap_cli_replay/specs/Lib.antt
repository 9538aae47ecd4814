pub mod AuditLine
pub mod Groups
pub mod Moves
pub mod Replay
pub mod Sessions
pub mod Streams
