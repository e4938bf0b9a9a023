pub mod ReplyStanding
pub mod Standing
