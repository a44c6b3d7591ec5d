pub mod Rows
pub mod Objects
pub mod Answered
pub mod Files
pub mod Advised
pub mod Why
