pub mod Inserted
pub mod Allowed
pub mod Lines
pub mod Listed
pub mod RewriteTokens
pub mod ScriptLies
