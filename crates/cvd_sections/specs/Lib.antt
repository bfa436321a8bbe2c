pub mod Alone
pub mod Closing
pub mod Places
pub mod KindTables
pub mod Fields
pub mod Keys
