pub mod Lists
pub mod Looked
pub mod Transactions
