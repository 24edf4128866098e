pub mod Is
pub mod Lists
pub mod Tests
