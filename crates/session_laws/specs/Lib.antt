pub mod OwnSessions
