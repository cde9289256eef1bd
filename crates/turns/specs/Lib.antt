pub mod InLogs
