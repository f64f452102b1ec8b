pub mod PageReports
