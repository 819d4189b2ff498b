pub mod SheetReports
