pub mod PiecesPut
pub mod EachLine
pub mod LineKeys
pub mod LineReports
pub mod SheetSizes
pub mod SheetMaking
