pub mod AnswerText
pub mod Printing
pub mod SheetSearch
pub mod Exam
