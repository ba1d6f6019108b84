pub mod RowsChecked
pub mod Texts
